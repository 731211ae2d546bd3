-- `Keyword::of` finds the first row with the name, because a row with another name changes nothing.
use Rattle.mairix_options.proofs.Words.{◌≡◌, ◌<◌, ◌+◌, ◌∙◌, ℕ, List, length, drop, get_or, false, bytes_eq, refl, sym}
use Rattle.std.proofs.Common.{add-one, drop-cons}
use Rattle.std.specs.Borrow.{Bor}
use Rattle.mairix_options.specs.declared.setting.Keyword.{Keyword}
use Rattle.mairix_options.proofs.setting.Keyword.of.Invariants.{keyword_in}
use Rattle.mairix_options.proofs.setting.Keyword.of.Goals as goal

passed : (option : List ℕ) (rows : List (Bor (List ℕ) × Keyword)) (i : ℕ) (row : Bor (List ℕ) × Keyword)
    → i < length rows → bytes_eq option ((get_or rows i row).0).now ≡ false
    → keyword_in option (drop (i + 1) rows) ≡ keyword_in option (drop i rows)
passed option rows i row within other = rw (add-one, drop-cons rows i row within, other) refl

pub loop-name-preserved : goal.loop-name-preserved
loop-name-preserved c = passed _ _ c.loop-name.name-index _ c.loop-name-test.true (sym c.eq.ensures ∙ c.if-eq.false)
    ∙ c.loop-name.invariant
