-- No row so far has this name, so the keyword is that of the first row left that has it.
use Rattle.mairix_options.proofs.Words.{◌≡◌, ℕ, List, [], ◌∷◌, drop, if◌then◌else◌, Option, None, Some, bytes_eq, keyword_of}
use Rattle.std.specs.Borrow.{Bor}
use Rattle.mairix_options.specs.declared.setting.Keyword.{Keyword}
use Rattle.mairix_options.proofs.setting.Keyword.of.Given as goal

-- the option of the first row with this name
abbrev pub keyword_in : List ℕ → List (Bor (List ℕ) × Keyword) → Option Keyword
keyword_in option [] = None
keyword_in option (row ∷ rows) = if bytes_eq option (row.0).now then Some row.1 else keyword_in option rows

abbrev pub invariant-loop-name : goal.invariant-loop-name
invariant-loop-name l = keyword_in l.option (drop l.name-index l.name-items) ≡ keyword_of l.option
