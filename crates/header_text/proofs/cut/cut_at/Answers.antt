-- `cut_at` cuts at the first such byte, because the search finds a place with none before it, or finds that there is
-- none.
use Rattle.header_text.proofs.Words.{◌≡◌, ◌∙◌, ◌+◌, ◌-◌, ◌==◌, length, take, drop, slice_index, suc, refl, arith, add-one, take_rest, false_from_ne_true}
use Rattle.header_text.proofs.CutLemmas.{cut_at-begins, cut_at-first, cut_at-none}
use Rattle.header_text.proofs.cut.cut_at.Goals as goal

pub returns-in_err-at : goal.returns-in_err-at
returns-in_err-at c = grind (arith, slice_index, false_from_ne_true, cut_at-none)

pub returns-2 : goal.returns-2
returns-2 c =
    let bytes = c.args.bytes.now in
    let at = c.in_ok-at.at in
    let after : take (length bytes - (at + 1)) (drop (at + 1) bytes) ≡ drop (suc at) bytes = take_rest bytes (at + 1)
    ∙ rw add-one refl in
    cc (
      after,
      cut_at-first c.args.byte bytes at c.in_ok-at.ensures.0.high c.in_ok-at.ensures.1
          (λ k lt. false_from_ne_true (slice_index bytes k == c.args.byte)
          (c.in_ok-at.ensures.0.before k (omega arith) lt)),
    )

pub returns : goal.returns
returns c = grind (arith, cut_at-begins)
