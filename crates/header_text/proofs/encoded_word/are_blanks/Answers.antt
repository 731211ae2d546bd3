-- All bytes are blanks exactly if nothing is left after the blanks at the front: induction over the bytes.
use Rattle.header_text.proofs.Words.{◌≡◌, ◌==◌, ℕ, List, [], ◌∷◌, length, refl, arith}
use Rattle.std.specs.List.{list_all}
use Rattle.header_text.specs.Blanks.{after_blanks}
use Rattle.contract_words.specs.Blanks.{is_blank}
use Rattle.header_text.proofs.encoded_word.are_blanks.Goals as goal

none : (bs : List ℕ) → (length (after_blanks bs) == 0) ≡ list_all is_blank bs
none [] = refl
none (b ∷ bs) = grind (arith, none bs)

pub returns : goal.returns
returns c = grind (arith, none)
