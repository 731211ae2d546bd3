-- Messages that were cut out of archives, closed and joined, are cut again into these, because no other line starts a
-- message.
use Rattle.mail_answer.proofs.Words.{◌≡◌, ℕ, suc, false, List, [], ◌∷◌, map, refl, arith, flat_map, concat_is, flat_map-map, AreCut, IsCutOut, IsCutInto, ends_in_return, closed_text}
use Rattle.std.specs.List.{All}
use Rattle.mail_answer.proofs.OutputLaws.ClosedMessages.{closed_first, closed_rest, text-closed, cut-closed, separator-same, inside-closed, is-closed}
use Rattle.mail_answer.proofs.OutputLaws.CutMessages.{IsText, cut-out}
use Rattle.mail_answer.proofs.OutputLaws.MessageLines.{Each, Group, IsMessage, IsClosed, lines_of, text_of, messages-cut}

-- the closed texts are those of closed messages
record AreMessages (gs : List Group) (texts : List (List ℕ)) : Type 0 where
  pub are : map text_of gs ≡ map closed_text texts
  pub messages : Each IsMessage gs
  pub closing : Each IsClosed gs
  pub each_line : Each (λ g. AreCut (lines_of g)) gs

abbrev closed_group : Group → Group
closed_group g = (closed_first g.0 g.1, closed_rest g.0 g.1)

one-more : (g : Group) (text : List ℕ) → IsText g text → ends_in_return text ≡ false
    → (gs : List Group) (texts : List (List ℕ)) → AreMessages gs texts
    → AreMessages (closed_group g ∷ gs) (text ∷ texts)
one-more = grind
    (arith, text_of, text-closed, separator-same, inside-closed, is-closed, cut-closed)

gathered : (texts : List (List ℕ)) → All IsCutOut texts → All (λ text. ends_in_return text ≡ false) texts
    → (gs : List Group) × AreMessages gs texts
gathered [] out other = ([], record { are = refl; messages = tt; closing = tt; each_line = tt })
gathered (text ∷ texts) out other =
    let rest =
    gathered texts (λ k d h. out (suc k) d (omega arith)) (λ k d h. other (suc k) d (omega arith)) in
    let here = cut-out _ (out 0 [] (omega arith)) in
    (closed_group here.0 ∷ rest.0, one-more _ _ here.1 (other 0 [] (omega arith)) _ _ rest.1)

pub cut-again : (texts : List (List ℕ)) → All IsCutOut texts → All (λ text. ends_in_return text ≡ false) texts
    → IsCutInto (flat_map closed_text texts) (map closed_text texts)
cut-again = grind (arith, gathered, concat_is, flat_map-map, messages-cut)
