-- How the lines read and the pairs given grow with each call of MessageText.
use Rattle.mime_text.proofs.Words.{◌≡◌, ◌∙◌, ◌++◌, ℕ, List, [], ◌∷◌, append_assoc, arith, Result, OnOk, IfErr, TextKind, SinkFault, TextFault, PassedPairs, Stopped, PassesPairs, IsOver, Comes, KnowsFacts}
use Rattle.std.proofs.lemmas.List.{append-nil}
use Rattle.mime_text.specs.declared.message_text.MessageText.{MessageText}
use Rattle.mime_text.specs.Fed.{Feeds, FeedsPart, FinishesTexts, FinishesPart}

abbrev Line : Type 0
Line = List ℕ

module _ {S : Type 0} (takes : S → TextKind → List ℕ → S → Type 0)
    (refuses : S → TextKind → List ℕ → SinkFault → S → Type 0) where
  pub feeds : (m n : MessageText) (l : Line) (s t : S) → n.ended ≡ m.ended
      → PassedPairs takes refuses (Comes m.reader) (Comes n.reader) (λ c ms. c (l ∷ ms)) s t
      → ((ls : List Line) → KnowsFacts m.reader ls → KnowsFacts n.reader (ls ++ l ∷ [])) → Feeds takes refuses m n l s t
  feeds m n l s t q h k = grind (arith, append_assoc)

  pub feeds_part : (m : MessageText) (l : Line) (fault : TextFault) (s t : S)
      → Stopped takes refuses (Comes m.reader) (λ c ms. c (l ∷ ms)) fault s t → FeedsPart takes refuses m l fault s t
  feeds_part m l fault s t h =
      record {
        pairs = h.pairs;
        broken = h.broken;
        front = λ ls ps f ms. (
          (h.front f.coming f.comes ms).0,
          grind (arith, append_assoc),
        );
      }

  pub finishes : (m : MessageText) (s t : S) → PassedPairs takes refuses (Comes m.reader) IsOver (λ c _. c []) s t
      → FinishesTexts takes refuses m s t
  finishes m s t h =
      record {
        pairs = h.pairs;
        taken = h.taken;
        whole = λ ls ps f. cc (
          append-nil ls,
          f.texts [],
          (h.rest f.coming f.comes).2 [],
          (h.rest f.coming f.comes).1 [],
          append-nil h.pairs,
        );
      }

  pub finishes-part : (m : MessageText) (fault : TextFault) (s t : S)
      → Stopped takes refuses (Comes m.reader) (λ c _. c []) fault s t → FinishesPart takes refuses m fault s t
  finishes-part m fault s t h =
      record {
        pairs = h.pairs;
        broken = h.broken;
        front = λ ls ps f. (
          (h.front f.coming f.comes []).0,
          grind (arith, append-nil, append_assoc),
        );
      }

  pub finishes-at : {T : Type 0} (m : MessageText) (result : Result T TextFault) (s t : S)
      → PassesPairs takes refuses (Comes m.reader) IsOver (λ c _. c []) result s t
      → OnOk result (FinishesTexts takes refuses m s t)
  finishes-at m result s t h = grind (arith, finishes)

  pub finishes-part_at : {T : Type 0} (m : MessageText) (result : Result T TextFault) (s t : S)
      → PassesPairs takes refuses (Comes m.reader) IsOver (λ c _. c []) result s t
      → IfErr result (λ fault. FinishesPart takes refuses m fault s t)
  finishes-part_at m result s t h = grind (arith, finishes-part)
