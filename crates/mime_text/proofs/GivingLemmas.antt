-- How the texts of fields are given to a sink, one after another.
use Rattle.mime_text.proofs.Words.{◌≡◌, ◌∙◌, ◌++◌, ℕ, List, [], ◌∷◌, Some, refl, append_assoc, arith, Result, Ok, Err, HeaderField, TextKind, SinkFault, TextFault, Failed, OutOfMemory, Sink, Pair, ComingPairs, Gave, Broke, Hands, Bool, kind_of_field, text_of_body, texts_of_fields, header_texts, before_blanks, unfolded_body, piece_of, parameter}
use Rattle.std.proofs.lemmas.List.{append-nil}
use Rattle.mime_text.specs.Inside.Showing.{Shows}

pub texts-some : (f : HeaderField) (k : TextKind) → kind_of_field f.name ≡ Some k → texts_of_fields (f ∷ [])
    ≡ (k, text_of_body f.body) ∷ []
texts-some f k e = grind arith

-- a header without fields has no texts
header-none : (counted : Bool) → header_texts counted [] ≡ []
unfolding before_blanks unfolded_body piece_of parameter
header-none counted = grind arith

module _ {S : Type 0} (takes : S → TextKind → List ℕ → S → Type 0)
    (refuses : S → TextKind → List ℕ → SinkFault → S → Type 0) where
  pub hands-one : {T : Type 0} (p : Pair) (result : Result T TextFault) (s t : S)
      → Shows takes refuses p.0 p.1 result s t → Hands takes refuses (λ _. p ∷ []) (λ _. []) result s t
  hands-one p (Ok x) s t h = record { pairs = p ∷ []; taken = (t, h, refl); rest = λ ms. refl }
  hands-one p (Err OutOfMemory) s t h = grind arith
  hands-one p (Err (Sink fault)) s t h = record
      { pairs = p ∷ []; broken = ([], p, s, refl, refl, h); front = λ ms. ([], refl) }
  hands-one p (Err Failed) s t h = absurd h

  -- a call that gives all of A gives the first of the pairs B, if B begins with those of A
  pub gave-front : (A B R : ComingPairs) (s t : S) → ((ms : List (List ℕ)) → B ms ≡ A ms ++ R ms)
      → Gave takes refuses A (λ _. []) s t → Gave takes refuses B R s t
  gave-front A B R s t e h = grind (arith, append-nil)

  pub broke-front : (A B R : ComingPairs) (fault : TextFault) (s t : S) → ((ms : List (List ℕ)) → B ms ≡ A ms ++ R ms)
      → Broke takes refuses A fault s t → Broke takes refuses B fault s t
  broke-front A B R fault s t e h =
      record {
        pairs = h.pairs;
        broken = h.broken;
        front = λ ms. (
          (h.front ms).0 ++ R ms,
          grind (arith, append_assoc),
        );
      }

  -- the pairs that come after the call may be replaced by equal ones
  pub gave-after : (A B C : ComingPairs) (s t : S) → ((ms : List (List ℕ)) → B ms ≡ C ms) → Gave takes refuses A B s t
      → Gave takes refuses A C s t
  gave-after A B C s t e h = grind arith

  -- a header without fields gives nothing
  pub gave-header_none : (counted : Bool) (fields : List HeaderField) (s : S) → fields ≡ []
      → Gave takes refuses (λ _. header_texts counted fields) (λ _. []) s s
  gave-header_none counted fields s e = grind (arith, header-none)
