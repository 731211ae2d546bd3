-- What a sink was given, call by call.
use Rattle.mime_text.proofs.Words.{◌≡◌, ◌∙◌, ◌++◌, ℕ, List, [], ◌∷◌, append_assoc, arith, Result, Ok, Err, IsErrAnd, TextKind, SinkFault, TextFault, Pair, ComingPairs, TakesAll, Breaks, Gave, Broke, Hands}

-- a fault that is returned to the caller
pub fault-up : {T : Type 0} (result : Result T TextFault) (fault : TextFault) → IsErrAnd result (λ f. f ≡ fault)
    → result ≡ Err fault
fault-up result fault h = grind arith

module _ {S : Type 0} (takes : S → TextKind → List ℕ → S → Type 0)
    (refuses : S → TextKind → List ℕ → SinkFault → S → Type 0) where
  taken-append : (ps qs : List Pair) (s t u : S) → TakesAll takes refuses ps s t → TakesAll takes refuses qs t u
      → TakesAll takes refuses (ps ++ qs) s u
  taken-append [] qs s t u h k = grind arith
  taken-append (p ∷ ps) qs s t u h k = (h.0, h.1, taken-append ps qs h.0 t u h.2 k)

  breaks-append : (fault : TextFault) (ps qs : List Pair) (s t u : S) → TakesAll takes refuses ps s t
      → Breaks takes refuses fault qs t u → Breaks takes refuses fault (ps ++ qs) s u
  breaks-append fault ps qs s t u h h2 = grind (arith, taken-append, append_assoc)

  -- one call after another
  pub gave-more : (A B C : ComingPairs) (s t u : S) → Gave takes refuses A B s t → Gave takes refuses B C t u
      → Gave takes refuses A C s u
  gave-more A B C s t u h k = grind (arith, taken-append, append_assoc)

  pub broke-later : (A B : ComingPairs) (fault : TextFault) (s t u : S) → Gave takes refuses A B s t
      → Broke takes refuses B fault t u → Broke takes refuses A fault s u
  broke-later A B fault s t u h k =
      record {
        pairs = h.pairs ++ k.pairs;
        broken = grind (arith, breaks-append);
        front = λ ms. (
          (k.front ms).0,
          grind (arith, append_assoc),
        );
      }

  pub hands-later : {T : Type 0} (A B C : ComingPairs) (result : Result T TextFault) (s t u : S)
      → Gave takes refuses A B s t
      → Hands takes refuses B C result t u → Hands takes refuses A C result s u
  hands-later A B C (Ok x) s t u h k = gave-more A B C s t u h k
  hands-later A B C (Err fault) s t u h k = broke-later A B fault s t u h k

  -- the same for other lines to come
  pub gave-along : (A B A' B' : ComingPairs) (to : List (List ℕ) → List (List ℕ)) (s t : S)
      → ((ms : List (List ℕ)) → A' ms ≡ A (to ms)) → ((ms : List (List ℕ)) → B' ms ≡ B (to ms))
      → Gave takes refuses A B s t → Gave takes refuses A' B' s t
  gave-along A B A' B' to s t p q h = grind arith

  pub broke-along : (A A' : ComingPairs) (to : List (List ℕ) → List (List ℕ)) (fault : TextFault) (s t : S)
      → ((ms : List (List ℕ)) → A' ms ≡ A (to ms))
      → Broke takes refuses A fault s t → Broke takes refuses A' fault s t
  broke-along A A' to fault s t p h =
      record { pairs = h.pairs; broken = h.broken; front = λ ms. ((h.front (to ms)).0, p ms ∙ (h.front (to ms)).1) }

  pub hands-along : {T : Type 0} (A B A' B' : ComingPairs) (to : List (List ℕ) → List (List ℕ))
      (result : Result T TextFault)
      (s t : S) → ((ms : List (List ℕ)) → A' ms ≡ A (to ms))
      → ((ms : List (List ℕ)) → B' ms ≡ B (to ms)) → Hands takes refuses A B result s t
      → Hands takes refuses A' B' result s t
  hands-along A B A' B' to (Ok x) s t p q h = gave-along A B A' B' to s t p q h
  hands-along A B A' B' to (Err fault) s t p q h = broke-along A A' to fault s t p h
