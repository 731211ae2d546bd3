-- The keys of a table say about a message what its own terms say, because each term was added with its number.
use Rattle.mairix_tool.proofs.Words.{◌≡◌, ◌∙◌, ℕ, zero, suc, ◌+◌, ◌<◌, Bool, true, false, cond, List, [], ◌∷◌, ◌++◌, length, map, filter, refl, ap, arith, ◌&&◌, ◌||◌, list_any, bytes_eq-Decides, nat_tests, Kind, Key, KeyBefore, AllNext, is_of_kind, keys_of, is_number_among, texts_with, Message, text, Term, message_terms, with_messages}
use Rattle.std.specs.Cmp.{both_ways}
use Rattle.mail_index.specs.LookUps.{is_key, numbers_at}
use Rattle.index_job.specs.MessageTerms.{has_term}
use Rattle.index_job.proofs.OneTable.{key-same, none-after, numbers_from, numbers-cons, messages-at}
use Rattle.index_job.proofs.SoundTables.Keys.{messages-sorted}
use Rattle.mairix_tool.proofs.TableLaws.Terms.{term_says}
use Rattle.mairix_tool.proofs.TableLaws.ThreadLinks.{rest-sorted}

-- ---- the numbers of a term

-- the terms of the message with this number; none after the last
abbrev pub terms_at : ℕ → List Message → List Term
terms_at n [] = []
terms_at zero (m ∷ ms) = message_terms (text m)
terms_at (suc n) (m ∷ ms) = terms_at n ms

terms-here : (n : ℕ) (before : List Message) (m : Message) (after : List Message) → length before ≡ n
    → terms_at n (before ++ m ∷ after) ≡ message_terms (text m)
terms-here zero [] m after h = refl
terms-here zero (x ∷ before) m after h = absurd (omega (arith, h))
terms-here (suc n) [] m after h = absurd (omega (arith, h))
terms-here (suc n) (x ∷ before) m after h = terms-here n before m _ (omega (arith, h))

module _ (kind : Kind) (term : List ℕ) where
  none-below : (n low : ℕ) (ms : List Message) → n < low → is_number_among n (numbers_from kind term low ms) ≡ false
  none-below n low [] h = refl
  none-below n low (m ∷ ms) h = grind (
    arith,
    nat_tests,
    numbers-cons kind term low m ms,
    none-below n (suc low) ms (omega (arith, h)),
  )

  numbers-tell : (n low i : ℕ) (ms : List Message) → low + i ≡ n → is_number_among n (numbers_from kind term low ms)
      ≡ has_term kind term (terms_at i ms)
  numbers-tell n low i [] h = refl
  numbers-tell n low zero (m ∷ ms) h =
      grind (arith, nat_tests, numbers-cons kind term low m ms, none-below n (suc low) ms (omega (arith, h)))
  numbers-tell n low (suc i) (m ∷ ms) h =
      grind (arith, nat_tests, numbers-cons kind term low m ms, numbers-tell n (suc low) i ms (omega (arith, h)))

-- ---- a text of the keys passes exactly if a term does

-- the key is of this kind and has this number, and its text passes
abbrev says : Kind → ℕ → (List ℕ → Bool) → Key → Bool
says kind n passes k = is_of_kind kind k && (is_number_among n k.numbers && passes k.text)

-- a text with this number passes exactly if a key says so
texts-say : (kind : Kind) (n : ℕ) (passes : List ℕ → Bool) (ks : List Key)
    → list_any passes (texts_with kind n ks) ≡ list_any (says kind n passes) ks
texts-say kind n passes [] = refl
texts-say kind n passes (k ∷ ks) = go _ (texts-say _ n _ ks)
  where
    with_number_too : (among : Bool) → list_any passes (texts_with kind n ks) ≡ list_any (says kind n passes) ks
        → list_any passes (map (λ (key : Key). key.text)
        (cond among (k ∷ filter (λ key. is_number_among n key.numbers) (keys_of kind ks))
        (filter (λ key. is_number_among n key.numbers) (keys_of kind ks))))
        ≡ ((among && passes k.text) || list_any (says kind n passes) ks)
    with_number_too among h = grind arith

    go : (of : Bool) → list_any passes (texts_with kind n ks) ≡ list_any (says kind n passes) ks
        → list_any passes (map (λ (key : Key). key.text)
        (filter (λ key. is_number_among n key.numbers) (cond of (k ∷ keys_of kind ks) (keys_of kind ks))))
        ≡ ((of && (is_number_among n k.numbers && passes k.text)) || list_any (says kind n passes) ks)
    go of h = grind (arith, with_number_too)

-- there is a text that passes both tests
abbrev SomePasses : (List ℕ → Bool) → (List ℕ → Bool) → Type 0
SomePasses passes has = (term : List ℕ) × (passes term ≡ true) × (has term ≡ true)

module _ (kind : Kind) (n : ℕ) (passes : List ℕ → Bool) where
  -- from the keys, by their numbers
  key-found : (ks : List Key) → AllNext KeyBefore ks → list_any (says kind n passes) ks ≡ true
      → SomePasses passes (λ term. is_number_among n (numbers_at kind term ks))
  key-found [] sorted e = absurd cc
  key-found (k ∷ ks) sorted e = go _ refl e (key-found ks (rest-sorted k _ sorted))
    where
      other : (term : List ℕ) → is_number_among n (numbers_at kind term ks) ≡ true
          → is_number_among n (numbers_at kind term (k ∷ ks))
          ≡ true
      other term h = by_key (is_key kind term k) refl
        where
          by_key : (b : Bool) → is_key kind term k ≡ b → is_number_among n (numbers_at kind term (k ∷ ks)) ≡ true
          by_key true is = grind (arith, key-same _ _ k is, none-after k _ sorted)
          by_key false is = grind arith

      go : (b : Bool) → says kind n passes k ≡ b → (b || list_any (says kind n passes) ks) ≡ true
          → (list_any (says kind n passes) ks ≡ true
          → SomePasses passes (λ term. is_number_among n (numbers_at kind term ks)))
          → SomePasses passes (λ term. is_number_among n (numbers_at kind term (k ∷ ks)))
      go true h e rest =
          let itself : is_key kind k.text k ≡ true = grind (arith, bytes_eq-Decides k.text k.text) in
          let passing : passes k.text ≡ true = grind arith in
          (k.text, passing, grind arith)
      go false h e rest = let found = rest e in (found.0, found.1, other found.0 found.2)

  key-says : (term : List ℕ) → passes term ≡ true → (ks : List Key) → is_number_among n (numbers_at kind term ks) ≡ true
      → list_any (says kind n passes) ks ≡ true
  key-says term h [] e = absurd cc
  key-says term h (k ∷ ks) e = go _ refl (key-says _ h ks)
    where
      go : (b : Bool) → is_key kind term k ≡ b
          → (is_number_among n (numbers_at kind term ks) ≡ true → list_any (says kind n passes) ks ≡ true)
          → list_any (says kind n passes) (k ∷ ks) ≡ true
      go true is rest = grind (arith, key-same _ _ k is)
      go false is rest = grind (arith, rest)

  -- from the terms
  term-found : (ts : List Term) → list_any (term_says kind passes) ts ≡ true
      → SomePasses passes (λ term. has_term kind term ts)
  term-found [] e = absurd cc
  term-found (t ∷ ts) e = go _ refl e (term-found ts)
    where
      go : (b : Bool) → term_says kind passes t ≡ b → (b || list_any (term_says kind passes) ts) ≡ true
          → (list_any (term_says kind passes) ts ≡ true → SomePasses passes (λ term. has_term kind term ts))
          → SomePasses passes (λ term. has_term kind term (t ∷ ts))
      go true h e rest =
          let itself = (bytes_eq-Decides _ t.1).1 refl in
          let passing : passes t.1 ≡ true = grind arith in
          (t.1, passing, grind arith)
      go false h e rest = let found = rest e in (found.0, found.1, grind (arith, found.2))

  term-says : (term : List ℕ) → passes term ≡ true → (ts : List Term) → has_term kind term ts ≡ true
      → list_any (term_says kind passes) ts ≡ true
  term-says term h [] e = absurd cc
  term-says term h (t ∷ ts) e = grind (arith, bytes_eq-Decides term t.1, term-says _ h ts)

  -- a text that the keys have for a message passes exactly if a term of the message passes
  pub keys-at : (ms : List Message)
      → list_any passes (texts_with kind n (with_messages 0 ms [])) ≡ list_any (term_says kind passes) (terms_at n ms)
  keys-at ms =
      texts-say kind n passes ks ∙ both_ways (list_any (says kind n passes) ks)
      (list_any (term_says kind passes) (terms_at n ms)) there back
    where
      ks : List Key
      ks = with_messages 0 ms []

      same : (term : List ℕ) → is_number_among n (numbers_at kind term ks) ≡ has_term kind term (terms_at n ms)
      same term = ap (is_number_among n) (messages-at kind term 0 ms [] tt (omega arith))
          ∙ numbers-tell kind term n 0 n ms (omega arith)

      there : list_any (says kind n passes) ks ≡ true → list_any (term_says kind passes) (terms_at n ms) ≡ true
      there e =
          let found = key-found ks (messages-sorted 0 ms [] tt) e in
          term-says found.0 found.1 (terms_at n ms) (grind (arith, same found.0, found.2))

      back : list_any (term_says kind passes) (terms_at n ms) ≡ true → list_any (says kind n passes) ks ≡ true
      back e = let found = term-found (terms_at n ms) e in key-says found.0 found.1 ks (same found.0 ∙ found.2)

  -- one message between the others
  pub keys-say : (before : List Message) (m : Message) (after : List Message) → length before ≡ n
      → list_any passes (texts_with kind n (with_messages 0 (before ++ m ∷ after) []))
      ≡ list_any (term_says kind passes) (message_terms (text m))
  keys-say before m after h = keys-at _
      ∙ ap (list_any (term_says kind passes)) (terms-here n _ m _ h)
