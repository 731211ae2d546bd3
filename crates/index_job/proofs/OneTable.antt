-- The table of archives has the numbers of the messages at their terms, and is the only such table.
use Rattle.index_job.proofs.Words.{◌≡◌, ◌∙◌, ℕ, suc, ◌<◌, ◌≤◌, Bool, true, false, cond, nat_eq, ◌&&◌, List, [], ◌∷◌, ◌++◌, length, map, refl, sym, ap, arith, append-nil, append_assoc, bytes_eq, AllByRecursion, Key, KeyBefore, AllNext, newest, with_pair, Message, text, Mbox, all_messages, table, with_terms, with_messages, Term, message_terms}
use Rattle.std.specs.Prelude.{◌≢◌, filter}
use Rattle.std.specs.List.{enumerate_from}
use Rattle.std.specs.declared.cmp.Ordering.{Ordering}
use Rattle.std.specs.declared.cmp.Ordering.TheVariants.{Less, Equal, Greater}
use Rattle.std.specs.Ordering.{is_eq, match_ordering, ordering_reverse}
use Rattle.std.proofs.lemmas.Bool.{eqb-true}
use Rattle.std.proofs.lemmas.Cmp.{nat_list_cmp_total, nat_list_eq_equiv}
use Rattle.std.proofs.lemmas.Map.Text.{is_eq-slice_cmp}
use Rattle.std.proofs.lemmas.Slice.Eq.{bytes_eq-Decides}
use Rattle.mail_index.specs.declared.kind.Kind.{Kind}
use Rattle.mail_index.specs.Kinds.{kind_number}
use Rattle.mail_index.specs.LookUps.{is_key, numbers_at}
use Rattle.mail_index.specs.OrderOfKeys.{key_cmp}
use Rattle.mail_index.specs.PostingLists.{end_from, with_number}
use Rattle.mail_index.specs.Tables.{Table}
use Rattle.mail_index.proofs.BuildLaws.DraftLemmas.{all-weaker}
use Rattle.mail_index.proofs.BuildLaws.KeyPlaces.{with_pair-sorted}
use Rattle.mail_index.proofs.BuildLaws.PostingLemmas.{with_number-low, with_number-new, with_number-nil}
use Rattle.mail_index.proofs.ViewLaws.KindNumbers.{kind_is}
use Rattle.mail_index.proofs.ViewLaws.LookUpLemmas.{key_bytes}
use Rattle.index_job.specs.MessageTerms.{has_term}
use Rattle.index_job.specs.OneTable.{IsTableOf}
use Rattle.index_job.proofs.SoundTables.Keys.{messages-listed, messages-sorted, terms-sorted}

-- ---- a key among sorted ones

-- comparing the wanted key with this one decides whether they are the same
key-compared : (kind : Kind) (term : List ℕ) (k : Key) (o : Ordering)
    → key_cmp (kind_number kind) term (kind_number k.kind) k.text ≡ o
    → is_key kind term k ≡ is_eq (ordering_reverse o)
key-compared kind term k o e =
    grind (arith, is_eq-slice_cmp, key_bytes, kind_number, is_eq, nat_list_cmp_total.antisymm, ordering_reverse)

-- then the kind and the text are the same
pub key-same : (kind : Kind) (term : List ℕ) (k : Key) → is_key kind term k ≡ true → (k.kind ≡ kind) × (k.text ≡ term)
key-same _ _ k e = grind (arith, eqb-true, kind_is, bytes_eq-Decides)

key-itself : (k : Key) → is_key k.kind k.text k ≡ true
key-itself k = grind (arith, nat_list_eq_equiv.refl (key_bytes k))

sorted-after : (k : Key) (ks : List Key) → AllNext KeyBefore (k ∷ ks) → AllNext KeyBefore ks
sorted-after k _ h = grind arith

-- the first key also comes before the third
skipped : (k j : Key) (ks : List Key) → AllNext KeyBefore (k ∷ j ∷ ks) → AllNext KeyBefore (k ∷ ks)
skipped k j [] h = tt
skipped k j (i ∷ ks) h = (nat_list_cmp_total.trans (key_bytes k) (key_bytes j) (key_bytes i) h.0 h.1.0, h.1.1)

-- a key that comes before all keys of a sorted list isn't in the list
pub none-after : (k : Key) (ks : List Key) → AllNext KeyBefore (k ∷ ks) → numbers_at k.kind k.text ks ≡ []
none-after k [] h = refl
none-after k (j ∷ ks) h = grind (arith, key-compared, none-after k ks (skipped k j _ h))

-- ---- sorted keys with the same numbers everywhere are the same

-- the first key has a number, so the numbers at its term aren't empty
none-first : (j : Key) (js : List Key) → 0 < length j.numbers → [] ≢ numbers_at j.kind j.text (j ∷ js)
none-first j _ some e = grind (arith, key-itself)

module _ (k j : Key) (ks js : List Key) (ks-sorted : AllNext KeyBefore (k ∷ ks))
    (js-sorted : AllNext KeyBefore (j ∷ js))
    (same : (kind : Kind) (term : List ℕ) → numbers_at kind term (k ∷ ks) ≡ numbers_at kind term (j ∷ js)) where
  -- the first keys are the same: otherwise the lower of them is missing in the other list
  first-same : 0 < length k.numbers → 0 < length j.numbers → k ≡ j
  first-same k-some j-some = go (key_cmp (kind_number k.kind) k.text (kind_number j.kind) j.text) refl
    where
      go : (o : Ordering) → key_cmp (kind_number k.kind) k.text (kind_number j.kind) j.text ≡ o → k ≡ j
      go Less e = absurd (none-first k ks k-some (sym (same k.kind k.text ∙ none-after k (j ∷ js) (e, js-sorted))))
      go Greater e =
          let before : KeyBefore j k = nat_list_cmp_total.antisymm (key_bytes j) (key_bytes k) ∙ ap ordering_reverse e
          in
          absurd (none-first j js j-some (sym (sym (same j.kind j.text) ∙ none-after j (k ∷ ks) (before, ks-sorted))))
      go Equal e =
          let is : is_key k.kind k.text j ≡ true = key-compared k.kind k.text j Equal e in
          let kind-same : j.kind ≡ k.kind = (key-same k.kind k.text j is).0 in
          let text-same : j.text ≡ k.text = (key-same k.kind k.text j is).1 in
          let numbers-same : k.numbers ≡ j.numbers = grind (arith, same k.kind k.text, key-itself k) in
          grind arith

  -- the remaining keys have the same numbers too
  rest-same : k ≡ j → (kind : Kind) (term : List ℕ) → numbers_at kind term ks ≡ numbers_at kind term js
  rest-same e kind term = go (is_key kind term k) refl
    where
      go : (b : Bool) → is_key kind term k ≡ b → numbers_at kind term ks ≡ numbers_at kind term js
      go true h = grind (arith, key-same kind term k h, none-after k ks ks-sorted, none-after j js js-sorted)
      go false h = grind (arith, same kind term)

one-list : (ks js : List Key) → AllNext KeyBefore ks → AllNext KeyBefore js
    → AllByRecursion (λ k. 0 < length k.numbers) ks → AllByRecursion (λ k. 0 < length k.numbers) js
    → ((kind : Kind) (term : List ℕ) → numbers_at kind term ks ≡ numbers_at kind term js) → ks ≡ js
one-list [] [] _ _ _ _ _ = refl
one-list [] (j ∷ js) _ _ _ js-some same = absurd (none-first j _ js-some.0 (same j.kind j.text))
one-list (k ∷ ks) [] _ _ ks-some _ same = absurd (none-first k _ ks-some.0 (sym (same k.kind k.text)))
one-list (k ∷ ks) (j ∷ js) ks-sorted js-sorted ks-some js-some same =
    let first = first-same k j ks js ks-sorted js-sorted same ks-some.0 js-some.0 in
    let rest = one-list ks js (sorted-after k _ ks-sorted) (sorted-after j _ js-sorted) ks-some.1 js-some.1
    (rest-same k j ks js ks-sorted js-sorted same first) in
    cc

pub one-table : (archives : List Mbox) (t u : Table) → IsTableOf archives t → IsTableOf archives u → t ≡ u
one-table _ t u of-t of-u = grind (arith, one-list)

-- ---- the numbers that the table has

end-pushed : (low : ℕ) (ns : List ℕ) (n : ℕ) → end_from low (ns ++ n ∷ []) ≡ suc n
end-pushed _ [] n = refl
end-pushed _ (x ∷ ns) n = end-pushed (suc x) ns n

-- a number that is there isn't added again
number-twice : (ns : List ℕ) (n : ℕ) → with_number (with_number ns n) n ≡ with_number ns n
number-twice ns n = grind (arith, end_from, with_number, with_number-low, with_number-new, end-pushed)

module _ (kind : Kind) (term : List ℕ) where
  abbrev is_term : Term → Bool
  is_term t = nat_eq (kind_number t.0) (kind_number kind) && bytes_eq term t.1

  abbrev at : List Key → List ℕ
  at ks = numbers_at kind term ks

  -- the numbers, with n if it is added
  abbrev added : Bool → ℕ → List Key → List ℕ
  added b n ks = cond b (with_number (at ks) n) (at ks)

  -- with one more pair: its number is added if it is of the term
  module _ (n : ℕ) (t : Term) where
    abbrev new : Key
    new = record { kind = t.0; text = t.1; numbers = n ∷ [] }

    new-is : is_key kind term new ≡ is_term t
    new-is = ap (λ (b : Bool). nat_eq (kind_number t.0) (kind_number kind) && b) (nat_list_eq_equiv.symm t.1 term)

    term-same : is_term t ≡ true → (t.0 ≡ kind) × (t.1 ≡ term)
    term-same e = key-same kind term new (new-is ∙ e)

    new-at : (ks : List Key) → AllNext KeyBefore (new ∷ ks) → at (new ∷ ks) ≡ added (is_term t) n ks
    new-at ks sorted = go (is_term t) refl
      where
        go : (b : Bool) → is_term t ≡ b → at (new ∷ ks) ≡ added b n ks
        go true e =
            let none : at ks ≡ [] = grind (arith, term-same e, none-after new ks sorted) in
            grind (arith, new-is, none, with_number-nil n)
        go false e = grind (arith, new-is)

    pair-at : (ks : List Key) → AllNext KeyBefore ks
        → at (with_pair t.0 t.1 n ks) ≡ added (is_term t) n ks
    pair-at [] sorted = new-at [] tt
    pair-at (k ∷ ks) sorted = go (key_cmp (kind_number t.0) t.1 (kind_number k.kind) k.text) refl
        (pair-at ks (sorted-after k ks sorted))
      where
        go : (o : Ordering) → key_cmp (kind_number t.0) t.1 (kind_number k.kind) k.text ≡ o
            → at (with_pair t.0 t.1 n ks) ≡ added (is_term t) n ks
            → at (match_ordering o (new ∷ k ∷ ks)
            (record { kind = k.kind; text = k.text; numbers = with_number k.numbers n } ∷ ks)
            (k ∷ with_pair t.0 t.1 n ks))
            ≡ added (is_term t) n (k ∷ ks)
        go Less e rest = new-at (k ∷ ks) (e, sorted)
        go Equal e rest =
            let same = key-same t.0 t.1 k (key-compared t.0 t.1 k Equal e) in
            let told : is_key kind term k ≡ is_term t = grind (arith, new-is) in
            grind arith
        go Greater e rest =
            let other : is_key t.0 t.1 k ≡ false = key-compared t.0 t.1 k Greater e in
            let apart : is_term t ≡ true → is_key kind term k ≡ false = λ h. grind (arith, term-same h) in
            grind (arith, apart)

  -- with the terms of a message: its number is added if the message has the term
  terms-at : (n : ℕ) (ts : List Term) (ks : List Key) → AllNext KeyBefore ks
      → at (with_terms n ts ks) ≡ added (has_term kind term ts) n ks
  terms-at n [] ks sorted = refl
  terms-at n (t ∷ ts) ks sorted =
      grind (
        arith,
        pair-at n t ks sorted,
        number-twice (at ks) n,
        terms-at n ts (with_pair t.0 t.1 n ks) (with_pair-sorted t.0 t.1 n ks sorted),
      )

  -- the numbers of the messages that have the term, if the first message has the number n
  abbrev pub numbers_from : ℕ → List Message → List ℕ
  numbers_from n ms = map (λ m. m.0) (filter (λ m. has_term kind term (message_terms (text m.1))) (enumerate_from n ms))

  pub numbers-cons : (n : ℕ) (m : Message) (ms : List Message)
      → numbers_from n (m ∷ ms) ≡ cond (has_term kind term (message_terms (text m))) (n ∷ numbers_from (suc n) ms)
      (numbers_from (suc n) ms)
  numbers-cons n m ms = grind arith

  -- with messages: the numbers of those that have the term are added
  pub messages-at : (n : ℕ) (ms : List Message) (ks : List Key) → AllNext KeyBefore ks → end_from 0 (at ks) ≤ n
      → at (with_messages n ms ks) ≡ at ks ++ numbers_from n ms
  messages-at n [] ks sorted low = sym (append-nil (at ks))
  messages-at n (m ∷ ms) ks sorted low =
      go (has_term kind term terms) refl (messages-at (suc n) ms more (terms-sorted n terms ks sorted))
    where
      ns : List ℕ
      ns = at ks

      terms : List Term
      terms = message_terms (text m)

      more : List Key
      more = with_terms n terms ks

      go : (b : Bool) → has_term kind term terms ≡ b
          → (end_from 0 (at more) ≤ suc n → at (with_messages (suc n) ms more) ≡ at more ++ numbers_from (suc n) ms)
          → at (with_messages (suc n) ms more) ≡ ns ++ numbers_from n (m ∷ ms)
      go true e rest =
          let here : at more ≡ ns ++ n ∷ [] = grind (arith, terms-at n terms ks sorted, with_number-new ns n low) in
          rest (omega (arith, ap (end_from 0) here, end-pushed 0 ns n))
          ∙ grind (arith, append_assoc, numbers-cons n m ms)
      go false e rest =
          let here : at more ≡ ns = grind (arith, terms-at n terms ks sorted) in
          rest (omega (arith, ap (end_from 0) here, low)) ∙ grind (arith, numbers-cons n m ms)

pub table-is : (archives : List Mbox) → IsTableOf archives (table archives)
table-is archives = record {
  version = refl;
  named = refl;
  records = refl;
  sorted = messages-sorted 0 (all_messages archives) [] tt;
  some_number = grind (arith, all-weaker, newest, length, all_messages, table, messages-listed);
  numbers = λ kind term. messages-at kind term 0 (all_messages archives) [] tt (omega arith);
}
