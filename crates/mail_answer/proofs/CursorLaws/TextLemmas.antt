-- The numbers of a look-up are those of the messages that have the text, because sorted keys have it only once.
use Rattle.mail_answer.proofs.Words.{◌≡◌, ◌∙◌, ℕ, Bool, true, false, ◌&&◌, List, [], ◌∷◌, map, refl, sym, ap, arith, bytes_eq, list_any, filter, AllByRecursion, and_left, and_right, and_from, and-false, and-true, Kind, Key, KeyBefore, AllNext, is_key, numbers_at, AreSorted, text_and_numbers, bytes_turned, is_number_among, texts_with, some_key, any_text}
use Rattle.std.specs.declared.cmp.Ordering.{Ordering}
use Rattle.std.specs.declared.cmp.Ordering.TheVariants.{Less, Equal}
use Rattle.std.specs.Ordering.{nat_cmp, is_eq, ordering_reverse}
use Rattle.std.specs.Cmp.Lexicographic.{slice_cmp}
use Rattle.std.specs.List.Sorted.{IsStrictlySortedBy}
use Rattle.std.proofs.lemmas.Cmp.{nat_list_cmp_total}
use Rattle.std.proofs.lemmas.Map.Text.{is_eq-slice_cmp}
use Rattle.mail_index.specs.Kinds.{kind_number}
use Rattle.mail_index.proofs.ViewLaws.LookUpLemmas.{key_bytes, is_key-greater}

-- ---- keys one after another

-- a key passes and has the number exactly if one of the texts of this number passes
pub fitting_keys : (passes : List ℕ → Bool) (n : ℕ) (ks : List Key)
    → list_any passes (map (λ (k : Key). k.text) (filter (λ k. is_number_among n k.numbers) ks))
    ≡ list_any (λ k. passes k.0 && is_number_among n k.1) (map text_and_numbers ks)
fitting_keys passes n [] = refl
fitting_keys passes n (k ∷ ks) = grind (arith, and-true, and-false, fitting_keys passes n ks)

-- each of the keys that pass has a text that passes
pub kept_keys : (passes : List ℕ → Bool) (n : ℕ) (ks : List Key) → some_key passes n (map text_and_numbers ks)
    ≡ some_key any_text n (map text_and_numbers (filter (λ k. passes k.text) ks))
kept_keys passes n [] = refl
kept_keys passes n (k ∷ ks) = grind (arith, kept_keys passes n ks)

-- ---- one key looked up

-- keys in the order of a table are strictly sorted
after : (a b : Key) (ks : List Key) → slice_cmp nat_cmp (key_bytes a) (key_bytes b) ≡ Less
    → AllByRecursion (λ y. slice_cmp nat_cmp (key_bytes b) y ≡ Less) (map key_bytes ks)
    → AllByRecursion (λ y. slice_cmp nat_cmp (key_bytes a) y ≡ Less) (map key_bytes ks)
after a b [] first rest = tt
after a b (k ∷ ks) first rest = (
  nat_list_cmp_total.trans (key_bytes a) (key_bytes b) (key_bytes k) first rest.0,
  after a b ks first rest.1,
)

pub sorted_keys : (ks : List Key) → AllNext KeyBefore ks → AreSorted ks
unfolding IsStrictlySortedBy
sorted_keys [] h = tt
sorted_keys (k ∷ []) h = (tt, tt)
sorted_keys (a ∷ b ∷ ks) h =
    let rest = sorted_keys (b ∷ ks) h.1 in
    let first = h.0 in
    ((first, after a b _ first rest.0), rest)

equal_from : (o : Ordering) → is_eq o ≡ true → o ≡ Equal
equal_from = grind arith

-- no key after this one is the same
no_second : (kind : Kind) (text : List ℕ) (k : Key) (ks : List Key) → is_key kind text k ≡ true
    → AllByRecursion (λ y. slice_cmp nat_cmp (key_bytes k) y ≡ Less) (map key_bytes ks) → numbers_at kind text ks ≡ []
no_second kind text k [] this later = refl
no_second kind text k (other ∷ ks) this later =
    let wanted = kind_number kind ∷ text in
    let same =
    equal_from _ (grind (arith, is_eq-slice_cmp)) in
    let here =
    sym (nat_list_cmp_total.congr (key_bytes k) wanted (key_bytes other) same) ∙ later.0 in
    let greater = nat_list_cmp_total.antisymm (key_bytes other) wanted
    ∙ ap ordering_reverse here in
    grind (arith, is_key-greater, no_second _ _ k ks this later.1)

-- one more key: of another kind, of this kind without the number, or with it
numbers_here : (kind : Kind) (text : List ℕ) (k : Key) (ks : List Key) (here : Bool) → is_key kind text k ≡ here
    → numbers_at kind text (k ∷ ks) ≡ (elim here [ true ↦ k.numbers | false ↦ numbers_at kind text ks ])
numbers_here = grind arith

looked_up_more : (kind : Kind) (text : List ℕ) (n : ℕ) (k : Key) (ks : List Key)
    → AllByRecursion (λ y. slice_cmp nat_cmp (key_bytes k) y ≡ Less) (map key_bytes ks)
    → list_any (bytes_eq text) (texts_with kind n ks) ≡ is_number_among n (numbers_at kind text ks)
    → list_any (bytes_eq text) (texts_with kind n (k ∷ ks)) ≡ is_number_among n (numbers_at kind text (k ∷ ks))
looked_up_more =
    grind (arith, and_left, numbers_here, and_right, bytes_turned, and_from, no_second)

-- the numbers of a look-up are those of the messages that have the text
pub looked_up : (kind : Kind) (text : List ℕ) (n : ℕ) (ks : List Key) → AreSorted ks
    → list_any (bytes_eq text) (texts_with kind n ks) ≡ is_number_among n (numbers_at kind text ks)
unfolding IsStrictlySortedBy
looked_up kind text n [] sorted = refl
looked_up kind text n (k ∷ ks) sorted = looked_up_more _ _ n k _ sorted.0 (looked_up _ _ n ks sorted.1)
