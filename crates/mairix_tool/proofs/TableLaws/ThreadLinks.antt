-- The table of archives links two messages exactly if they share a link id, because no two keys have the same id.
use Rattle.mairix_tool.proofs.Words.{◌≡◌, ◌∙◌, ℕ, Bool, true, false, cond, ◌&&◌, ◌||◌, List, [], ◌∷◌, map, filter, refl, sym, ap, subst, arith, list_any, Less, eqb-true, bytes_eq-Decides, Kind, LinkId, kind_number, Key, KeyBefore, AllNext, is_of_kind, keys_of, is_number_among, texts_with, share_id}
use Rattle.std.specs.Str.{bytes_eq}
use Rattle.std.proofs.lemmas.Cmp.{nat_list_cmp_total, tied_itself}
use Rattle.mail_index.specs.OrderOfKeys.{key_cmp}

-- ---- a text that no other key has

-- no key of these has the text
abbrev pub IsNew : List ℕ → List Key → Type 0
IsNew text ks = list_any (λ k. bytes_eq text k.text) ks ≡ false

-- each key has a text of its own
abbrev pub AreApart : List Key → Type 0
AreApart [] = Unit {0}
AreApart (k ∷ ks) = IsNew k.text ks × AreApart ks

-- texts of the keys that have a number
abbrev texts_of : ℕ → List Key → List (List ℕ)
texts_of n ks = map (λ k. k.text) (filter (λ k. is_number_among n k.numbers) ks)

bytes-same : (xs : List ℕ) → bytes_eq xs xs ≡ true
bytes-same xs = (bytes_eq-Decides xs _).1 refl

bytes-turned : (xs ys : List ℕ) → bytes_eq xs ys ≡ false → bytes_eq ys xs ≡ false
bytes-turned xs ys e = go _ refl
  where
    go : (b : Bool) → bytes_eq ys xs ≡ b → bytes_eq ys xs ≡ false
    go b h = grind (arith, bytes_eq-Decides)

or-none : (a b : Bool) → (a || b) ≡ false → (a ≡ false) × (b ≡ false)
or-none = grind arith

-- a new text isn't among the texts of these keys
new-of : (n : ℕ) (text : List ℕ) (ks : List Key) → IsNew text ks → list_any (bytes_eq text) (texts_of n ks) ≡ false
new-of n text [] new = refl
new-of n text (k ∷ ks) new = go _ (λ later. new-of n _ ks later)
  where
    both : (bytes_eq text k.text ≡ false) × IsNew text ks
    both = or-none _ _ new

    go : (b : Bool) → (IsNew text ks → list_any (bytes_eq text) (texts_of n ks) ≡ false)
        → list_any (bytes_eq text) (map (λ (j : Key). j.text)
        (cond b (k ∷ filter (λ (j : Key). is_number_among n j.numbers) ks)
        (filter (λ (j : Key). is_number_among n j.numbers) ks))) ≡ false
    go true rest = ap (λ b. b || list_any (bytes_eq text) (texts_of n ks)) both.0 ∙ rest both.1
    go false rest = rest both.1

-- the texts of these keys share a new text with no others
without-new : (m : ℕ) (text : List ℕ) (others : List (List ℕ)) (ks : List Key) → IsNew text ks
    → share_id (texts_of m ks) (text ∷ others) ≡ share_id (texts_of m ks) others
without-new m text others [] new = refl
without-new m text others (k ∷ ks) new = go _ (λ later. without-new m _ _ ks later)
  where
    both : (bytes_eq text k.text ≡ false) × IsNew text ks
    both = or-none _ _ new

    rest : List Key
    rest = filter (λ j. is_number_among m j.numbers) ks

    go : (b : Bool) → (IsNew text ks → share_id (texts_of m ks) (text ∷ others) ≡ share_id (texts_of m ks) others)
        → share_id (map (λ (j : Key). j.text) (cond b (k ∷ rest) rest)) (text ∷ others)
        ≡ share_id (map (λ (j : Key). j.text) (cond b (k ∷ rest) rest)) others
    go true later =
        ap (λ b. (b || list_any (bytes_eq k.text) others) || share_id (texts_of m ks) (text ∷ others))
        (bytes-turned _ k.text both.0)
        ∙ ap (λ b. list_any (bytes_eq k.text) others || b) (later both.1)
    go false later = later both.1

-- ---- a key has both numbers exactly if both have a common text

both-keys : (m n : ℕ) (ks : List Key) → AreApart ks
    → list_any (λ (k : Key). is_number_among m k.numbers && is_number_among n k.numbers) ks
    ≡ share_id (texts_of m ks) (texts_of n ks)
both-keys m n [] apart = refl
both-keys m n (k ∷ ks) apart = go _ _ (both-keys m n ks apart.1)
  where
    ms : List Key
    ms = filter (λ j. is_number_among m j.numbers) ks

    ns : List Key
    ns = filter (λ j. is_number_among n j.numbers) ks

    go : (a b : Bool) → list_any (λ (j : Key). is_number_among m j.numbers && is_number_among n j.numbers) ks
        ≡ share_id (texts_of m ks) (texts_of n ks)
        → ((a && b) || list_any (λ (j : Key). is_number_among m j.numbers && is_number_among n j.numbers) ks)
        ≡ share_id (map (λ (j : Key). j.text) (cond a (k ∷ ms) ms)) (map (λ (j : Key). j.text) (cond b (k ∷ ns) ns))
    go true true e = sym (ap (λ b. (b || list_any (bytes_eq k.text) (texts_of n ks)) || share_id
        (texts_of m ks) (k.text ∷ texts_of n ks)) (bytes-same k.text))
    go true false e = e ∙ sym (ap (λ b. b || share_id (texts_of m ks) (texts_of n ks))
        (new-of n _ ks apart.0))
    go false true e = e ∙ sym (without-new m _ _ ks apart.0)
    go false false e = e

-- ---- sorted keys of a kind have different texts

before-through : (a b c : Key) → KeyBefore a b → KeyBefore b c → KeyBefore a c
before-through a b c one two = nat_list_cmp_total.trans (kind_number a.kind ∷ a.text) (kind_number b.kind ∷ b.text)
    (kind_number c.kind ∷ c.text) one two

-- the key comes before each of these
abbrev pub BeforeAll : Key → List Key → Type 0
BeforeAll a [] = Unit {0}
BeforeAll a (k ∷ ks) = KeyBefore a k × BeforeAll a ks

before-all : (a b : Key) (ks : List Key) → KeyBefore a b → AllNext KeyBefore (b ∷ ks) → BeforeAll a (b ∷ ks)
before-all a b [] first next = (first, tt)
before-all a b (k ∷ ks) first next = (first, before-all a k ks (before-through a b k first next.0) next.1)

pub below-all : (a : Key) (ks : List Key) → AllNext KeyBefore (a ∷ ks) → BeforeAll a ks
below-all = grind (arith, before-all)

pub rest-sorted : (a : Key) (ks : List Key) → AllNext KeyBefore (a ∷ ks) → AllNext KeyBefore ks
rest-sorted = grind arith

not-same-text : (kind : Kind) (a k : Key) → is_of_kind kind a ≡ true → is_of_kind kind k ≡ true → KeyBefore a k
    → bytes_eq a.text k.text ≡ false
not-same-text kind a k of_a of_k before = go _ refl
  where
    kinds : kind_number a.kind ≡ kind_number k.kind
    kinds = eqb-true (kind_number a.kind) (kind_number kind) of_a
        ∙ sym (eqb-true (kind_number k.kind) (kind_number kind) of_k)

    -- a key doesn't come before itself
    never : KeyBefore a k → a.text ≡ k.text → ⊥
    never first same =
        let itself =
        subst (λ x. key_cmp (kind_number k.kind) x (kind_number k.kind) k.text ≡ Less) same
        (subst (λ (n : ℕ). key_cmp n a.text (kind_number k.kind) k.text ≡ Less) kinds first) in
        let tie =
        tied_itself nat_list_cmp_total (kind_number k.kind ∷ k.text) in
        cc

    go : (b : Bool) → bytes_eq a.text k.text ≡ b → bytes_eq a.text k.text ≡ false
    go b h = grind (arith, never, bytes_eq-Decides)

new-among : (kind : Kind) (a : Key) (ks : List Key) → is_of_kind kind a ≡ true → BeforeAll a ks
    → IsNew a.text (keys_of kind ks)
new-among kind a [] of_a before = refl
new-among kind a (k ∷ ks) of_a before = go _ refl (new-among _ a ks of_a before.1)
  where
    go : (b : Bool) → is_of_kind kind k ≡ b → IsNew a.text (keys_of kind ks)
        → list_any (λ (j : Key). bytes_eq a.text j.text) (cond b (k ∷ keys_of kind ks) (keys_of kind ks)) ≡ false
    go true is later = ap (λ b. b || list_any (λ j. bytes_eq a.text j.text) (keys_of kind ks))
        (not-same-text _ a k of_a is before.0) ∙ later
    go false is later = later

pub sorted-apart : (kind : Kind) (ks : List Key) → AllNext KeyBefore ks → AreApart (keys_of kind ks)
sorted-apart kind [] sorted = tt
sorted-apart kind (k ∷ ks) sorted = go _ refl (λ rest. sorted-apart _ ks rest)
  where
    go : (b : Bool) → is_of_kind kind k ≡ b → (AllNext KeyBefore ks → AreApart (keys_of kind ks))
        → AreApart (cond b (k ∷ keys_of kind ks) (keys_of kind ks))
    go true is later = (new-among _ k _ is (below-all k _ sorted), later (rest-sorted k _ sorted))
    go false is later = later (rest-sorted k _ sorted)

-- a link id of sorted keys has both numbers exactly if both have a common link id
pub linked-by-texts : (m n : ℕ) (ks : List Key) → AllNext KeyBefore ks
    → list_any (λ (k : Key). is_number_among m k.numbers && is_number_among n k.numbers) (keys_of LinkId ks)
    ≡ share_id (texts_with LinkId m ks) (texts_with LinkId n ks)
linked-by-texts m n ks sorted = both-keys m n (keys_of LinkId ks) (sorted-apart LinkId ks sorted)
