-- Cutting bytes at a byte, and when the byte isn't there.
use Rattle.header_text.proofs.Words.{◌≡◌, ◌∙◌, ◌<◌, ◌≤◌, ◌-◌, ◌++◌, ◌==◌, ℕ, zero, suc, Bool, true, false, List, [], ◌∷◌, Option, Some, None, length, take, drop, get_or, slice_index, refl, ap, arith, option_map, not, split_while, eq-eqb, take_rest, cut_at}

-- the byte isn't among the bytes
abbrev pub Lacks : ℕ → List ℕ → Type 0
Lacks c [] = Unit {0}
Lacks c (b ∷ bs) = ((b == c) ≡ false) × Lacks c bs

-- the parts are what is before the first byte c, and what is after it
pub record IsCut (c : ℕ) (bytes before after : List ℕ) : Type 0 where
  pub joined : bytes ≡ before ++ c ∷ after
  pub free : Lacks c before

abbrev put : ℕ → Option (List ℕ × List ℕ) → Option (List ℕ × List ℕ)
put b o = option_map (λ parts. (b ∷ parts.0, parts.1)) o

cut_at-yes : (c b : ℕ) (bs : List ℕ) → (b == c) ≡ true → cut_at c (b ∷ bs) ≡ Some ([], bs)
cut_at-yes c b bs e = rw (e, cut_at) refl

cut_at-no : (c b : ℕ) (bs : List ℕ) → (b == c) ≡ false → cut_at c (b ∷ bs) ≡ put b (cut_at c bs)
cut_at-no c b bs e = rw (e, cut_at) refl

-- bytes that begin with it are cut at the front
pub cut_at-begins : (c : ℕ) (bs : List ℕ) → 1 ≤ length bs → get_or bs 0 0 ≡ c
    → Some ([], take (length bs - 1) (drop 1 bs)) ≡ cut_at c bs
cut_at-begins c [] some is = absurd (omega arith)
cut_at-begins c (b ∷ bs) some is = cc (take_rest (b ∷ bs) 1, cut_at-yes c b bs (eq-eqb b c is))

-- cut at a place: the first with this byte
pub cut_at-first : (c : ℕ) (bs : List ℕ) (at : ℕ) → at < length bs → (slice_index bs at == c) ≡ true
    → ((k : ℕ) → k < at → (slice_index bs k == c) ≡ false)
    → cut_at c bs ≡ Some (take at bs, drop (suc at) bs)
cut_at-first c [] at lt is before = absurd (omega arith)
cut_at-first c (b ∷ bs) zero lt is before = cut_at-yes c b bs is
cut_at-first c (b ∷ bs) (suc at) lt is before =
    cut_at-no c b bs (before 0 (omega arith))
    ∙ ap (put b) (cut_at-first c bs at (omega arith) is (λ k l. before (suc k) (omega arith)))

pub cut_at-none : (c : ℕ) (bs : List ℕ) → ((k : ℕ) → k < length bs → (slice_index bs k == c) ≡ false) → cut_at c bs
    ≡ None
cut_at-none c [] before = refl
cut_at-none c (b ∷ bs) before = cut_at-no c b bs (before 0 (omega arith))
    ∙ ap (put b) (cut_at-none c bs (λ k l. before (suc k) (omega arith)))

-- cut into given parts: the first of them doesn't have the byte
pub cut_at-is : (c : ℕ) (before after : List ℕ) → Lacks c before → cut_at c (before ++ c ∷ after)
    ≡ Some (before, after)
cut_at-is c [] after free = cut_at-yes c c after (grind arith)
cut_at-is c (b ∷ before) after free = grind (arith, cut_at-is c before after free.1)

pub IsCut-from : (c : ℕ) (bytes before after : List ℕ) → cut_at c bytes ≡ Some (before, after)
    → IsCut c bytes before after
IsCut-from c [] before after e = absurd (cc)
IsCut-from c (b ∷ bs) before after e = go (b == c) refl (cut_at c bs) refl (IsCut-from c bs)
  where
    parts : List ℕ × List ℕ
    parts = (before, after)

    go : (t : Bool) → (b == c) ≡ t → (o : Option (List ℕ × List ℕ)) → cut_at c bs ≡ o
        → ((x y : List ℕ) → cut_at c bs ≡ Some (x, y) → IsCut c bs x y) → IsCut c (b ∷ bs) before after
    go true t o f later = grind arith
    go false t None f later = grind arith
    go false t (Some (x, y)) f later =
        let inner = later x y f in
        grind arith

pub Lacks-from : (c : ℕ) (bytes : List ℕ) → cut_at c bytes ≡ None → Lacks c bytes
Lacks-from c [] e = tt
Lacks-from c (b ∷ bs) e = grind (arith, Lacks-from c bs)

-- the front up to a byte is what is before it
pub split_while-lacks : (c : ℕ) (before after : List ℕ) → Lacks c before
    → split_while (λ b. not (b == c)) (before ++ c ∷ after) ≡ (before, c ∷ after)
split_while-lacks c [] after free = grind arith
split_while-lacks c (b ∷ before) after free = grind (arith, split_while-lacks c before after free.1)

pub split_while-cut : (c : ℕ) (bytes before after : List ℕ) → cut_at c bytes ≡ Some (before, after)
    → (split_while (λ b. not (b == c)) bytes).0 ≡ before
split_while-cut c bytes before after e =
    let cut = IsCut-from c bytes before after e in
    grind (arith, split_while-lacks)

split_while-whole : (c : ℕ) (bytes : List ℕ) → Lacks c bytes → split_while (λ b. not (b == c)) bytes ≡ (bytes, [])
split_while-whole c [] free = refl
split_while-whole c (b ∷ bytes) free = grind (arith, split_while-whole c bytes free.1)

pub split_while-free : (c : ℕ) (bytes : List ℕ) → cut_at c bytes ≡ None → (split_while (λ b. not (b == c)) bytes).0
    ≡ bytes
split_while-free c bytes e = grind (arith, split_while-whole, Lacks-from)
