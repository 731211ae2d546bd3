-- Two equal lists of bytes begin with equal parts, if these have the same lengths.
use Rattle.mail_index.proofs.Words.{◌≡◌, ℕ, ◌^◌, ◌<◌, List, [], ◌∷◌, ◌++◌, length, map, refl, sym, ap, ◌∙◌, append_assoc, arith, flat_map, unwrap_or, concat, AllByRecursion, from_be_bytes, from_be_bytes-to_be_bytes_4, from_be_bytes-to_be_bytes_8, Archive, IsArchive, be32, be64, archive_bytes}
use Rattle.mail_index.proofs.ViewLaws.DigestReads.{same_size, digest_is}

pub split : (a b x y : List ℕ) → length a ≡ length b → a ++ x ≡ b ++ y → (a ≡ b) × (x ≡ y)
split [] [] x y h e = (refl, e)
split [] (d ∷ b) x y h e = absurd (omega arith)
split (c ∷ a) [] x y h e = absurd (omega arith)
split (c ∷ a) (d ∷ b) x y h e =
    let r = split a b x y (omega arith) cc in
    (cc, r.1)

-- the lists one after another, and then the rest
abbrev pub before : List (List ℕ) → List ℕ → List ℕ
before [] x = x
before (y ∷ ys) x = y ++ before ys x

pub concat_then : (xs : List (List ℕ)) (x : List ℕ) → concat xs ++ x ≡ before xs x
concat_then [] x = refl
concat_then (y ∷ ys) x = append_assoc y _ x ∙ ap (λ (t : List ℕ). y ++ t) (concat_then ys x)

pub same_parts : (xs ys : List (List ℕ)) (x y : List ℕ) → map length xs ≡ map length ys → before xs x ≡ before ys y
    → (xs ≡ ys) × (x ≡ y)
same_parts [] [] x y h e = (refl, e)
same_parts [] (b ∷ ys) x y h e = absurd cc
same_parts (a ∷ xs) [] x y h e = absurd cc
same_parts (a ∷ xs) (b ∷ ys) x y h e =
    let h₁ : length a ≡ length b = cc in
    let h₂ : map length xs ≡ map length ys = cc in
    let s = split a b _ _ h₁ e in
    let r = same_parts xs ys x y h₂ s.1 in
    (cc, r.1)

pub be32_is : (n m : ℕ) → n < 2 ^ 32 → m < 2 ^ 32 → be32 n ≡ be32 m → n ≡ m
be32_is n m hn hm e = grind (arith, from_be_bytes-to_be_bytes_4, from_be_bytes)

pub be64_is : (n m : ℕ) → n < 2 ^ 64 → m < 2 ^ 64 → be64 n ≡ be64 m → n ≡ m
be64_is n m hn hm e = grind (arith, from_be_bytes-to_be_bytes_8, from_be_bytes)

-- the bytes of as many items in both lists
pub front_each : {A : Type 0} (f : A → List ℕ) (P : A → Type 0)
    → ((a b : A) (x y : List ℕ) → P a → P b → f a ++ x ≡ f b ++ y → (a ≡ b) × (x ≡ y))
    → (xs ys : List A) (x y : List ℕ) → length xs ≡ length ys → AllByRecursion P xs → AllByRecursion P ys
    → flat_map f xs ++ x ≡ flat_map f ys ++ y → (xs ≡ ys) × (x ≡ y)
front_each f P _ [] [] x y h p q e = (refl, e)
front_each f P front [] (b ∷ ys) x y h p q e = absurd (omega arith)
front_each f P front (a ∷ xs) [] x y h p q e = absurd (omega arith)
front_each f P front (a ∷ xs) (b ∷ ys) x y h p q e =
    let s = front a b (flat_map f xs ++ x) (flat_map f ys ++ y) p.0 q.0
    (sym (append_assoc _ _ x) ∙ e ∙ append_assoc _ _ y) in
    let r = front_each f P front xs ys x y (omega arith) p.1 q.1 s.1 in
    (cc, r.1)

pub archive_front : (version : ℕ) (a b : Archive) (x y : List ℕ) → IsArchive version a → IsArchive version b
    → archive_bytes a ++ x ≡ archive_bytes b ++ y → (a ≡ b) × (x ≡ y)
archive_front version a b x y p q e =
    let e' = sym (concat_then (be64 a.length ∷ be32 (length a.path) ∷ a.path ∷ unwrap_or a.digest [] ∷ []) x) ∙ e
    ∙ concat_then (be64 b.length ∷ be32 (length b.path) ∷ b.path ∷ unwrap_or b.digest [] ∷ []) y in
    let s = same_parts (be64 a.length ∷ be32 (length a.path) ∷ []) (be64 b.length ∷ be32 (length b.path) ∷ []) _ _ refl
    e' in
    let sizes = be64_is _ _ (omega arith) (omega arith)
    (ap (λ (l : List (List ℕ)). Rattle.std.proofs.Common.get_or l 0 []) s.0) in
    let lengths = be32_is _ _ (omega arith) (omega arith)
    (ap (λ (l : List (List ℕ)). Rattle.std.proofs.Common.get_or l 1 []) s.0) in
    let r = split _ _ _ _ lengths s.1 in
    let t = split _ _ x y (same_size _ _ _ p.2 q.2) r.1 in
    let digest = digest_is _ _ _ p.2 q.2 t.0 in
    grind (arith, length)
