-- A number that was read from bytes is written back as the same bytes.
use Rattle.mail_index.proofs.Words.{length-take-le, ◌≡◌, ℕ, zero, suc, ◌+◌, ◌<◌, ◌≤◌, List, [], ◌∷◌, ◌++◌, length, take, drop, get_or, refl, Bool, true, ◌&&◌, sym, ap, ◌∙◌, arith, length-drop, take-append-drop, drop-drop, be_bytes_4, be_bytes_8, byte_at, u32_at, u64_at, be32, be64}
unfoldable use Rattle.sha2.specs.Sha256.{digest_bytes, sha256}

pub record AreBytes (bytes : List ℕ) : Type 0 where
  pub below : (i : ℕ) → get_or bytes i 0 < 256

tail_below : (b : ℕ) (bs : List ℕ) → ((i : ℕ) → get_or (b ∷ bs) i 0 < 256) → (i : ℕ) → get_or bs i 0 < 256
tail_below b _ h i = h (suc i)

drop_below : (n : ℕ) (bytes : List ℕ) → ((i : ℕ) → get_or bytes i 0 < 256) → (i : ℕ) → get_or (drop n bytes) i 0 < 256
drop_below zero _ h i = h i
drop_below (suc n) [] h i = h i
drop_below (suc n) (b ∷ bs) h i = drop_below n bs (tail_below b _ h) i

take_below : (n : ℕ) (bytes : List ℕ) → ((i : ℕ) → get_or bytes i 0 < 256) → (i : ℕ) → get_or (take n bytes) i 0 < 256
take_below zero _ h i = omega arith
take_below (suc n) [] h i = h i
take_below (suc n) (b ∷ bs) h zero = h zero
take_below (suc n) (b ∷ bs) h (suc i) = take_below n bs (tail_below b _ h) i

pub bytes_after : (n : ℕ) (bytes : List ℕ) → AreBytes bytes → AreBytes (drop n bytes)
bytes_after n bytes h = record { below = drop_below n _ h.below }

pub bytes_before : (n : ℕ) (bytes : List ℕ) → AreBytes bytes → AreBytes (take n bytes)
bytes_before n bytes h = record { below = take_below n _ h.below }

append_below : (xs ys : List ℕ) → ((i : ℕ) → get_or xs i 0 < 256) → ((i : ℕ) → get_or ys i 0 < 256) → (i : ℕ)
    → get_or (xs ++ ys) i 0 < 256
append_below [] _ h k i = k i
append_below (x ∷ xs) _ h k zero = h zero
append_below (x ∷ xs) ys h k (suc i) = append_below xs ys (tail_below x _ h) k i

pub bytes_of_both : (xs ys : List ℕ) → AreBytes xs → AreBytes ys → AreBytes (xs ++ ys)
bytes_of_both xs ys h k = record { below = append_below _ _ h.below k.below }

-- ---- the bytes of a digest

be32_below : (n i : ℕ) → get_or (be32 n) i 0 < 256
be32_below n zero = omega arith
be32_below n (suc zero) = omega arith
be32_below n (suc (suc zero)) = omega arith
be32_below n (suc (suc (suc zero))) = omega arith
be32_below n (suc (suc (suc (suc i)))) = omega arith

words_below : (words : List ℕ) (n i : ℕ) → get_or (digest_bytes words n) i 0 < 256
unfolding digest_bytes
words_below _ zero i = omega arith
words_below words (suc n) i = append_below _ _ (words_below words n) (be32_below _) i

pub sha256_bytes : (m : List ℕ) → AreBytes (sha256 m)
unfolding sha256
sha256_bytes m = record { below = words_below _ 8 }

pub length_part : (k : ℕ) (bytes : List ℕ) → k ≤ length bytes → length (take k bytes) ≡ k
length_part k bytes h = length-take-le k _ h

-- four bytes, and what follows them
pub u32_back : (bytes : List ℕ) (i j : ℕ) → AreBytes bytes → i + 4 ≤ length bytes → j ≡ i + 4
    → be32 (u32_at bytes i) ++ drop j bytes ≡ drop i bytes
u32_back bytes i j h l e =
    let b = be_bytes_4 _ (u32_at bytes i) (length_part 4 (drop i _) (omega (arith, length-drop i bytes)))
    (take_below 4 _ (drop_below i _ h.below)) refl in
    ap (λ (x : List ℕ). x ++ drop j bytes) b
    ∙ ap (λ (y : List ℕ). take 4 (drop i bytes) ++ y)
    (sym (drop-drop 4 i bytes ∙ ap (λ (k : ℕ). drop k bytes) (sym e))) ∙ take-append-drop 4 _

pub u64_back : (bytes : List ℕ) (i j : ℕ) → AreBytes bytes → i + 8 ≤ length bytes → j ≡ i + 8
    → be64 (u64_at bytes i) ++ drop j bytes ≡ drop i bytes
u64_back bytes i j h l e =
    let b = be_bytes_8 _ (u64_at bytes i) (length_part 8 (drop i _) (omega (arith, length-drop i bytes)))
    (take_below 8 _ (drop_below i _ h.below)) refl in
    ap (λ (x : List ℕ). x ++ drop j bytes) b
    ∙ ap (λ (y : List ℕ). take 8 (drop i bytes) ++ y)
    (sym (drop-drop 8 i bytes ∙ ap (λ (k : ℕ). drop k bytes) (sym e))) ∙ take-append-drop 8 _

-- one byte, and what follows it
pub byte_back : (bytes : List ℕ) (i j : ℕ) → i < length bytes → j ≡ i + 1 → byte_at bytes i ∷ drop j bytes
    ≡ drop i bytes
byte_back [] i j l e = absurd (omega arith)
byte_back (b ∷ bs) zero j l e = rw e refl
byte_back (b ∷ bs) (suc i) j l e = rw (let e' : j ≡ suc (i + 1) = omega arith in e')
    (byte_back bs i (i + 1) (omega arith) refl)

pub both : (a b : Bool) → (a && b) ≡ true → (a ≡ true) × (b ≡ true)
both a b h = grind arith
