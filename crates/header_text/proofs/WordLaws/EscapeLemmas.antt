-- Decoding escapes part by part gives the whole text decoded.
use Rattle.header_text.proofs.Words.{◌≡◌, ◌∙◌, ◌==◌, ◌≤◌, ◌++◌, ℕ, false, List, [], ◌∷◌, Option, Some, None, length, refl, ap, arith, append_assoc, append-nil, if◌then◌else◌, escaped_byte, unescaped_by, unescaped_bytes, q_bytes, after_equals}
use Rattle.header_text.proofs.CutLemmas.{Lacks, IsCut}

module _ (other : ℕ → ℕ) where
  placed : ℕ → ℕ → ℕ → List ℕ → Option ℕ → List ℕ
  placed a b c bytes o = elim o [
    | Some n ↦ n ∷ unescaped_by other bytes
    | None ↦ other a ∷ unescaped_by other
        (b ∷ c ∷ bytes)
  ]

  u-none : (a b c : ℕ) (bytes : List ℕ) → escaped_byte a b c ≡ None → unescaped_by other (a ∷ b ∷ c ∷ bytes)
      ≡ other a ∷ unescaped_by other (b ∷ c ∷ bytes)
  unfolding placed
  u-none a b c bytes e = ap (placed a b c bytes) e

  u-some : (a b c n : ℕ) (bytes : List ℕ) → escaped_byte a b c ≡ Some n → unescaped_by other (a ∷ b ∷ c ∷ bytes)
      ≡ n ∷ unescaped_by other bytes
  unfolding placed
  u-some a b c n bytes e = ap (placed a b c bytes) e

  -- a byte other than `=`
  u-plain : (a : ℕ) (bytes : List ℕ) → (a == 0x3D) ≡ false → unescaped_by other (a ∷ bytes)
      ≡ other a ∷ unescaped_by other bytes
  u-plain a bytes h = grind arith

  u-size : (bytes : List ℕ) → length (unescaped_by other bytes) ≤ length bytes
  u-size [] = omega arith
  u-size (a ∷ []) = omega arith
  u-size (a ∷ b ∷ []) = omega arith
  u-size (a ∷ b ∷ c ∷ bytes) = go (escaped_byte a b c) refl (u-size bytes) (u-size (b ∷ c ∷ bytes))
    where
      go : (o : Option ℕ) → escaped_byte a b c ≡ o → length (unescaped_by other bytes) ≤ length bytes
          → length (unescaped_by other (b ∷ c ∷ bytes)) ≤ length (b ∷ c ∷ bytes)
          → length (unescaped_by other (a ∷ b ∷ c ∷ bytes)) ≤ length (a ∷ b ∷ c ∷ bytes)
      go (Some n) e later after = rw (u-some a b c n bytes e) (omega arith)
      go None e later after = rw (u-none a b c bytes e) (omega arith)

pub length-unescaped : (bytes : List ℕ) → length (unescaped_bytes bytes) ≤ length bytes
unfolding unescaped_bytes
length-unescaped bytes = u-size (λ b. b) bytes

pub length-q_bytes : (bytes : List ℕ) → length (q_bytes bytes) ≤ length bytes
unfolding q_bytes
length-q_bytes bytes = grind (arith, u-size)

-- bytes without `=` stay
pub unescaped-plain : (plain bytes : List ℕ) → Lacks 0x3D plain → unescaped_bytes (plain ++ bytes)
    ≡ plain ++ unescaped_bytes bytes
unfolding unescaped_bytes
unescaped-plain [] bytes free = refl
unescaped-plain (a ∷ plain) bytes free = grind (arith, u-plain, unescaped-plain plain bytes free.1)

pub unescaped-nil : unescaped_bytes [] ≡ []
unfolding unescaped_bytes
unescaped-nil = refl

pub unescaped-equals : (bytes : List ℕ) → unescaped_bytes (0x3D ∷ bytes)
    ≡ (after_equals bytes).0 ∷ unescaped_bytes (after_equals bytes).1
unfolding unescaped_bytes
unescaped-equals [] = refl
unescaped-equals (b ∷ []) = refl
unescaped-equals (b ∷ c ∷ bytes) = grind arith

pub length-after_equals : (bytes : List ℕ) → length (after_equals bytes).1 ≤ length bytes
length-after_equals bytes = grind arith

-- ---- Q

abbrev q : ℕ → ℕ
q b = if b == 0x5F then 0x20 else b

-- a `_` after a byte that isn't one
q-then_space : (a : ℕ) (later : List ℕ) → (a == 0x5F) ≡ false → unescaped_by q (a ∷ 0x5F ∷ later)
    ≡ a ∷ 0x20 ∷ unescaped_by q later
q-then_space a later h = grind (arith, u-plain)

pub q_bytes-space : (stretch later : List ℕ) → Lacks 0x5F stretch → q_bytes (stretch ++ 0x5F ∷ later)
    ≡ unescaped_bytes stretch ++ 0x20 ∷ q_bytes later
unfolding q_bytes unescaped_bytes
q_bytes-space [] later free = u-plain q 0x5F later refl
q_bytes-space (a ∷ []) later free = q-then_space a later free.0
q_bytes-space (a ∷ b ∷ []) later free = grind (arith, u-none, q-then_space)
q_bytes-space (a ∷ b ∷ c ∷ stretch) later free =
    grind (arith, q_bytes-space stretch later free.1.1.1, q_bytes-space (b ∷ c ∷ stretch) later free.1)

pub q_bytes-free : (stretch : List ℕ) → Lacks 0x5F stretch → q_bytes stretch ≡ unescaped_bytes stretch
unfolding q_bytes unescaped_bytes
q_bytes-free [] free = refl
q_bytes-free (a ∷ []) free = rw free.0 refl
q_bytes-free (a ∷ b ∷ []) free = rw (free.0, free.1.0) refl
q_bytes-free (a ∷ b ∷ c ∷ stretch) free =
    grind (arith, q_bytes-free stretch free.1.1.1, q_bytes-free (b ∷ c ∷ stretch) free.1)

-- ---- one more part

pub unescaped-step : (rest plain after later : List ℕ) (byte : ℕ) → IsCut 0x3D rest plain after → byte
    ≡ (after_equals after).0 → later ≡ (after_equals after).1
    → unescaped_bytes rest ≡ plain ++ byte ∷ unescaped_bytes later
unescaped-step rest plain after later byte cut e f = grind (arith, unescaped-plain, unescaped-equals)

pub unescaped-rest : (rest : List ℕ) → Lacks 0x3D rest → unescaped_bytes rest ≡ rest
unescaped-rest rest free = cc (append-nil rest, unescaped-plain rest [] free, unescaped-nil)

-- after what was written come a part, a byte and the rest
pub written : (items plain later : List ℕ) (byte : ℕ) → ((items ++ plain) ++ byte ∷ []) ++ later
    ≡ items ++ (plain ++ byte ∷ later)
written items plain later byte = grind (arith, append_assoc)
