-- A record that is written and read is the same, and so are its bytes if they are read and written.
use Rattle.mail_index.proofs.Words.{◌≡◌, ℕ, zero, suc, ◌+◌, ◌^◌, ◌<◌, ◌≤◌, Bool, true, false, cond, ◌&&◌, ◌||◌, List, [], ◌∷◌, ◌++◌, length, drop, Option, Some, None, refl, ap, ◌∙◌, arith, ℤ, IfSome, FitsSigned, is_some, nat_eq, nat_le, w64, cast_signed, to_z-of_z, Fits-of_z, Fits-lt-pow, from_be_bytes-to_be_bytes_4, from_be_bytes-to_be_bytes_8, Record, are_zeros_at, byte_at, u32_at, u64_at, be32, be64, zeros, bit, flags_byte, date_number, record_bytes, has_bit, read_flags, read_date, read_record, is_record, of_z-to_z, leb-true, nat_tests}
use Rattle.mail_index.proofs.FileLaws.Fronts.{before, concat_then}
use Rattle.mail_index.proofs.FileLaws.Bytes.{AreBytes, u32_back, u64_back, byte_back, both, bytes_after, bytes_before}

-- the numbers of a record fit their fields
pub record HasSmallFields (m : Record) : Type 0 where
  pub archive : m.archive < 2 ^ 32
  pub offset : m.offset < 2 ^ 64
  pub span : m.length < 2 ^ 64
  pub size : m.size < 2 ^ 64
  pub date : IfSome m.date (FitsSigned w64)

bits_back : (a b c d : Bool) → (read_flags (bit 1 a + bit 2 b + bit 4 c + bit 8 d)
    ≡ record { seen = a; replied = b; flagged = c }) × (has_bit (bit 1 a + bit 2 b + bit 4 c + bit 8 d) 8 ≡ d)
bits_back a b c d = grind arith

date_back : (f : ℕ) (date : Option ℤ) → IfSome date (FitsSigned w64) → has_bit f 8 ≡ is_some date → (n : ℕ) → n
    ≡ date_number date → read_date f n ≡ date
date_back f _ h h2 n h3 = grind (arith, to_z-of_z, w64)

date_small : (date : Option ℤ) → IfSome date (FitsSigned w64) → date_number date < 2 ^ 64
date_small _ h = grind (arith, Fits-lt-pow, Fits-of_z)

-- a record is read back from its bytes
pub record_back : (m : Record) (x : List ℕ) → HasSmallFields m → read_record (record_bytes m ++ x) ≡ m
unfolding read_record
record_back m x h =
    grind (
      arith,
      from_be_bytes-to_be_bytes_4,
      from_be_bytes-to_be_bytes_8,
      bits_back,
      is_some,
      date_back,
      date_small,
      length,
    )

pub after_record : (m : Record) (x : List ℕ) → drop 40 (record_bytes m ++ x) ≡ x
after_record m x = refl

rebuilt : ℕ → ℕ
rebuilt f = bit 1 (has_bit f 1) + bit 2 (has_bit f 2) + bit 4 (has_bit f 4) + bit 8 (has_bit f 8)

-- four bits make up all flags up to 15
flags_kept : (f : ℕ) → f ≤ 15 → rebuilt f ≡ f
unfolding rebuilt
flags_kept zero h = refl
flags_kept (suc zero) h = refl
flags_kept (suc (suc zero)) h = refl
flags_kept (suc (suc (suc zero))) h = refl
flags_kept (suc (suc (suc (suc zero)))) h = refl
flags_kept (suc (suc (suc (suc (suc zero))))) h = refl
flags_kept (suc (suc (suc (suc (suc (suc zero)))))) h = refl
flags_kept (suc (suc (suc (suc (suc (suc (suc zero))))))) h = refl
flags_kept (suc (suc (suc (suc (suc (suc (suc (suc zero)))))))) h = refl
flags_kept (suc (suc (suc (suc (suc (suc (suc (suc (suc zero))))))))) h = refl
flags_kept (suc (suc (suc (suc (suc (suc (suc (suc (suc (suc zero)))))))))) h = refl
flags_kept (suc (suc (suc (suc (suc (suc (suc (suc (suc (suc (suc zero))))))))))) h = refl
flags_kept (suc (suc (suc (suc (suc (suc (suc (suc (suc (suc (suc (suc zero)))))))))))) h = refl
flags_kept (suc (suc (suc (suc (suc (suc (suc (suc (suc (suc (suc (suc (suc zero))))))))))))) h = refl
flags_kept (suc (suc (suc (suc (suc (suc (suc (suc (suc (suc (suc (suc (suc (suc zero)))))))))))))) h = refl
flags_kept (suc (suc (suc (suc (suc (suc (suc (suc (suc (suc (suc (suc (suc (suc (suc zero))))))))))))))) h = refl
flags_kept (suc (suc (suc (suc (suc (suc (suc (suc (suc (suc (suc (suc (suc (suc (suc (suc n)))))))))))))))) h =
    absurd (omega arith)

some_date : (b : Bool) (z : ℤ) → is_some (cond b (Some z) None) ≡ b
some_date b z = grind arith

date_kept : (b : Bool) (n : ℕ) → n < 2 ^ 64 → (b || nat_eq n 0) ≡ true
    → date_number (cond b (Some (cast_signed w64 n)) None) ≡ n
date_kept b n h h2 = grind (arith, of_z-to_z, w64, nat_tests)

u64_small : (r : List ℕ) (i : ℕ) → AreBytes r → i + 8 ≤ length r → u64_at r i < 2 ^ 64
u64_small r i h l =
    let t = bytes_before 8 _ (bytes_after i r h) in
    omega (arith, t.below 0, t.below 1, t.below 2, t.below 3, t.below 4, t.below 5, t.below 6, t.below 7)

-- the bytes of a record that was read are those that it was read from
pub record_kept : (r : List ℕ) → AreBytes r → 40 ≤ length r → is_record r ≡ true
    → record_bytes (read_record r) ++ drop 40 r ≡ r
unfolding read_record is_record rebuilt
record_kept r h l e =
    let f = byte_at r 4 in
    let t₁ = both (nat_le f 15 && are_zeros_at r 5) (has_bit f 8 || nat_eq (u64_at r 32) 0) e in
    let t₂ = both (nat_le f 15) (are_zeros_at r 5) t₁.0 in
    let t₃ = both (nat_eq (byte_at r 5) 0 && nat_eq (byte_at r 6) 0) (nat_eq (byte_at r 7) 0) t₂.1 in
    let t₄ = both (nat_eq (byte_at r 5) 0) (nat_eq (byte_at r 6) 0) t₃.0 in
    let small : f ≤ 15 = leb-true f 15 t₂.0 in
    let zero₅ : byte_at r 5 ≡ 0 = grind (arith, nat_tests, t₄.0) in
    let zero₆ : byte_at r 6 ≡ 0 = grind (arith, nat_tests, t₄.1) in
    let zero₇ : byte_at r 7 ≡ 0 = grind (arith, nat_tests, t₃.1) in
    let d : date_number (read_date f (u64_at r 32)) ≡ u64_at r 32 =
    date_kept (has_bit f 8) (u64_at r 32) (u64_small r 32 h (omega (arith, l))) t₁.1 in
    let flags : flags_byte (read_record r) ≡ f = grind (arith, bit, has_bit, some_date, u64_at, flags_kept) in
    let s₅ : be64 (date_number (read_date f (u64_at r 32))) ++ drop 40 r ≡ drop 32 r =
    ap (λ (n : ℕ). be64 n ++ drop 40 r) d ∙ u64_back r 32 40 h (omega (arith, l)) refl in
    let s₄ : be64 (u64_at r 24) ++ drop 32 r ≡ drop 24 r = u64_back r 24 32 h (omega (arith, l)) refl in
    let s₃ : be64 (u64_at r 16) ++ drop 24 r ≡ drop 16 r = u64_back r 16 24 h (omega (arith, l)) refl in
    let s₂ : be64 (u64_at r 8) ++ drop 16 r ≡ drop 8 r = u64_back r 8 16 h (omega (arith, l)) refl in
    let b₇ : byte_at r 7 ∷ drop 8 r ≡ drop 7 r = byte_back r 7 8 (omega (arith, l)) refl in
    let b₆ : byte_at r 6 ∷ drop 7 r ≡ drop 6 r = byte_back r 6 7 (omega (arith, l)) refl in
    let b₅ : byte_at r 5 ∷ drop 6 r ≡ drop 5 r = byte_back r 5 6 (omega (arith, l)) refl in
    let b₄ : byte_at r 4 ∷ drop 5 r ≡ drop 4 r = byte_back r 4 5 (omega (arith, l)) refl in
    let s₁ : flags_byte (read_record r) ∷ 0 ∷ 0 ∷ 0 ∷ drop 8 r ≡ drop 4 r = cc in
    let s₀ : be32 (u32_at r 0) ++ drop 4 r ≡ r = u32_back r 0 4 h (omega (arith, l)) refl in
    let fields = be32 (u32_at r 0) ∷ (flags_byte (read_record r) ∷ zeros) ∷ be64 (u64_at r 8) ∷ be64 (u64_at r 16) ∷
    be64 (u64_at r 24) ∷ be64 (date_number (read_date f (u64_at r 32))) ∷ [] in
    grind (arith, concat_then, drop, before, be32, u32_at, flags_byte, read_record, zeros, be64, u64_at)

few_flags : (a b c d : Bool) (n : ℕ) → (d ≡ false → n ≡ 0)
    → ((nat_le (bit 1 a + bit 2 b + bit 4 c + bit 8 d) 15 && true) &&
    (has_bit (bit 1 a + bit 2 b + bit 4 c + bit 8 d) 8 || nat_eq n 0)) ≡ true
few_flags a b c d n h = grind arith

no_date : (date : Option ℤ) → is_some date ≡ false → date_number date ≡ 0
no_date _ h = grind arith

-- the bytes of a record pass the test
pub record_passes : (m : Record) (x : List ℕ) → HasSmallFields m → is_record (record_bytes m ++ x) ≡ true
unfolding is_record
record_passes m x h = grind (arith, few_flags, is_some, from_be_bytes-to_be_bytes_8, date_small, no_date)
