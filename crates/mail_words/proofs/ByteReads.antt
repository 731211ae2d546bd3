-- Loops that count the bytes of a text's front. Each byte is a character by itself, up to the first beyond ASCII.
use Rattle.mail_words.proofs.Imports.{◌≡◌, ℕ, zero, suc, ◌+◌, ◌<◌, ◌≤◌, Bool, true, false, ◌&&◌, nat_lt, List, ◌++◌, length, drop, get_or, encode_utf8, encode_utf8_all, IsUtf8, refl, ap, subst, ◌∙◌, arith, drop-cons, and_parts, ltb-true, encode_ascii, len_utf8_ascii, IsCharBoundary-from_drop, is_ascii, IsCharBoundary, front}
use Rattle.std.proofs.Common.{chars}
use Rattle.mail_words.proofs.FrontReads.{IsRead, FrontRead, front_read-pass, front_read-stop, front_read-end}
use Rattle.mail_words.proofs.Seams.{front_seam}

-- ---- one byte

-- what the tests of a byte say
pub class_byte : (p : ℕ → Bool) (b : ℕ) (of_class : Bool) → of_class ≡ (nat_lt b 128 && p b) → of_class ≡ true
    → (b < 128) × (p b ≡ true)
class_byte p b of_class test holds = grind (arith, and_parts, ltb-true)

pub other_byte : (p : ℕ → Bool) (b : ℕ) (of_class ascii : Bool) → of_class ≡ (nat_lt b 128 && p b) → of_class ≡ false
    → ascii ≡ is_ascii b → ascii ≡ true → (b < 128) × (p b ≡ false)
other_byte p b of_class ascii test fails ascii_test holds = grind (arith, ltb-true)

-- a byte that passes is the next character
pub next_byte : (text : List ℕ) (i : ℕ) → i < length text → get_or text i 0 < 128 → drop i text
    ≡ encode_utf8 (get_or text i 0) ++ drop (i + 1) text
next_byte text i within ascii = grind (arith, encode_ascii, drop-cons)

-- the text may be cut after the bytes read so far
read_boundary : (text : List ℕ) (i : ℕ) → IsRead text i (drop i text) → IsCharBoundary text i
read_boundary text i h = grind (arith, IsCharBoundary-from_drop)

-- ---- the characters at the front that pass

pub front_bytes-start : (p : ℕ → Bool) (text : List ℕ) → IsUtf8 text → FrontRead p text 0 (drop 0 text)
front_bytes-start p text utf8 = grind arith

pub front_bytes-pass : (p : ℕ → Bool) (text bytes : List ℕ) (i : ℕ) → FrontRead p text i (drop i text) → bytes ≡ text
    → i < length bytes → get_or bytes i 0 < 128
    → p (get_or bytes i 0) ≡ true → FrontRead p text (i + 1) (drop (i + 1) text)
front_bytes-pass p text bytes i h same =
    rw same (λ within ascii passes. subst (λ n. FrontRead p text (i + n) (drop (i + 1) text))
    (len_utf8_ascii (get_or text i 0) ascii)
    (front_read-pass p text i (drop i text) (get_or text i 0) (drop (i + 1) text) h (next_byte text i within ascii)
    passes))

-- the same over this many bytes
pub front_bytes-passed : (p : ℕ → Bool) (text bytes : List ℕ) (n : ℕ) → IsUtf8 text → bytes ≡ text → n ≤ length bytes
    → ((k : ℕ) → k < n → (nat_lt (get_or bytes k 0) 128 && p (get_or bytes k 0)) ≡ true)
    → FrontRead p text n (drop n text)
front_bytes-passed p text bytes zero utf8 same within passed = front_bytes-start p text utf8
front_bytes-passed p text bytes (suc n) utf8 same within passed =
    let byte = class_byte p (get_or bytes n 0) _ refl (passed n (omega arith)) in
    let next : n + 1 ≡ suc n = omega arith in
    grind (arith, front_bytes-pass, front_bytes-passed p text bytes n utf8 same)

pub front_bytes-stop : (p : ℕ → Bool) (text bytes : List ℕ) (i : ℕ) → FrontRead p text i (drop i text) → bytes ≡ text
    → i < length bytes → get_or bytes i 0 < 128
    → p (get_or bytes i 0) ≡ false → i ≡ length (encode_utf8_all (front p (chars text)))
front_bytes-stop p text bytes i h same =
    rw same (λ within ascii stops. front_read-stop p text i (drop i text) (get_or text i 0) (drop (i + 1) text) h
    (next_byte text i within ascii) stops)

pub front_bytes-end : (p : ℕ → Bool) (text : List ℕ) (i : ℕ) → FrontRead p text i (drop i text) → length text ≤ i
    → length text ≡ length (encode_utf8_all (front p (chars text)))
front_bytes-end p text i h past =
    let none : length (drop i text) ≡ 0 = omega (arith, h.read.lengths) in
    omega (arith, h.read.lengths, front_read-end p text i (drop i text) h none)

-- the rest, from the first byte beyond ASCII on
pub front_bytes-boundary : (p : ℕ → Bool) (text : List ℕ) (i : ℕ) → FrontRead p text i (drop i text)
    → IsCharBoundary text i
front_bytes-boundary p text i h = read_boundary text i h.read

pub front_bytes-more : (p : ℕ → Bool) (text rest : List ℕ) (i more : ℕ) → FrontRead p text i (drop i text) → rest
    ≡ drop i text → more ≡ length (encode_utf8_all (front p (chars rest)))
    → i + more ≡ length (encode_utf8_all (front p (chars text)))
front_bytes-more p text rest i more h same is =
    omega (arith, h.whole, is ∙ ap (λ r. length (encode_utf8_all (front p (chars r)))) same)

pub length-front : (p : ℕ → Bool) (text : List ℕ) → IsUtf8 text
    → length (encode_utf8_all (front p (chars text))) ≤ length text
length-front p text utf8 = omega (arith, (front_seam p text utf8).lengths)
