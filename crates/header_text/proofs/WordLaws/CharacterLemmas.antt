-- The text of bytes in a charset in which each byte is a character.
use Rattle.header_text.proofs.Words.{◌≡◌, ◌∙◌, ◌<◌, ◌≤◌, ◌+◌, ◌++◌, ℕ, suc, true, nat_lt, List, [], ◌∷◌, map, length, slice_index, take, drop, refl, arith, encode_utf8_all, append_assoc, encode_utf8, IsAscii, ne_eqb, cases_lt, lt-ltb, nat_tests, map-append, take-append-drop, drop_more, get_or-take, take_all, encodes-append, encodes-IsAscii, IsUtf8-from_ascii, length-encode, lossy_chars, lossy_chars-utf8, character, text_of, Charset, Utf8}
use Rattle.std.proofs.lemmas.List.{length-take}
use Rattle.std.proofs.lemmas.Str.Ascii.{IsAscii-from_reads}

-- an ASCII byte is its own character in each charset
character-ascii : (c : Charset) (b : ℕ) → b < 128 → character c b ≡ b
character-ascii c b h = grind (arith, ne_eqb, nat_tests)

map-character-ascii : (c : Charset) (bs : List ℕ) → IsAscii bs → map (character c) bs ≡ bs
map-character-ascii c [] h = refl
map-character-ascii c (b ∷ bs) h = cc (character-ascii c b (h 0), map-character-ascii c bs (λ i. h (suc i)))

-- ASCII reads the same in each charset
pub lossy-ascii : (c : Charset) (bs : List ℕ) → IsAscii bs → encode_utf8_all (lossy_chars bs)
    ≡ encode_utf8_all (map (character c) bs)
lossy-ascii c bs h = grind (arith, lossy_chars-utf8, IsUtf8-from_ascii, encodes-IsAscii, map-character-ascii)

-- ASCII bytes, a byte that isn't ASCII, and the rest
pub characters-split : (c : Charset) (bs : List ℕ) (at : ℕ) → at < length bs → IsAscii (take at bs)
    → encode_utf8_all (map (character c) bs)
    ≡ encode_utf8_all (lossy_chars (take at bs)) ++
    (encode_utf8 (character c (slice_index bs at)) ++ encode_utf8_all (map (character c) (drop (at + 1) bs)))
characters-split c bs at lt h =
    let ch : ℕ → ℕ = character c in
    let b = slice_index bs at in
    let split : bs ≡ take at bs ++ b ∷ drop (at + 1) bs = grind (arith, take-append-drop, drop_more) in
    grind (arith, map-append, encodes-append, lossy-ascii)

pub length-encode_small : (c : ℕ) → c < 65536 → length (encode_utf8 c) ≤ 3
length-encode_small c lt = rw length-encode (grind (arith, nat_tests))

-- one more character
pub characters-step : (c : Charset) (bs old new newer : List ℕ) (at : ℕ) → at < length bs → IsAscii (take at bs)
    → new ≡ old ++ encode_utf8_all (lossy_chars (take at bs)) → newer
    ≡ new ++ encode_utf8 (character c (slice_index bs at))
    → newer ++ encode_utf8_all (map (character c) (drop (at + 1) bs)) ≡ old ++ encode_utf8_all (map (character c) bs)
characters-step c bs old new newer at lt h e f =
    grind (arith, encode_utf8_all, slice_index, append_assoc, characters-split)

-- in any charset but UTF-8 each byte is a character
pub text_of-single : (c : Charset) → (c ≡ Utf8 → ⊥) → (bs : List ℕ) → text_of c bs
    ≡ encode_utf8_all (map (character c) bs)
unfolding text_of
text_of-single c h bs = grind arith

-- the bytes before a place are ASCII
pub IsAscii-before : (bs : List ℕ) (at : ℕ) → ((k : ℕ) → 0 ≤ k → k < at → nat_lt 127 (slice_index bs k) ≡ true → ⊥)
    → IsAscii (take at bs)
IsAscii-before bs at h = grind (arith, IsAscii-from_reads, length-take, get_or-take, slice_index, cases_lt, lt-ltb)

-- all bytes are ASCII
pub IsAscii-all : (bs : List ℕ) → ((k : ℕ) → 0 ≤ k → k < length bs → nat_lt 127 (slice_index bs k) ≡ true → ⊥)
    → IsAscii bs
IsAscii-all bs h = rw (take_all (length bs) bs (omega arith)) at (IsAscii-before bs (length bs) h)
