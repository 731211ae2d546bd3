-- The bytes of a character, by how many they are, and a character of two bytes found by its first one.
use lib.Utf8.{encode}
use Rattle.mail_words.proofs.Imports.{◌≡◌, ℕ, ◌+◌, ◌%◌, ◌<◌, ◌≤◌, Bool, true, false, ltb, List, [], ◌∷◌, ◌++◌, length, drop, get_or, encode_utf8, encode_utf8_all, len_utf8, IsUtf8, sym, ap, ◌∙◌, subst, arith, encode_ascii, encodes-chars, front}
use Rattle.std.proofs.Common.{◌/◌, chars}
use Rattle.std.proofs.lemmas.List.{get_or-drop, length-drop}
use Rattle.std.proofs.lemmas.Str.{drop_past_char}
use Rattle.mail_words.specs.Inside.Runs.{pair_code, IsPairAt}
use Rattle.mail_words.proofs.FrontReads.{FrontRead, front_read-pass, front_read-stop}

pub two : (c : ℕ) → 128 ≤ c → c < 2048 → encode_utf8 c ≡ (192 + c / 64) ∷ (128 + c % 64) ∷ []
unfolding encode
two c beyond low =
    grind (arith, ltb)

pub three : (c : ℕ) → 2048 ≤ c → c < 65536
    → encode_utf8 c ≡ (224 + c / 4096) ∷ (128 + c / 64 % 64) ∷ (128 + c % 64) ∷ []
unfolding encode
three c higher within =
    grind (arith, ltb)

pub four : (c : ℕ) → 65536 ≤ c
    → encode_utf8 c ≡ (240 + c / 262144) ∷ (128 + c / 4096 % 64) ∷ (128 + c / 64 % 64) ∷ (128 + c % 64) ∷ []
unfolding encode
four c far =
    grind (arith, ltb)

-- ---- a character of two bytes

-- a first byte from 0xC0 to 0xDF has one more after it, and the character's number is made of both
of_pair : (c : ℕ) (rest : List ℕ) → 0xC0 ≤ get_or (encode_utf8 c ++ rest) 0 0
    → get_or (encode_utf8 c ++ rest) 0 0 < 0xE0
    → (pair_code (get_or (encode_utf8 c ++ rest) 0 0) (get_or (encode_utf8 c ++ rest) 1 0) ≡ c) × (len_utf8 c ≡ 2)
of_pair c rest from below =
    grind (arith, encode_ascii, two, three, four)

-- the character of two bytes at a place is the next one
pair_next : (text bytes : List ℕ) (at c : ℕ) → IsUtf8 (drop at text) → bytes ≡ text → IsPairAt bytes at c
    → (rest : List ℕ) × (drop at text ≡ encode_utf8 c ++ rest) × (len_utf8 c ≡ 2)
pair_next text bytes at c utf8 same pair =
    go (chars (drop at text)) (encodes-chars (drop at text) utf8) (rw same at pair)
  where
    go : (cs : List ℕ) → encode_utf8_all cs ≡ drop at text → IsPairAt text at c
        → (rest : List ℕ) × (drop at text ≡ encode_utf8 c ++ rest) × (len_utf8 c ≡ 2)
    go [] e found = absurd (omega (arith, length-drop at text, ap length e))
    go (d ∷ cs) e found =
        let rest : List ℕ = encode_utf8_all cs in
        let here : at + 0 ≡ at = omega arith in
        grind (arith, get_or-drop, of_pair)

module _ (p : ℕ → Bool) (text bytes : List ℕ) (at c : ℕ) (h : FrontRead p text at (drop at text)) (same : bytes ≡ text)
    (pair : IsPairAt bytes at c) where
  pub pair_pass : p c ≡ true → FrontRead p text (at + 2) (drop (at + 2) text)
  pair_pass passes =
      let next = pair_next text bytes at c h.read.utf8 same pair in
      rw next.2 at (subst (FrontRead p text (at + len_utf8 c)) (sym (drop_past_char text next.0 at c next.1))
      (front_read-pass p text at (drop at text) c next.0 h next.1 passes))

  pub pair_stop : p c ≡ false → at ≡ length (encode_utf8_all (front p (chars text)))
  pair_stop stops =
      let next = pair_next text bytes at c h.read.utf8 same pair in
      front_read-stop p text at (drop at text) c next.0 h next.1 stops
