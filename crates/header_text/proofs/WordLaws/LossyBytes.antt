-- A lossy text has at most three bytes for each byte.
use Rattle.header_text.proofs.Words.{◌≡◌, ◌≤◌, ◌*◌, ℕ, zero, suc, List, [], ◌∷◌, Option, Some, None, map, length, refl, encode_utf8_all, arith, length-drop, length-append, encode_utf8, or_replacement, pieces_from, lossy_chars}
use Rattle.bstr.specs.Utf8.{decoded}
use Rattle.bstr.proofs.lemmas.PieceLemmas.{piece-bounds}
use Rattle.bstr.proofs.lemmas.SoundLemmas.{SpellsChar-decoded}

replacement_len : length (encode_utf8 0xFFFD) ≡ 3
unfolding encode_utf8
replacement_len = refl

one_char : (bs : List ℕ) (o : Option ℕ) → (decoded bs).char ≡ o → 1 ≤ (decoded bs).size
    → length (encode_utf8 (or_replacement o)) ≤ 3 * (decoded bs).size
one_char bs None e some = grind (arith, replacement_len)
one_char bs (Some y) e some = let w = (SpellsChar-decoded bs y e).width in omega (arith, w)

bounded : (n : ℕ) (bs : List ℕ) → length (encode_utf8_all (map (λ p. or_replacement p.char) (pieces_from n bs))) ≤ 3 *
    length bs
unfolding pieces_from
bounded zero bs = omega arith
bounded (suc n) [] = omega arith
bounded (suc n) (b ∷ rest) =
    let p = decoded (b ∷ rest) in
    let fits = piece-bounds (b ∷ rest) (omega arith) in
    let first = one_char (b ∷ rest) p.char refl (omega arith) in
    grind (arith, length-drop, length-append, bounded n)

-- the text has at most three bytes for each byte
pub length-lossy : (bs : List ℕ) → length (encode_utf8_all (lossy_chars bs)) ≤ 3 * length bs
length-lossy bs = bounded (length bs) bs
