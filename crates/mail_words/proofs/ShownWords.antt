-- A gap and a word found by one load are those that the text begins with.
use Rattle.mail_words.proofs.Imports.{◌≡◌, ℕ, ◌+◌, ◌<◌, true, List, length, drop, encode_utf8_all, IsUtf8, refl, sym, subst, arith, is_word_character, front, is_other, HasGapAndWord, is_ascii_word}
use Rattle.std.proofs.Common.{chars}
use Rattle.std.proofs.lemmas.List.{get_or-drop, length-drop}
use Rattle.mail_words.proofs.FrontReads.{FrontRead}
use Rattle.mail_words.proofs.ByteReads.{front_bytes-passed, front_bytes-stop}

gap_read : (text : List ℕ) (gap word : ℕ) → IsUtf8 text → HasGapAndWord text gap word
    → FrontRead is_other text gap (drop gap text)
gap_read text gap word utf8 h = front_bytes-passed is_other text text gap utf8 refl (omega (arith, h.within)) h.in_gap

pub shown_gap : (text bytes : List ℕ) (gap word : ℕ) → IsUtf8 text → bytes ≡ text → HasGapAndWord bytes gap word → gap
    ≡ length (encode_utf8_all (front is_other (chars text)))
shown_gap text bytes gap word utf8 same shown =
    grind (arith, front_bytes-stop, gap_read)

pub shown_word : (text bytes start : List ℕ) (gap word : ℕ) → IsUtf8 text → bytes ≡ text → HasGapAndWord bytes gap word
    → start ≡ drop gap text
    → word ≡ length (encode_utf8_all (front is_word_character (chars start)))
shown_word text bytes start gap word utf8 same shown back =
    let h = subst (λ bs. HasGapAndWord bs gap word) same shown in
    let rest = drop gap text in
    let within : word < length rest = omega (arith, length-drop gap text) in
    let passed = front_bytes-passed is_word_character rest rest word (gap_read text gap word utf8 h).read.utf8 refl
    (omega arith) (λ k below. subst (λ b. is_ascii_word b ≡ true) (sym (get_or-drop gap text k 0))
    (h.in_word k below)) in
    grind (arith, get_or-drop, front_bytes-stop)
