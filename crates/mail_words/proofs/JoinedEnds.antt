-- A run of word characters and joiners is its joined front and the joiners at its end, found by looking at bytes.
use Rattle.mail_words.proofs.Imports.{◌≡◌, ℕ, ◌+◌, ◌-◌, ◌<◌, ◌≤◌, Bool, true, false, ◌&&◌, ◌||◌, List, [], ◌∷◌, ◌++◌, length, reverse, get_or, encode_utf8, encode_utf8_all, inl, inr, refl, sym, ap, ◌∙◌, arith, length-append, cases_lt, get_or_append_left, get_or-append-add, get_or-append_right, list_all_at, encode_ascii, encodes-append, inside_one, length-encode, len_utf8_bounds, length-le-encodes, list_all, is_word_character, is_joiner, begins, front, is_piece, joined_to, joined_front}
use Rattle.std.proofs.Common.{append-nil}
use Rattle.mail_words.proofs.Characters.{joiner_below, word_character_is_no_joiner}
use Rattle.mail_words.proofs.OneWord.{ends-cons, ends-joined_front}
use Rattle.mail_words.proofs.Seams.{some_from_bytes}

-- ---- characters

-- the characters are what is kept, and joiners after it
abbrev EndsInJoiners : List ℕ → List ℕ → Type 0
EndsInJoiners cs kept = (js : List ℕ) × (cs ≡ kept ++ js) × (list_all is_joiner js ≡ true)

joined_to-joiners : (c : ℕ) (kept js : List ℕ) → is_joiner c ≡ true → list_all is_joiner js ≡ true
    → EndsInJoiners (c ∷ (kept ++ js)) (joined_to c kept)
joined_to-joiners c [] js joins all = (c ∷ js, refl, (λ k. joins k && all k))
joined_to-joiners c (d ∷ ds) js joins all = (js, refl, all)

run-joiners : (cs : List ℕ) → EndsInJoiners (front is_piece cs) (joined_front cs)
run-joiners [] = ([], refl, refl)
run-joiners (c ∷ cs) = go (is_word_character c) (is_joiner c) refl refl (run-joiners cs)
  where
    go : (w j : Bool) → is_word_character c ≡ w → is_joiner c ≡ j → EndsInJoiners (front is_piece cs) (joined_front cs)
        → EndsInJoiners (front is_piece (c ∷ cs)) (joined_front (c ∷ cs))
    go true j e f h = grind arith
    go false true e f h =
        let more = joined_to-joiners c (joined_front cs) h.0 f h.2 in grind arith
    go false false e f h = grind arith

-- ---- bytes

-- joiners are their own bytes, because they are ASCII
joiners-own : (js : List ℕ) → list_all is_joiner js ≡ true → encode_utf8_all js ≡ js
joiners-own [] all = refl
joiners-own (c ∷ cs) all =
    grind (arith, encode_ascii, joiner_below, joiners-own cs)

abbrev last_of : List ℕ → ℕ
last_of bytes = get_or bytes (length bytes - 1) 0

-- the last byte of a word character is never a joiner
last-character : (c : ℕ) → is_word_character c ≡ true → is_joiner (last_of (encode_utf8 c)) ≡ false
last-character c of_word = go (is_joiner (last_of (encode_utf8 c))) refl
  where
    go : (t : Bool) → is_joiner (last_of (encode_utf8 c)) ≡ t → is_joiner (last_of (encode_utf8 c)) ≡ false
    go true joins =
        let same = inside_one c [] (encode_utf8 c) (length (encode_utf8 c) - 1) (sym (append-nil (encode_utf8 c)))
        (omega (arith, length-encode c, (len_utf8_bounds c).0)) (joiner_below (last_of (encode_utf8 c)) joins) in
        grind (arith, word_character_is_no_joiner)
    go false apart = apart

last-characters : (cs : List ℕ) → begins is_word_character (reverse cs) ≡ true
    → is_joiner (last_of (encode_utf8_all cs)) ≡ false
last-characters [] ends = cc
last-characters (c ∷ []) ends = grind (arith, append-nil, last-character)
last-characters (c ∷ d ∷ ds) ends =
    let rest = encode_utf8_all (d ∷ ds) in
    let at : length (encode_utf8 c ++ rest) - 1 ≡ length (encode_utf8 c) + (length rest - 1) =
    omega (arith, length-append (encode_utf8 c) rest, length-le-encodes (d ∷ ds)) in
    grind (
      arith,
      get_or-append-add,
      last-characters (d ∷ ds)
          (sym (ends-cons is_word_character c (d ∷ ds) refl) ∙ ends),
    )

-- the place in the bytes where the joiners at the end of a run begin
pub joined-bytes : (cs bytes : List ℕ) (n : ℕ) → bytes ≡ encode_utf8_all (front is_piece cs) → n ≤ length bytes
    → ((k : ℕ) → n ≤ k → k < length bytes → is_joiner (get_or bytes k 0) ≡ true)
    → (0 < n → is_joiner (get_or bytes (n - 1) 0) ≡ false) → n ≡ length (encode_utf8_all (joined_front cs))
joined-bytes cs bytes n is within joiners last =
    elim (cases_lt n (length kept)) [
      | inl less ↦
          let some = some_from_bytes (joined_front cs) (omega arith) in
          let no = last-characters (joined_front cs) (ends-joined_front cs some) in
          let yes = joiners (length kept - 1) (omega arith) (omega (arith, sizes)) in
          let same = ap (λ bs. get_or bs (length kept - 1) 0) joined
          ∙ get_or_append_left kept js 0 (length kept - 1) (omega arith) in
          let wrong : true ≡ false = sym yes ∙ ap is_joiner same ∙ no in cc
      | inr not_less ↦ elim (cases_lt (length kept) n) [
        | inl more ↦
            let same = ap (λ bs. get_or bs (n - 1) 0) joined
            ∙ get_or-append_right kept js (length kept) (n - 1) 0 refl (omega arith) in
            let no = list_all_at is_joiner js (n - 1 - length kept) 0 (omega (arith, sizes))
            (cc (same, last (omega arith))) in
            let wrong : true ≡ false = sym parts.2 ∙ no in cc
        | inr not_more ↦ omega arith
      ]
    ]
  where
    parts : EndsInJoiners (front is_piece cs) (joined_front cs)
    parts = run-joiners cs

    js : List ℕ
    js = parts.0

    kept : List ℕ
    kept = encode_utf8_all (joined_front cs)

    joined : bytes ≡ kept ++ js
    joined = grind (arith, encodes-append, js, joiners-own)

    sizes : length bytes ≡ length kept + length js
    sizes = ap length joined ∙ length-append kept js
