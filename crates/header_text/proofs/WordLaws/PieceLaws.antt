-- The pieces of a value are its leftmost encoded words, and no other words are.
use Rattle.header_text.proofs.Words.{◌≡◌, ◌∙◌, ◌==◌, ◌&&◌, ◌||◌, ◌≤◌, ◌++◌, ℕ, zero, suc, Bool, true, false, nat_lt, List, [], ◌∷◌, Option, Some, None, length, refl, sym, ap, arith, length-append, append-nil, option_map, list_all, and_parts, EncodedWord, spelling_of, is_charset_byte, is_text_byte, is_q, is_b, is_well_formed, question, equals_sign, word_and_later, word_at, WordAfter, Pieces, value_pieces, BeginsWord, NoneBegins, AreLeftmost, word_first}
use Rattle.header_text.proofs.CutLemmas.{Lacks, cut_at-is}
use Rattle.header_text.proofs.WordLaws.WordLemmas.{spells, spelled-append, chain, with_charset, with_encoding, with_text, with_front, in_front, pieces-none, pieces-some, word_at-equals, word_at-other, in_front-append}

-- ---- a word that begins is found

record Parts (w : EncodedWord) : Type 0 where
  some : nat_lt 0 (length w.charset) ≡ true
  charset : list_all is_charset_byte w.charset ≡ true
  encoding : (is_q w.encoding || is_b w.encoding) ≡ true
  text : list_all is_text_byte w.text ≡ true

parts : (w : EncodedWord) → is_well_formed w ≡ true → Parts w
parts w h = grind (arith, and_parts)

Lacks-charset : (bs : List ℕ) → list_all is_charset_byte bs ≡ true → Lacks question bs
Lacks-charset [] h = tt
Lacks-charset (b ∷ bs) h =
    grind (arith, Lacks-charset bs)

Lacks-text : (bs : List ℕ) → list_all is_text_byte bs ≡ true → Lacks question bs
Lacks-text [] h = tt
Lacks-text (b ∷ bs) h =
    grind (arith, Lacks-text bs)

letter : (e : ℕ) → (is_q e || is_b e) ≡ true → (e == question) ≡ false
letter e h = grind arith

found : (w : EncodedWord) (later : List ℕ) → is_well_formed w ≡ true
    → word_and_later (question ∷ (w.charset ++ question ∷ w.encoding ∷ question ∷
    (w.text ++ question ∷ equals_sign ∷ later))) ≡ Some (w, later)
found w later h = grind (
  arith,
  parts,
  cut_at-is,
  Lacks-charset,
  letter,
  Lacks-text,
  chain,
  with_charset,
  with_encoding,
  with_text,
)

-- at most one word begins at a place, and it is found
pub word_at-begins : (bytes : List ℕ) (w : EncodedWord) → BeginsWord bytes w → word_at bytes ≡ Some w
word_at-begins bytes w h = grind (arith, spelled-append, word_at-equals, found)

-- the word that is found begins there
pub record Begins (bytes : List ℕ) (w : EncodedWord) : Type 0 where
  pub rest : List ℕ
  pub later : List ℕ
  pub equals : bytes ≡ equals_sign ∷ rest
  pub joined : bytes ≡ spelling_of w ++ later
  pub well : is_well_formed w ≡ true

pub begins : (bytes : List ℕ) (w : EncodedWord) → word_at bytes ≡ Some w → Begins bytes w
unfolding word_at
begins [] w h = absurd (cc)
begins (b ∷ bs) w h = go (b == equals_sign) refl
  where
    at_equals : b ≡ equals_sign → (o : Option (EncodedWord × List ℕ)) → word_and_later bs ≡ o → word_at (b ∷ bs)
        ≡ option_map (λ (f : EncodedWord × List ℕ). f.0) o → Begins (b ∷ bs) w
    at_equals e None f g = absurd (cc (sym g ∙ h))
    at_equals e (Some (v, later)) f g =
        let same : v ≡ w = grind arith in
        let is = spells bs v later f in
        grind arith

    go : (t : Bool) → (b == equals_sign) ≡ t → Begins (b ∷ bs) w
    go false e = absurd (cc (sym (word_at-other b bs e) ∙ h))
    go true e = grind (arith, at_equals)

none_begins : (bytes : List ℕ) → word_at bytes ≡ None → (w : EncodedWord) → BeginsWord bytes w → ⊥
none_begins bytes e w h = grind (arith, word_at-begins)

-- ---- the pieces are the leftmost words

-- one more byte at the front, at which no word begins
more_in_front : (b : ℕ) (bs : List ℕ) (ws : List WordAfter) (rest : List ℕ) → word_at (b ∷ bs) ≡ None
    → AreLeftmost bs ws rest
    → AreLeftmost (b ∷ bs) (with_front (b ∷ []) ws rest).words (with_front (b ∷ []) ws rest).rest
more_in_front b bs [] rest e h = grind (arith, rest, append-nil, none_begins)
more_in_front b bs (v ∷ ws) rest e h = grind (arith, none_begins)

within : (n : ℕ) (value : List ℕ) → length value ≤ n
    → AreLeftmost value (value_pieces value).words (value_pieces value).rest
within n [] le = (refl, tt)
within zero (b ∷ bs) le = absurd (omega arith)
within (suc n) (b ∷ bs) le = go (word_at (b ∷ bs)) refl (within n)
  where
    go : (o : Option EncodedWord) → word_at (b ∷ bs) ≡ o
        → ((value : List ℕ) → length value ≤ n → AreLeftmost value (value_pieces value).words (value_pieces value).rest)
        → AreLeftmost (b ∷ bs) (value_pieces (b ∷ bs)).words (value_pieces (b ∷ bs)).rest
    go None e each =
        grind (arith, pieces-none, more_in_front)
    go (Some w) e each =
        let is = begins (b ∷ bs) w e in
        grind (arith, pieces-some, length-append)

pub are_leftmost : (value : List ℕ) → AreLeftmost value (value_pieces value).words (value_pieces value).rest
are_leftmost value = within (length value) value (omega arith)

-- ---- no other words are

nowhere : (bytes : List ℕ) → ((w : EncodedWord) → ¬ BeginsWord bytes w) → word_at bytes ≡ None
nowhere bytes h = go (word_at bytes) refl
  where
    go : (o : Option EncodedWord) → word_at bytes ≡ o → word_at bytes ≡ None
    go None e = e
    go (Some w) e = let is = begins bytes w e in grind arith

past : (front later : List ℕ) → NoneBegins front later → value_pieces (front ++ later)
    ≡ in_front front (value_pieces later)
past [] later h = grind arith
past (b ∷ front) later h = grind (arith, pieces-none, later, nowhere, in_front, in_front-append, past front later h.1)

pub only_leftmost : (value : List ℕ) (ws : List WordAfter) (rest : List ℕ) → AreLeftmost value ws rest
    → value_pieces value
    ≡ record { words = ws; rest = rest }
only_leftmost value [] rest h = cc (h.0, append-nil rest, past rest [] h.1)
only_leftmost value (w ∷ ws) rest h =
    let later : List ℕ = h.0 in
    let spelling : List ℕ = question ∷ (w.word.charset ++ question ∷ w.word.encoding ∷ question ∷
    (w.word.text ++ question ∷ equals_sign ∷ later)) in
    let written : spelling_of w.word ++ later ≡ equals_sign ∷ spelling = spelled-append w.word later in
    let here : word_at (equals_sign ∷ spelling) ≡ Some w.word = grind (arith, word_at-begins) in
    let first : value_pieces (spelling_of w.word ++ later) ≡ word_first (record { between = []; word = w.word }) later =
    cc (written, pieces-some spelling later w.word here (sym written)) in
    ap value_pieces h.1 ∙ past w.between (spelling_of w.word ++ later) h.3 ∙ ap (in_front w.between) first
    ∙ ap (λ (l : List ℕ). word_first (record { between = l; word = w.word }) later) (append-nil w.between)
    ∙ ap (λ (p : Pieces). record { words = w ∷ p.words; rest = p.rest }) (only_leftmost later ws rest h.4)
