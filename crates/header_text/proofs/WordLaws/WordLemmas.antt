-- Searching for encoded words one after another gives the pieces of a value.
use Rattle.header_text.proofs.Words.{◌≡◌, ◌∙◌, ◌==◌, ◌<◌, ◌+◌, ◌-◌, ◌++◌, ℕ, zero, true, false, List, [], ◌∷◌, Option, Some, None, length, take, refl, sym, ap, arith, length-append, append_assoc, append-nil, option_map, take_at, cut_at, EncodedWord, spelling_of, is_well_formed, question, equals_sign, after, word_of, ◌>>=◌, word_and_later, word_at, WordAfter, Pieces, onto_front, pieces_after, value_pieces, no_word, word_first}
use Rattle.header_text.proofs.CutLemmas.{Lacks, IsCut-from, Lacks-from}

-- ---- the bytes of a word

after-one : (c : ℕ) (bytes rest : List ℕ) → after (c ∷ []) bytes ≡ Some rest → bytes ≡ c ∷ rest
after-one c bytes rest h = grind arith

pub record Spells (bytes : List ℕ) (w : EncodedWord) (later : List ℕ) : Type 0 where
  pub joined : equals_sign ∷ bytes ≡ spelling_of w ++ later
  pub well : is_well_formed w ≡ true

record IsWordOf (charset encoding text : List ℕ) (w : EncodedWord) : Type 0 where
  charset_is : charset ≡ w.charset
  encoding_is : encoding ≡ w.encoding ∷ []
  text_is : text ≡ w.text
  well : is_well_formed w ≡ true

word_of-is : (charset encoding text : List ℕ) (w : EncodedWord) → word_of charset encoding text ≡ Some w
    → IsWordOf charset encoding text w
word_of-is charset encoding text w h = grind arith

abbrev pub Parts : Type 0
Parts = List ℕ × List ℕ

abbrev pub Found : Type 0
Found = EncodedWord × List ℕ

abbrev pub with_later : Parts → Parts → Parts → List ℕ → Option Found
with_later charset encoding text later =
    option_map (λ (w : EncodedWord). (w, later)) (word_of charset.0 encoding.0 text.0)

abbrev pub with_text : Parts → Parts → Parts → Option Found
with_text charset encoding text = after (equals_sign ∷ []) text.1 >>= with_later charset encoding text

abbrev pub with_encoding : Parts → Parts → Option Found
with_encoding charset encoding = cut_at question encoding.1 >>= with_text charset encoding

abbrev pub with_charset : Parts → Option Found
with_charset charset = cut_at question charset.1 >>= with_encoding charset

abbrev pub with_rest : List ℕ → Option Found
with_rest rest = cut_at question rest >>= with_charset

pub chain : (bytes : List ℕ) → word_and_later bytes ≡ (after (question ∷ []) bytes >>= with_rest)
unfolding word_and_later
chain bytes = refl

-- if a step on an option gives a value, the option has one
record Passed {A B : Type 0} (o : Option A) (f : A → Option B) (y : B) : Type 0 where
  value : A
  was : o ≡ Some value
  next : f value ≡ Some y

passed : {A B : Type 0} (o : Option A) (f : A → Option B) (y : B) → (o >>= f) ≡ Some y → Passed o f y
passed o f y h = grind arith

word_made : (o : Option EncodedWord) (later : List ℕ) (f : EncodedWord × List ℕ)
    → option_map (λ (w : EncodedWord). (w, later)) o ≡ Some f → (o ≡ Some f.0) × (later ≡ f.1)
word_made o later f h = grind arith

-- an encoded word and what follows it, written out
pub spelled-append : (w : EncodedWord) (later : List ℕ)
    → spelling_of w ++ later ≡ equals_sign ∷ question ∷
    (w.charset ++ question ∷ w.encoding ∷ question ∷ (w.text ++ question ∷ equals_sign ∷ later))
spelled-append w later = grind (arith, append_assoc)

joined_parts : (bytes a b0 b1 c0 c1 d0 d1 e later : List ℕ) (w : EncodedWord) → bytes ≡ question ∷ a → a
    ≡ b0 ++ question ∷ b1 → b1 ≡ c0 ++ question ∷ c1 → c1 ≡ d0 ++ question ∷ d1
    → d1 ≡ equals_sign ∷ e → e ≡ later → IsWordOf b0 c0 d0 w → equals_sign ∷ bytes ≡ spelling_of w ++ later
joined_parts bytes a b0 b1 c0 c1 d0 d1 e later w r0 r1 r2 r3 r4 r5 is =
    grind (arith, spelled-append)

pub spells : (bytes : List ℕ) (w : EncodedWord) (later : List ℕ) → word_and_later bytes ≡ Some (w, later)
    → Spells bytes w later
spells bytes w later h =
    let found : Found = (w, later) in
    let a = passed (after (question ∷ []) bytes) with_rest found (sym (chain bytes) ∙ h) in
    let b = passed (cut_at question a.value) with_charset found a.next in
    let c = passed (cut_at question b.value.1) (with_encoding b.value) found b.next in
    let d = passed (cut_at question c.value.1) (with_text b.value c.value) found c.next in
    let e = passed (after (equals_sign ∷ []) d.value.1) (with_later b.value c.value d.value) found d.next in
    let made_is = word_made (word_of b.value.0 c.value.0 d.value.0) e.value found e.next in
    let is = word_of-is b.value.0 c.value.0 d.value.0 w made_is.0 in
    let r0 : bytes ≡ question ∷ a.value = after-one question bytes a.value a.was in
    let r1 : a.value ≡ b.value.0 ++ question ∷ b.value.1 =
    grind (arith, IsCut-from) in
    let r2 : b.value.1 ≡ c.value.0 ++ question ∷ c.value.1 =
    grind (arith, IsCut-from) in
    let r3 : c.value.1 ≡ d.value.0 ++ question ∷ d.value.1 =
    grind (arith, IsCut-from) in
    let r4 : d.value.1 ≡ equals_sign ∷ e.value = grind arith in
    record {
      joined = joined_parts bytes a.value b.value.0 b.value.1 c.value.0 c.value.1 d.value.0 d.value.1 e.value
          later w r0 r1 r2 r3 r4 made_is.1 is;
      well = is.well;
    }

-- ---- pieces

-- the pieces with a text at the front, before the first word
abbrev pub with_front : List ℕ → List WordAfter → List ℕ → Pieces
with_front seen [] rest = record { words = []; rest = seen ++ rest }
with_front seen (w ∷ ws) rest = record {
  words = record { between = seen ++ w.between; word = w.word } ∷ ws;
  rest =
      rest;
}

abbrev pub in_front : List ℕ → Pieces → Pieces
in_front seen p = with_front seen p.words p.rest

in_front-nil : (p : Pieces) → in_front [] p ≡ p
in_front-nil p = grind arith

pub in_front-append : (seen more : List ℕ) (p : Pieces) → in_front (seen ++ more) p ≡ in_front seen (in_front more p)
in_front-append seen more p = grind (arith, append_assoc)

judged : ℕ → List ℕ → Option EncodedWord → Pieces
judged b bs o = elim o [
  | Some w ↦ let later : Pieces = pieces_after (length (spelling_of w) - 1) bs
      in record { words = record { between = []; word = w } ∷ later.words; rest = later.rest }
  | None ↦ let later : Pieces = pieces_after zero bs in onto_front b later.words later.rest
]

pieces-cons : (b : ℕ) (bs : List ℕ) → value_pieces (b ∷ bs) ≡ judged b bs (word_at (b ∷ bs))
unfolding judged
pieces-cons b bs = refl

pub pieces-none : (b : ℕ) (bs : List ℕ) → word_at (b ∷ bs) ≡ None → value_pieces (b ∷ bs)
    ≡ in_front (b ∷ []) (value_pieces bs)
unfolding judged
pieces-none b bs e = grind (arith, pieces-cons)

-- the pieces after the skipped bytes are those of the rest
pieces_after-skip : (front later : List ℕ) → pieces_after (length front) (front ++ later) ≡ value_pieces later
pieces_after-skip [] [] = refl
pieces_after-skip [] (b ∷ later) = refl
pieces_after-skip (b ∷ front) later = pieces_after-skip front later

pub pieces-some : (bytes later : List ℕ) (w : EncodedWord) → word_at (equals_sign ∷ bytes) ≡ Some w
    → equals_sign ∷ bytes ≡ spelling_of w ++ later
    → value_pieces (equals_sign ∷ bytes) ≡ word_first (record { between = []; word = w }) later
unfolding judged
pieces-some bytes later w e joined =
    grind (arith, pieces_after-skip)

-- no word begins at a byte other than `=`
pub word_at-other : (b : ℕ) (bs : List ℕ) → (b == equals_sign) ≡ false → word_at (b ∷ bs) ≡ None
unfolding word_at
word_at-other b bs e = rw (e, after) refl

pub word_at-equals : (bs : List ℕ) → word_at (equals_sign ∷ bs)
    ≡ option_map (λ (found : EncodedWord × List ℕ). found.0) (word_and_later bs)
unfolding word_at
word_at-equals bs = refl

pub pieces-plain : (plain later : List ℕ) → Lacks equals_sign plain → value_pieces (plain ++ later)
    ≡ in_front plain (value_pieces later)
pieces-plain [] later free = sym (in_front-nil (value_pieces later))
pieces-plain (b ∷ plain) later free = grind
    (arith, pieces-none, word_at-other, in_front-append, pieces-plain plain later free.1)

-- ---- searching for the first word

-- no word has begun so far
pub record Seen (value rest : List ℕ) : Type 0 where
  pub seen : List ℕ
  pub joined : value ≡ seen ++ rest
  pub found : value_pieces value ≡ in_front seen (value_pieces rest)

-- an `=` at which no word begins
pub seen-more : (value rest plain after_sign : List ℕ) → Seen value rest → Some (plain, after_sign)
    ≡ cut_at equals_sign rest
    → word_and_later after_sign ≡ None → Seen value after_sign
seen-more value rest plain after_sign s h e =
    let cut = IsCut-from equals_sign rest plain after_sign (sym h) in
    let none : word_at (equals_sign ∷ after_sign) ≡ None = grind (arith, word_at-equals) in
    let passed : value_pieces rest ≡ in_front (plain ++ equals_sign ∷ []) (value_pieces after_sign) =
    grind (arith, pieces-plain, in_front-append) in
    record {
      seen = s.seen ++ (plain ++ equals_sign ∷ []);
      joined = grind (arith, append_assoc);
      found = grind (arith, in_front-append);
    }

-- an `=` at which a word begins
pub record First (value after_sign later : List ℕ) (w : EncodedWord) : Type 0 where
  pub found : value_pieces value ≡ word_first
      (record { between = take (length value - length after_sign - 1) value; word = w })
      later
  pub size : length (take (length value - length after_sign - 1) value) + length w.text + length later < length value

pub seen-first : (value rest plain after_sign later : List ℕ) (w : EncodedWord) → Seen value rest
    → Some (plain, after_sign)
    ≡ cut_at equals_sign rest → word_and_later after_sign ≡ Some (w, later) → First value after_sign later w
seen-first value rest plain after_sign later w s h e =
    let cut = IsCut-from equals_sign rest plain after_sign (sym h) in
    let is = spells after_sign w later e in
    grind (arith, word_at-equals, append_assoc, length-append, take_at, pieces-plain, pieces-some, append-nil)

-- no `=` is left
pub seen-end : (value rest : List ℕ) → Seen value rest → cut_at equals_sign rest ≡ None → value_pieces value
    ≡ no_word value
seen-end value rest s e =
    let free = Lacks-from equals_sign rest e in
    let alone : value_pieces rest ≡ no_word rest = cc (append-nil rest, pieces-plain rest [] free) in
    grind arith

-- what is after an `=` is shorter
pub seen-shorter : (value rest plain after_sign : List ℕ) → Seen value rest → Some (plain, after_sign)
    ≡ cut_at equals_sign rest
    → length after_sign < length value
seen-shorter value rest plain after_sign s h =
    let cut = IsCut-from equals_sign rest plain after_sign (sym h) in
    omega (
      arith,
      ap length s.joined,
      length-append s.seen rest,
      ap length cut.joined,
      length-append plain (equals_sign ∷ after_sign),
    )
