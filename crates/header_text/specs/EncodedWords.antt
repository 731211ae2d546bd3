-- Encoded words (RFC 2047) in an unfolded value: their form, where they are, and the text that they and the rest give.
use Rattle.std.specs.Prelude.{◌≡◌, ℕ, zero, suc, ◌-◌, Bool, true, false, not, ◌&&◌, ◌||◌, ◌==◌, nat_le, nat_lt, IsTrue}
use Rattle.std.specs.Prelude.{List, [], ◌∷◌, ◌++◌, length, Option, Some, None, if◌then◌else◌, option_map}
use Rattle.std.specs.Prelude.{encode_utf8_all}
use Rattle.std.specs.List.{list_all}
use Rattle.bstr.specs.Utf8.{lossy_chars}
use Rattle.contract_words.specs.Blanks.{is_blank}
use Rattle.header_text.specs.Cuts.{cut_at}
use Rattle.header_text.specs.Escapes.{q_bytes}
use Rattle.header_text.specs.Base64.{base64_bytes}
use Rattle.header_text.specs.Charsets.{charset_of, text_of}

-- an encoded word: `=?charset?encoding?text?=`
pub record EncodedWord : Type 0 where
  pub charset : List ℕ
  pub encoding : ℕ
  pub text : List ℕ

-- the byte `?`
abbrev pub question : ℕ
question = 0x3F

-- the byte `=`
abbrev pub equals_sign : ℕ
equals_sign = 0x3D

-- the bytes of an encoded word as written
abbrev pub spelling_of : EncodedWord → List ℕ
spelling_of w = equals_sign ∷ question ∷ (w.charset ++ question ∷ w.encoding ∷ question ∷
    (w.text ++ question ∷ equals_sign ∷ []))

-- whether a byte is allowed in the name of a charset: 33 to 126, but no `?`
abbrev pub is_charset_byte : ℕ → Bool
is_charset_byte b = nat_le 33 b && nat_le b 126 && not (b == question)

-- whether a byte is allowed in the text: 32 to 126, but no `?`
abbrev pub is_text_byte : ℕ → Bool
is_text_byte b = nat_le 32 b && nat_le b 126 && not (b == question)

-- whether the encoding is Q, as `Q` or `q`
abbrev pub is_q : ℕ → Bool
is_q encoding = (encoding == 0x51) || (encoding == 0x71)

-- whether the encoding is B, as `B` or `b`
abbrev pub is_b : ℕ → Bool
is_b encoding = (encoding == 0x42) || (encoding == 0x62)

-- whether the parts are allowed: a charset of one or more bytes, the encoding Q or B, and a text, which may be empty
abbrev pub is_well_formed : EncodedWord → Bool
is_well_formed w =
    nat_lt 0 (length w.charset) && list_all is_charset_byte w.charset && (is_q w.encoding || is_b w.encoding) &&
    list_all is_text_byte w.text

-- the bytes begin with this encoded word
abbrev pub BeginsWord : List ℕ → EncodedWord → Type 0
BeginsWord bytes w = IsTrue (is_well_formed w) × ((later : List ℕ) × (bytes ≡ spelling_of w ++ later))

-- ---- the encoded word that begins some bytes, if there is one; there is at most one

-- what follows a front, if the bytes begin with it
abbrev pub after : List ℕ → List ℕ → Option (List ℕ)
after [] bytes = Some bytes
after (c ∷ front) [] = None
after (c ∷ front) (b ∷ bytes) = elim (b == c) [ true ↦ after front bytes | false ↦ None ]

-- the word of these three parts, if they make one
abbrev pub word_of : List ℕ → List ℕ → List ℕ → Option EncodedWord
word_of charset (encoding ∷ []) text =
    let w : EncodedWord = record { charset = charset; encoding = encoding; text = text } in if is_well_formed w
    then Some w else None
word_of charset encoding text = None

-- what f makes of the value, if there is one
infixl 10 ◌>>=◌
abbrev pub ◌>>=◌ : {A B : Type 0} → Option A → (A → Option B) → Option B
(Some x) >>= f = f x
None >>= f = None

-- the word that begins with `=` and these bytes, and what follows it
unfoldable pub word_and_later : List ℕ → Option (EncodedWord × List ℕ)
word_and_later bytes =
    after (question ∷ []) bytes
    >>= (λ rest. cut_at question rest
    >>= (λ charset. cut_at question charset.1
    >>= (λ encoding. cut_at question encoding.1
    >>= (λ text. after (equals_sign ∷ []) text.1
    >>= (λ later. option_map (λ w. (w, later)) (word_of charset.0 encoding.0 text.0))))))

-- the encoded word that the bytes begin with
unfoldable pub word_at : List ℕ → Option EncodedWord
word_at bytes = after (equals_sign ∷ []) bytes >>= (λ rest. option_map (λ found. found.0) (word_and_later rest))

-- ---- all encoded words of a value: the leftmost, then the leftmost at or after its end, and so on

-- an encoded word, and the text before it, from the end of the word before or from the value's beginning
pub record WordAfter : Type 0 where
  pub between : List ℕ
  pub word : EncodedWord

-- the encoded words of a value, and the text after the last one
pub record Pieces : Type 0 where
  pub words : List WordAfter
  pub rest : List ℕ

-- the pieces with one more byte at the front, before the first word
abbrev pub onto_front : ℕ → List WordAfter → List ℕ → Pieces
onto_front b [] rest = record { words = []; rest = b ∷ rest }
onto_front b (w ∷ ws) rest = record { words = record { between = b ∷ w.between; word = w.word } ∷ ws; rest = rest }

-- the pieces of what comes after this many bytes
abbrev pub pieces_after : ℕ → List ℕ → Pieces
pieces_after skipped [] = record { words = []; rest = [] }
pieces_after (suc skipped) (b ∷ bs) = pieces_after skipped bs
pieces_after zero (b ∷ bs) = elim (word_at (b ∷ bs)) [
  | Some w ↦ let later : Pieces = pieces_after (length (spelling_of w) - 1) bs
      in record { words = record { between = []; word = w } ∷ later.words; rest = later.rest }
  | None ↦ let later : Pieces = pieces_after zero bs in onto_front b later.words later.rest
]

-- the pieces of a value
abbrev pub value_pieces : List ℕ → Pieces
value_pieces value = pieces_after zero value

-- no encoded word begins at any byte of a text that `later` follows
abbrev pub NoneBegins : List ℕ → List ℕ → Type 0
NoneBegins [] later = Unit {0}
NoneBegins (b ∷ bs) later = ((w : EncodedWord) → ¬ BeginsWord (b ∷ (bs ++ later)) w) × NoneBegins bs later

-- these are the value's encoded words, each the leftmost at or after the end of the one before
abbrev pub AreLeftmost : List ℕ → List WordAfter → List ℕ → Type 0
AreLeftmost value [] rest = (value ≡ rest) × NoneBegins rest []
AreLeftmost value (w ∷ ws) rest = (later : List ℕ) × (value ≡ w.between ++ (spelling_of w.word ++ later))
    × IsTrue (is_well_formed w.word)
    × NoneBegins w.between (spelling_of w.word ++ later) × AreLeftmost later ws rest

-- ---- the text of a value

-- the text of an encoded word
abbrev pub word_text : EncodedWord → List ℕ
word_text w = text_of (charset_of w.charset) (if is_q w.encoding then q_bytes w.text else base64_bytes w.text)

-- any other text: UTF-8, with U+FFFD for each maximal faulty part
abbrev pub plain_text : List ℕ → List ℕ
plain_text bytes = encode_utf8_all (lossy_chars bytes)

-- the text between two encoded words: nothing if it is spaces and tabs alone
abbrev pub text_between : List ℕ → List ℕ
text_between bytes = if list_all is_blank bytes then [] else plain_text bytes

-- the text of words after an encoded word, each with the text before it
abbrev pub later_words_text : List WordAfter → List ℕ
later_words_text [] = []
later_words_text (w ∷ ws) = text_between w.between ++ (word_text w.word ++ later_words_text ws)

-- the text of a value's words, each with the text before it
abbrev pub words_text : List WordAfter → List ℕ
words_text [] = []
words_text (w ∷ ws) = plain_text w.between ++ (word_text w.word ++ later_words_text ws)

-- the text of an unfolded value
unfoldable pub decoded_value : List ℕ → List ℕ
decoded_value value = words_text (value_pieces value).words ++ plain_text (value_pieces value).rest
