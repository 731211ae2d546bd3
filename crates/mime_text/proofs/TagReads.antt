-- The loop that blanks the tags of a text, one span at a time.
use Rattle.mime_text.proofs.Words.{◌≡◌, ℕ, zero, suc, ◌+◌, ◌≤◌, ◌<◌, Bool, true, false, List, [], ◌∷◌, ◌++◌, length, drop, get_or, replicate, chars, encode_utf8, encode_utf8_all, IsUtf8, refl, sym, ◌∙◌, arith, length-append, append_assoc, not, ◌≢◌, ◌==◌, option_map, Option, eqb-true, false_from_ne_true, IsAscii, take_at, drop_at, get_or_at, length_push, length-replicate, replicate-append-replicate, IsUtf8-take, IsUtf8-drop, IsUtf8-from_ascii, IsCharBoundary-after_ascii, chars-append, chars-IsAscii, encode_ascii, encodes-append, encodes-chars, length-le-encodes, cut_at, Lacks, IsCut, cut_at-none, cut_at-is, is_tag_open_after, is_tag_open_after_all, blanked_tags, span_end, shown_span}
use denote.Ref.{Bor}
use Rattle.std.proofs.lemmas.Str.Ascii.{IsAscii-nil, IsAscii-cons}
use Rattle.std.proofs.lemmas.Str.Pattern.{IsSplitOnceResult, split_parts}
use Rattle.header_text.proofs.OwnTexts.{text_of-ascii}
use Rattle.mime_text.proofs.Words.{Charset, text_of}
use Rattle.mime_text.proofs.TagLemmas.{lacks-text, blanked-free, is_open-free}

-- ---- characters one after another

is_open_after-append : (o : Bool) (xs ys : List ℕ) → is_tag_open_after_all o (xs ++ ys)
    ≡ is_tag_open_after_all (is_tag_open_after_all o xs) ys
is_open_after-append o [] ys = refl
is_open_after-append o (x ∷ xs) ys = is_open_after-append (is_tag_open_after o x) xs ys

blanked-append : (o : Bool) (xs ys : List ℕ) → blanked_tags o (xs ++ ys)
    ≡ blanked_tags o xs ++ blanked_tags (is_tag_open_after_all o xs) ys
blanked-append o [] ys = refl
blanked-append o (x ∷ xs) ys = grind (arith, blanked-append (is_tag_open_after o x) xs ys)

-- ---- a span, without the character that ends it

blanked-tag : (cs : List ℕ) → Lacks 0x3E cs → blanked_tags true cs ≡ replicate (length cs) 0x20
blanked-tag [] h = refl
blanked-tag (c ∷ cs) h = grind (arith, blanked-tag cs h.1)

is_open-tag : (cs : List ℕ) → Lacks 0x3E cs → is_tag_open_after_all true cs ≡ true
is_open-tag [] h = refl
is_open-tag (c ∷ cs) h = rw h.0 (is_open-tag cs h.1)

blanked-span : (o : Bool) (cs : List ℕ) → Lacks (span_end o) cs → blanked_tags o cs ≡ shown_span o cs
blanked-span o cs h = grind (arith, blanked-tag, blanked-free)

is_open-span : (o : Bool) (cs : List ℕ) → Lacks (span_end o) cs → is_tag_open_after_all o cs ≡ o
is_open-span o cs h = grind (arith, is_open-tag, is_open-free)

encodes-spaces : (n : ℕ) → encode_utf8_all (replicate n 0x20) ≡ replicate n 0x20
encodes-spaces zero = refl
encodes-spaces (suc n) = grind (arith, encode_ascii, encodes-spaces n)

-- how a span in a tag, or outside tags, is written
pub written_tag : (text : List ℕ) → replicate (length (chars text)) 0x20
    ≡ encode_utf8_all (shown_span true (chars text))
written_tag text = sym (encodes-spaces (length (chars text)))

pub written_outside : (text : List ℕ) → IsUtf8 text → text ≡ encode_utf8_all (shown_span false (chars text))
written_outside text utf8 = sym (encodes-chars text utf8)

-- a line of ASCII that is in a tag, and doesn't end it
pub blank-line : (charset : Charset) (line spaces : List ℕ) → IsAscii line → Lacks 0x3E line → spaces
    ≡ replicate (length line) 0x20
    → (spaces ≡ encode_utf8_all (blanked_tags true (chars (text_of charset line))))
    × (is_tag_open_after_all true (chars (text_of charset line)) ≡ true)
blank-line charset line spaces ascii lacks e =
    grind (arith, text_of-ascii, chars-IsAscii, blanked-tag, encodes-spaces, is_open-tag)

length-span : (o : Bool) (text : List ℕ) → IsUtf8 text
    → length (encode_utf8_all (shown_span o (chars text))) ≤ length text
length-span o text h = grind (arith, written_tag, length-replicate, length-le-encodes, encodes-chars)

-- ---- spaces

pub spaces-ascii : (n : ℕ) → IsAscii (replicate n 0x20)
spaces-ascii zero = IsAscii-nil
spaces-ascii (suc n) = grind (arith, spaces-ascii n)

-- some of the spaces that are left are added
pub spaces-more : (into new some : List ℕ) (left n rest : ℕ) → some ≡ replicate n 0x20 → n + rest ≡ left → new
    ≡ into ++ some → new ++ replicate rest 0x20 ≡ into ++ replicate left 0x20
spaces-more into new some left n rest are parts added = grind (arith, append_assoc, replicate-append-replicate)

-- ---- a text that is cut at an ASCII character

differs : (a c : ℕ) → a ≢ c → (a == c) ≡ false
differs a c ne = false_from_ne_true (a == c) (λ e. ne (eqb-true a c e))

lacks-places : (c : ℕ) (bs : List ℕ) → ((i : ℕ) → i < length bs → get_or bs i 0 ≢ c) → Lacks c bs
lacks-places c [] h = tt
lacks-places c (b ∷ bs) h = (differs b c (h 0 (omega arith)), lacks-places c bs (λ i lt. h (suc i) (omega arith)))

cut-ascii : (c : ℕ) (bs : List ℕ) (r : Option (Bor (List ℕ) × Bor (List ℕ))) → c < 128 → IsSplitOnceResult c bs r
    → option_map (λ parts. (parts.0.now, parts.1.now)) r ≡ cut_at c bs
cut-ascii c bs r h h2 = grind (arith, split_parts, cut_at-none, differs, cut_at-is, lacks-places)

pub cut_from_split : (o : Bool) (sign : ℕ) (bs : List ℕ) (r : Option (Bor (List ℕ) × Bor (List ℕ))) → sign ≡ span_end o
    → IsSplitOnceResult sign bs r
    → option_map (λ parts. (parts.0.now, parts.1.now)) r ≡ cut_at (span_end o) bs
cut_from_split o sign bs r is h = grind (arith, cut-ascii, IsSplitOnceResult)

record CutText (c : ℕ) (before after : List ℕ) : Type 0 where
  utf8_before : IsUtf8 before
  utf8_after : IsUtf8 after
  characters : chars (before ++ c ∷ after) ≡ chars before ++ c ∷ chars after

cut_text : (c : ℕ) (before after : List ℕ) → c < 128 → IsUtf8 (before ++ c ∷ after) → CutText c before after
cut_text c before after ascii utf8 =
    let bs : List ℕ = before ++ c ∷ after in
    let n : ℕ = length before in
    let is : get_or bs n 0 ≡ c = get_or_at before c after 0 n refl in
    let lt : n < length bs = omega (arith, length-append before (c ∷ after)) in
    let front : IsUtf8 before = grind (arith, take_at, IsUtf8-take) in
    let rest : drop (n + 1) bs ≡ after = cc
    (append_assoc before (c ∷ []) after, drop_at (before ++ c ∷ []) after (n + 1) (length_push before c)) in
    let small : IsAscii (c ∷ []) = IsAscii-cons c [] ascii IsAscii-nil in
    let later : chars (c ∷ after) ≡ c ∷ chars after =
    grind (arith, chars-append (c ∷ []) after (IsUtf8-from_ascii (c ∷ []) small), chars-IsAscii (c ∷ []) small) in
    record {
      utf8_before = front;
      utf8_after = rw rest at (IsUtf8-drop bs (n + 1) utf8
          (IsCharBoundary-after_ascii bs n utf8 lt (omega (arith, is))));
      characters = grind (arith, chars-append);
    }

-- ---- the loop

-- this much is written of a text, at whose start a tag was open or not, and the rest gives what is missing
pub record TagsRead (text : List ℕ) (start : Bool) (old into : List ℕ) (o : Bool) (rest : List ℕ) : Type 0 where
  utf8 : IsUtf8 rest
  sofar : into ++ encode_utf8_all (blanked_tags o (chars rest))
      ≡ old ++ encode_utf8_all (blanked_tags start (chars text))
  after : is_tag_open_after_all o (chars rest) ≡ is_tag_open_after_all start (chars text)
  size : length into + length rest ≤ length old + length text

-- the whole text is written
pub record TagsBlanked (text : List ℕ) (start : Bool) (old into : List ℕ) (o : Bool) : Type 0 where
  pub whole : into ≡ old ++ encode_utf8_all (blanked_tags start (chars text))
  pub after : o ≡ is_tag_open_after_all start (chars text)
  pub size : length into ≤ length old + length text

pub tags_read-start : (text : List ℕ) (start : Bool) (old : List ℕ) → IsUtf8 text
    → TagsRead text start old old start text
tags_read-start text start old utf8 = grind arith

pub tags_read-step : (text : List ℕ) (start : Bool) (old into : List ℕ) (o : Bool)
    (rest before after spanned new : List ℕ) → TagsRead text start old into o rest
    → IsCut (span_end o) rest before after → spanned ≡ into ++ encode_utf8_all (shown_span o (chars before)) → new
    ≡ spanned ++ encode_utf8 0x20
    → TagsRead text start old new (not o) after
tags_read-step text start old into o rest before after spanned new h cut written ended =
    grind (
      arith,
      cut_text,
      lacks-text,
      is_open-span,
      blanked-append,
      blanked-span,
      encode_utf8_all,
      encode_utf8,
      encodes-append,
      is_open_after-append,
      append_assoc,
      length-append,
      length-span,
      encode_ascii,
    )

pub tags_read-end : (text : List ℕ) (start : Bool) (old into : List ℕ) (o : Bool) (rest new : List ℕ)
    → TagsRead text start old into o rest → Lacks (span_end o) rest
    → new ≡ into ++ encode_utf8_all (shown_span o (chars rest)) → TagsBlanked text start old new o
tags_read-end text start old into o rest new h lacks written =
    grind (arith, lacks-text, encode_utf8_all, blanked-span, is_open-span, length-append, length-span)
