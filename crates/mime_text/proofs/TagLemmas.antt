-- Tags line by line give what tags in the whole text give.
use Rattle.mime_text.proofs.Words.{◌≡◌, ◌∙◌, ◌<◌, ◌==◌, ◌++◌, ℕ, Bool, true, false, List, [], ◌∷◌, map, reverse, refl, ap, arith, append_assoc, encode_utf8_all, IsUtf8, eqb-true, reverse-append, encode_ascii, encodes-chars, Lacks, text_of, Charset, is_open, without_tags, lines_without_tags, texts_of_lines, is_tag_open_after, is_tag_open_after_all, blanked_tags, texts_after}
use Rattle.std.specs.Char.{encode_utf8}
use Rattle.std.specs.Str.{chars}

-- ---- of the text before, only whether a tag is open counts

is_open-step : (before : List ℕ) (c : ℕ) → is_open (c ∷ before) ≡ is_tag_open_after (is_open before) c
is_open-step before c = grind arith

without_tags-blanked : (before cs : List ℕ) (o : Bool) → is_open before ≡ o → without_tags before cs ≡ blanked_tags o cs
without_tags-blanked before [] o h = refl
without_tags-blanked before (c ∷ cs) o h =
    grind (arith, is_open-step, without_tags-blanked (c ∷ before) cs (is_tag_open_after o c))

is_open-line : (before cs : List ℕ) → is_open (reverse cs ++ before) ≡ is_tag_open_after_all (is_open before) cs
is_open-line before [] = refl
is_open-line before (c ∷ cs) =
    let turned : reverse (c ∷ cs) ++ before ≡ reverse cs ++ c ∷ before =
    cc (reverse-append (c ∷ []) cs, append_assoc (reverse cs) (c ∷ []) before) in
    grind (arith, is_open-line (c ∷ before) cs)

tagged_lines : (charset : Charset) (before : List ℕ) (o : Bool) (ls : List (List ℕ)) → is_open before ≡ o
    → map encode_utf8_all (lines_without_tags before (map (λ line. chars (text_of charset line)) ls))
    ≡ texts_after charset true o ls
tagged_lines charset before o [] h = refl
tagged_lines charset before o (l ∷ ls) h =
    let cs : List ℕ = chars (text_of charset l) in
    cc (
      without_tags-blanked before cs o h,
      tagged_lines charset (reverse cs ++ before) (is_tag_open_after_all o cs) ls
          (is_open-line before cs ∙ ap (λ (b : Bool). is_tag_open_after_all b cs) h),
    )

plain_lines : (charset : Charset) (o : Bool) (ls : List (List ℕ)) → map (text_of charset) ls
    ≡ texts_after charset false o ls
plain_lines charset o [] = refl
plain_lines charset o (l ∷ ls) = grind (arith, plain_lines charset o ls)

-- at the beginning no tag is open
pub texts_begin : (charset : Charset) (is_html : Bool) (ls : List (List ℕ)) → texts_after charset is_html false ls
    ≡ texts_of_lines charset is_html ls
texts_begin charset is_html ls = grind (arith, plain_lines, tagged_lines)

-- ---- text without tags

lacks-append : (c : ℕ) (xs ys : List ℕ) → Lacks c (xs ++ ys) → Lacks c xs × Lacks c ys
lacks-append c [] ys h = (tt, h)
lacks-append c (x ∷ xs) ys h = grind (arith, lacks-append c xs ys h.1)

-- if no byte is this ASCII character, no character is
lacks-chars : (c : ℕ) → c < 128 → (cs : List ℕ) → Lacks c (encode_utf8_all cs) → Lacks c cs
lacks-chars c ascii [] h = tt
lacks-chars c ascii (x ∷ cs) h = let parts = lacks-append c (encode_utf8 x) (encode_utf8_all cs) h
    in (go (x == c) refl parts.0, lacks-chars c ascii cs parts.1)
  where
    go : (t : Bool) → (x == c) ≡ t → Lacks c (encode_utf8 x) → (x == c) ≡ false
    go t h h2 = grind (arith, eqb-true, encode_ascii)

pub lacks-text : (c : ℕ) → c < 128 → (text : List ℕ) → IsUtf8 text → Lacks c text → Lacks c (chars text)
lacks-text c ascii text utf8 h = grind (arith, Lacks, lacks-chars, encodes-chars)

pub blanked-free : (cs : List ℕ) → Lacks 0x3C cs → blanked_tags false cs ≡ cs
blanked-free [] h = refl
blanked-free (c ∷ cs) h = grind (arith, blanked-free cs h.1)

pub is_open-free : (cs : List ℕ) → Lacks 0x3C cs → is_tag_open_after_all false cs ≡ false
is_open-free [] h = refl
is_open-free (c ∷ cs) h = rw h.0 (is_open-free cs h.1)

pub free-text : (text : List ℕ) (o : Bool) → o ≡ false → IsUtf8 text → Lacks 0x3C text
    → encode_utf8_all (blanked_tags o (chars text)) ≡ text
free-text text o e utf8 h = grind (arith, blanked-free, lacks-text, encodes-chars)

pub free-after : (text : List ℕ) (o : Bool) → o ≡ false → IsUtf8 text → Lacks 0x3C text
    → is_tag_open_after_all o (chars text)
    ≡ false
free-after text o e utf8 h = grind (arith, is_open-free, lacks-text)
