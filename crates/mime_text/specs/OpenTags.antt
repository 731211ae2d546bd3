-- The tags of HTML read one character and one line at a time: of the text before, only whether a tag is open counts.
use Rattle.std.specs.Prelude.{ℕ, Bool, true, false, not, ◌&&◌, ◌||◌, ◌==◌, if◌then◌else◌, List, [], ◌∷◌}
use Rattle.std.specs.Prelude.{encode_utf8_all}
use Rattle.std.specs.Str.{chars}
use Rattle.header_text.specs.Charsets.{text_of}
use Rattle.header_text.specs.declared.charset.Charset.{Charset}

-- whether a tag is open after this character
abbrev pub is_tag_open_after : Bool → ℕ → Bool
is_tag_open_after open_before c = (open_before || (c == 0x3C)) && not (c == 0x3E)

-- whether a tag is open after these characters
abbrev pub is_tag_open_after_all : Bool → List ℕ → Bool
is_tag_open_after_all open_before [] = open_before
is_tag_open_after_all open_before (c ∷ cs) = is_tag_open_after_all (is_tag_open_after open_before c) cs

-- the character that is written for this one: a space for each in a tag
abbrev pub shown_character : Bool → ℕ → ℕ
shown_character open_before c = if open_before || (c == 0x3C) then 0x20 else c

-- the characters, with a space for each in a tag
abbrev pub blanked_tags : Bool → List ℕ → List ℕ
blanked_tags open_before [] = []
blanked_tags open_before (c ∷ cs) = shown_character open_before c ∷ blanked_tags (is_tag_open_after open_before c) cs

-- the text of a line, if a tag is open before it or none is; only in HTML are there tags
abbrev pub line_text : Charset → Bool → Bool → List ℕ → List ℕ
line_text charset false open_before line = text_of charset line
line_text charset true open_before line = encode_utf8_all (blanked_tags open_before (chars (text_of charset line)))

-- whether a tag is open after a line
abbrev pub is_tag_open_after_line : Charset → Bool → Bool → List ℕ → Bool
is_tag_open_after_line charset false open_before line = open_before
is_tag_open_after_line charset true open_before line = is_tag_open_after_all open_before (chars (text_of charset line))

-- the texts of the lines that follow, if a tag is open before them or none is
abbrev pub texts_after : Charset → Bool → Bool → List (List ℕ) → List (List ℕ)
texts_after charset is_html open_before [] = []
texts_after charset is_html open_before (l ∷ ls) =
    line_text charset is_html open_before l ∷ texts_after charset is_html
    (is_tag_open_after_line charset is_html open_before l) ls
