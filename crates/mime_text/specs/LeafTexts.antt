-- The texts of a leaf: one for each line of its decoded body, in the leaf's charset; for text/html without the tags.
use Rattle.std.specs.Prelude.{ℕ, Bool, true, false, List, [], map, encode_utf8_all}
use Rattle.std.specs.Str.{chars}
use Rattle.mbox_cutter.specs.Lines.{lines}
use Rattle.header_text.specs.Charsets.{text_of}
use Rattle.header_text.specs.declared.charset.Charset.{Charset}
use Rattle.mime_text.specs.Transfer.{decoded_bytes}
use Rattle.mime_text.specs.Tags.{lines_without_tags}
use Rattle.mime_text.specs.declared.leaf.transfer.TransferEncoding.{TransferEncoding}

-- the text of each line; in HTML a tag may begin in one line and end in a later one
abbrev pub texts_of_lines : Charset → Bool → List (List ℕ) → List (List ℕ)
texts_of_lines charset false ls = map (text_of charset) ls
texts_of_lines charset true ls = map encode_utf8_all
    (lines_without_tags [] (map (λ line. chars (text_of charset line)) ls))

-- the texts of a body with these lines: the decoded bytes are cut into lines again
unfoldable pub leaf_texts : TransferEncoding → Charset → Bool → List (List ℕ) → List (List ℕ)
leaf_texts transfer charset is_html ls = texts_of_lines charset is_html (lines (decoded_bytes transfer ls))
