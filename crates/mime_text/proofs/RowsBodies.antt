-- Rows of transfer encodings, tags and the texts of leaves. The values on the right were found by reading the rules
-- separately.
use Rattle.mime_text.proofs.Words.{◌≡◌, true, false, [], ◌∷◌, refl, codes, is_empty, first_length, lines, without_break, before_blanks, sextet, bytes_of_sextets, base64_bytes, charset_of, text_of, Utf8, Latin1, printable_bytes, decoded_bytes, lines_without_tags, leaf_texts, Identity, QuotedPrintable, Base64}
use Rattle.std.specs.Char.{encode_utf8}
use Rattle.std.specs.Str.{chars}
use Rattle.header_text.specs.Escapes.{unescaped_bytes}
use Rattle.mime_text.proofs.RowTables.{Each}

rows : Each (decoded_bytes QuotedPrintable) ((codes "lunch=\n" ∷ codes "break\n" ∷ [], codes "lunchbreak\n")
    ∷ (codes "a =\t \n" ∷ codes "b" ∷ [], codes "a b") ∷ (codes "a=20\n" ∷ [], codes "a \n")
    ∷ (codes "=C3=bc\n" ∷ [], 195 ∷ 188 ∷ 10 ∷ []) ∷ (codes "=\n" ∷ [], [])
    ∷ (codes "a==\n" ∷ codes "b\n" ∷ [], codes "a=b\n") ∷ (codes "=3D=\n" ∷ [], codes "=")
    ∷ (codes "a=3x=G1\n" ∷ [], codes "a=3x=G1\n") ∷ (codes "a \t\r\n" ∷ [], codes "a\n")
    ∷ (codes "  \n" ∷ [], codes "\n") ∷ (codes "a \r" ∷ [], codes "a \r")
    ∷ (codes "a\n" ∷ codes "b  " ∷ [], codes "a\nb") ∷ (codes "a=\n" ∷ codes "3D\n" ∷ [], codes "a3D\n") ∷ [])
    × Each (decoded_bytes Base64) ((codes "aGVs\n" ∷ codes "bG8\n" ∷ [], codes "hello")
    ∷ (codes "a\n" ∷ codes "GVs" ∷ codes "bG8\n" ∷ [], codes "hello")
    ∷ (codes "aGVs\n" ∷ codes "bG8=\n" ∷ codes "aGVs\n" ∷ [], codes "hello")
    ∷ (codes "a-G_V.s \n" ∷ [], codes "hel") ∷ (codes "aGVsb\n" ∷ [], codes "hel")
    ∷ (codes "aGVsbG\n" ∷ [], codes "hell") ∷ (codes "YR\n" ∷ [], codes "a") ∷ [])
    × Each (lines_without_tags []) ((codes "<p>Mee<b\n" ∷ codes "i>t\n" ∷ [], codes "   Mee   " ∷ codes "  t\n" ∷ [])
    ∷ (codes "a > b\n" ∷ [], codes "a > b\n" ∷ []) ∷ (codes "a<b" ∷ codes "c" ∷ [], codes "a  " ∷ codes " " ∷ [])
    ∷ (codes "<<a>>b" ∷ [], codes "    >b" ∷ []) ∷ (codes "a<>b" ∷ [], codes "a  b" ∷ [])
    ∷ ((97 ∷ 60 ∷ 252 ∷ 62 ∷ 98 ∷ []) ∷ [], codes "a   b" ∷ []) ∷ [])
    × (leaf_texts Identity Utf8 false [] ≡ [])
    × (leaf_texts Identity Latin1 false (codes "a\n" ∷ codes "b\n" ∷ codes "c" ∷ [])
    ≡ codes "a\n" ∷ codes "b\n" ∷ codes "c" ∷ [])
    × (leaf_texts Identity Latin1 false (codes "a" ∷ codes "b\n" ∷ []) ≡ codes "ab\n" ∷ [])
    × (leaf_texts QuotedPrintable Latin1 false (codes "f=FC=\n" ∷ codes "r\n" ∷ codes "x\n" ∷ [])
    ≡ (102 ∷ 195 ∷ 188 ∷ 114 ∷ 10 ∷ []) ∷ codes "x\n" ∷ [])
    × (leaf_texts Base64 Latin1 false (codes "YQpi\n" ∷ codes "Cg==\n" ∷ []) ≡ codes "a\n" ∷ codes "b\n" ∷ [])
    × (leaf_texts QuotedPrintable Latin1 true (codes "a<=FC\n" ∷ codes "=FC>b\n" ∷ [])
    ≡ codes "a   " ∷ codes "  b\n" ∷ [])
    × (decoded_bytes Identity (codes "a=3D\n" ∷ codes "b" ∷ []) ≡ codes "a=3D\nb")
unfolding is_empty without_break before_blanks unescaped_bytes sextet bytes_of_sextets base64_bytes printable_bytes
    first_length lines charset_of text_of leaf_texts chars encode_utf8
rows = (refl, refl, refl, refl, refl, refl, refl, refl, refl, refl)
