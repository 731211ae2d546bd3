-- Worked examples of encoded words and charsets. The values on the right come from a separate reading of the rules.
use Rattle.header_text.proofs.Words.{ℕ, List, [], ◌∷◌, refl, codes, encode_utf8, pieces_from, q_bytes, sextet, bytes_of_sextets, base64_bytes, charset_of, text_of, word_and_later, word_at, decoded_value, Charset, Utf8, Latin1, Latin9, Windows1252, Unknown}
use Rattle.header_text.proofs.Rows.{Each}

rows : Each decoded_value ((codes "=?utf-8*en?q?a_b?=", codes "a b")
    ∷ (codes "=?x-none?Q?=E9t?=", 239 ∷ 191 ∷ 189 ∷ 116 ∷ [])
    ∷ (codes "=?utf-8?Q?a?= =?utf-8?Q?b?= c", codes "ab c")
    ∷ (codes "a =?utf-8?B?w7w=?= b", 97 ∷ 32 ∷ 195 ∷ 188 ∷ 32 ∷ 98 ∷ [])
    ∷ (codes "=?iso-8859-1?Q?Gr=FC=DFe?=", 71 ∷ 114 ∷ 195 ∷ 188 ∷ 195 ∷ 159 ∷ 101 ∷ [])
    ∷ (codes "=?utf-8?Q?lun?= =?utf-8?Q?ch?=", codes "lunch")
    ∷ (codes "=?utf-8?Q??=", [])
    ∷ (
      32 ∷ 61 ∷ 63 ∷ 117 ∷ 116 ∷ 102 ∷ 45 ∷ 56 ∷ 63 ∷ 81 ∷ 63 ∷ 63 ∷ 61 ∷ 32 ∷ 9 ∷ 32 ∷ 61 ∷ 63 ∷ 117 ∷ 116 ∷ 102 ∷ 45
          ∷ 56 ∷ 63 ∷ 81 ∷ 63 ∷ 63 ∷ 61 ∷ 32 ∷ [],
      codes "  ",
    )
    ∷ (codes "=?utf-8?Q?a?=x=?utf-8?Q?b?=", codes "axb")
    ∷ (codes "=?utf-8?Q?a?=  x =?utf-8?Q?b?=", codes "a  x b")
    ∷ (codes "=?utf-8?X?a?=", codes "=?utf-8?X?a?=")
    ∷ (codes "=?utf-8?Q?a?", codes "=?utf-8?Q?a?")
    ∷ (codes "=?=?utf-8?Q?a?=", codes "=?a")
    ∷ (codes "=?utf-8?Q?a?b?=", codes "=?utf-8?Q?a?b?=")
    ∷ (codes "=??Q?a?=", codes "=??Q?a?=")
    ∷ (codes "=?utf-8?Q?a?==?utf-8?Q?b?=", codes "ab")
    ∷ (codes "=?utf-8?q?=c3?= =?utf-8?q?=bc?=", 239 ∷ 191 ∷ 189 ∷ 239 ∷ 191 ∷ 189 ∷ [])
    ∷ (
      97 ∷ 195 ∷ 32 ∷ 61 ∷ 63 ∷ 99 ∷ 112 ∷ 49 ∷ 50 ∷ 53 ∷ 50 ∷ 63 ∷ 98 ∷ 63 ∷ 103 ∷ 65 ∷ 61 ∷ 61 ∷ 63 ∷ 61 ∷ [],
      97 ∷ 239 ∷ 191 ∷ 189 ∷ 32 ∷ 226 ∷ 130 ∷ 172 ∷ [],
    )
    ∷ (codes "=?utf-8?QQ?a?=", codes "=?utf-8?QQ?a?=")
    ∷ (
      61 ∷ 63 ∷ 108 ∷ 97 ∷ 116 ∷ 105 ∷ 110 ∷ 49 ∷ 63 ∷ 81 ∷ 63 ∷ 97 ∷ 9 ∷ 98 ∷ 63 ∷ 61 ∷ [],
      61 ∷ 63 ∷ 108 ∷ 97 ∷ 116 ∷ 105 ∷ 110 ∷ 49 ∷ 63 ∷ 81 ∷ 63 ∷ 97 ∷ 9 ∷ 98 ∷ 63 ∷ 61 ∷ [],
    )
    ∷ (codes "=?u=?utf-8?Q?x?=", codes "=?ux")
    ∷ ([], [])
    ∷ (codes "=?ISO-8859-15?Q?=A4?=", 226 ∷ 130 ∷ 172 ∷ [])
    ∷ (codes "=?windows-1252?Q?=81=9f?=", 239 ∷ 191 ∷ 189 ∷ 197 ∷ 184 ∷ []) ∷ [])
    × Each (λ (row : Charset × List ℕ). text_of row.0 row.1) (((Latin9, 164 ∷ []), 226 ∷ 130 ∷ 172 ∷ [])
    ∷ ((Utf8, 195 ∷ []), 239 ∷ 191 ∷ 189 ∷ [])
    ∷ (
      (Windows1252, 128 ∷ 129 ∷ 141 ∷ 143 ∷ 144 ∷ 157 ∷ 159 ∷ []),
      226 ∷ 130 ∷ 172 ∷ 239 ∷ 191 ∷ 189 ∷ 239 ∷ 191 ∷ 189 ∷ 239 ∷ 191 ∷ 189 ∷ 239 ∷ 191 ∷ 189 ∷ 239 ∷ 191 ∷ 189 ∷ 197
          ∷ 184 ∷ [],
    )
    ∷ ((Unknown, 97 ∷ 127 ∷ 128 ∷ []), 97 ∷ 127 ∷ 239 ∷ 191 ∷ 189 ∷ [])
    ∷ ((Latin1, 255 ∷ []), 195 ∷ 191 ∷ [])
    ∷ ((Utf8, 226 ∷ 130 ∷ 120 ∷ 240 ∷ 159 ∷ 152 ∷ 128 ∷ []), 239 ∷ 191 ∷ 189 ∷ 120 ∷ 240 ∷ 159 ∷ 152 ∷ 128 ∷ [])
    ∷ (
      (Latin9, 164 ∷ 166 ∷ 168 ∷ 180 ∷ 184 ∷ 188 ∷ 189 ∷ 190 ∷ 165 ∷ []),
      226 ∷ 130 ∷ 172 ∷ 197 ∷ 160 ∷ 197 ∷ 161 ∷ 197 ∷ 189 ∷ 197 ∷ 190 ∷ 197 ∷ 146 ∷ 197 ∷ 147 ∷ 197 ∷ 184 ∷ 194 ∷ 165
          ∷ [],
    ) ∷ [])
    × Each charset_of (([], Utf8)
    ∷ (codes "US-ASCII", Utf8)
    ∷ (codes "uTf8*de*x", Utf8)
    ∷ (codes "*en", Utf8)
    ∷ (codes "Latin1", Latin1)
    ∷ (codes "iso8859-15", Latin9)
    ∷ (codes "CP1252", Windows1252)
    ∷ (codes "utf-16", Unknown)
    ∷ (codes " utf-8", Unknown) ∷ [])
unfolding encode_utf8 pieces_from q_bytes sextet bytes_of_sextets base64_bytes charset_of text_of word_and_later word_at
    decoded_value
rows = (refl, refl, refl)
