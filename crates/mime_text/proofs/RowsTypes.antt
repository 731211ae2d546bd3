-- Rows of types and parameters. The values on the right were found by reading the rules separately.
use Rattle.mime_text.proofs.Words.{◌≡◌, ℕ, true, false, List, [], ◌∷◌, ◌++◌, refl, codes, is_empty, before_blanks, HeaderField, fields_of, unfolded_body, charset_of, Utf8, Latin1, Unknown, Parameter, piece_of, parameters, parameter, shape_of, shape_of_value, charset_in, charset_of_value, transfer_in, transfer_named, TextPlain, MessageRfc822, Multipart, Message, Text, Other, Identity, QuotedPrintable, Base64}
use Rattle.mime_text.proofs.RowTables.{Each}

abbrev typed : List ℕ → List HeaderField
typed value = record { name = codes "Content-Type"; body = value } ∷ []

abbrev encoded : List ℕ → List HeaderField
encoded value = record { name = codes "Content-Transfer-Encoding"; body = value } ∷ []

abbrev p : List ℕ → List ℕ → Parameter
p name value = record { name = name; value = value }

rows : Each (λ value. shape_of TextPlain (typed value))
    ((codes " multipart/mixed; boundary=o\n", Multipart (codes "o") TextPlain)
    ∷ (codes " Multipart/DIGEST; Boundary=\"o p\\\"q\"\n", Multipart (codes "o p\"q") MessageRfc822)
    ∷ (codes " ; boundary=o\n", Text false) ∷ (codes " text/plain \"a;b\"; charset=x\n", Other)
    ∷ (codes " multipart/mixed; boundary=; boundary=o\n", Text false)
    ∷ (codes " multipart/mixed; boundary=\"\"; boundary=o\n", Text false)
    ∷ (codes " multipart/mixed; boundary=a; boundary=o\n", Multipart (codes "a") TextPlain)
    ∷ (codes " multipart/mixed\n", Text false)
    ∷ (
      codes " multipart/mixed; boundary=0123456789012345678901234567890123456789012345678901234567890123456789\n",
      Multipart (codes "0123456789012345678901234567890123456789012345678901234567890123456789") TextPlain,
    )
    ∷ (
      codes " multipart/mixed; boundary=0123456789012345678901234567890123456789012345678901234567890123456789x\n",
      Text false,
    )
    ∷ (codes " multipart/; boundary=o\n", Multipart (codes "o") TextPlain)
    ∷ (codes " multipart; boundary=o\n", Text false) ∷ (codes " MESSAGE/rfc822 ; x\n", Message)
    ∷ (codes " text/html\n", Text true) ∷ (codes " text/x-html\n", Other)
    ∷ (codes " multipart/mixed;\n\tboundary=o\n", Multipart (codes "o") TextPlain)
    ∷ (codes " multipart/mixed; boundary=o\r", Multipart (codes "o\r") TextPlain) ∷ [])
    × Each parameters ((
      codes "a; x; y=1; z = \"q;r\\\";\" ignored; w=2 3; v",
      p (codes "y") (codes "1") ∷ p (codes "z") (codes "q;r\";") ∷ p (codes "w") (codes "2") ∷ [],
    )
    ∷ (codes "a; b=\"c;d", p (codes "b") (codes "c;d") ∷ [])
    ∷ (codes "a; b=\"c\\", p (codes "b") (codes "c") ∷ [])
    ∷ (codes "a; b=\"\\c\\\\d\"", p (codes "b") (codes "c\\d") ∷ [])
    ∷ (codes "a; b=c\"d;e\"; f=g", p (codes "b") (codes "c\"d") ∷ p (codes "f") (codes "g") ∷ [])
    ∷ (codes "a; b=c \"d;e=f\"", p (codes "b") (codes "c") ∷ p (codes "e") (codes "f\"") ∷ [])
    ∷ (codes "a; =\"x\"; b=1", p (codes "") (codes "x") ∷ p (codes "b") (codes "1") ∷ [])
    ∷ (codes "a; b=", p (codes "b") (codes "") ∷ [])
    ∷ (codes "a; b= ; c=d", p (codes "b") (codes "") ∷ p (codes "c") (codes "d") ∷ [])
    ∷ (codes "a; b==c=d", p (codes "b") (codes "=c=d") ∷ []) ∷ (codes "a=b; c=d", p (codes "c") (codes "d") ∷ [])
    ∷ (codes "a=b", [])
    ∷ (codes "a; b=\"c\"d=e; f=\"g\"h", p (codes "b") (codes "c") ∷ p (codes "f") (codes "g") ∷ []) ∷ [])
    × Each (λ value. charset_in (typed value)) ((codes " text/plain; charset=\"\"", Utf8)
    ∷ (codes " text/plain; charset=UTF-8*en", Utf8)
    ∷ (codes " text/html; x=1; CharSet = \"ISO-8859-1\" y; charset=utf-8", Latin1)
    ∷ (codes " ; charset=latin1", Latin1) ∷ (codes " text/plain; charset=koi8-r", Unknown) ∷ [])
    × Each (λ value. transfer_in (encoded value)) ((codes " Quoted-PRINTABLE \n", QuotedPrintable)
    ∷ (codes "BASE64", Base64) ∷ (codes " 8bit\n", Identity) ∷ (codes " base64; x\n", Identity) ∷ [])
    × (shape_of TextPlain [] ≡ Text false)
    × (shape_of MessageRfc822 [] ≡ Message)
    × (shape_of TextPlain (typed (codes " text/html\n") ++ typed (codes " text/plain\n")) ≡ Text true)
    × (shape_of TextPlain (fields_of (codes "X: y\n" ∷ codes "content-TYPE:text/html\n" ∷ [])) ≡ Text true)
    × (charset_in [] ≡ Utf8)
    × (transfer_in [] ≡ Identity)
unfolding is_empty before_blanks fields_of unfolded_body piece_of parameter shape_of_value charset_of_value charset_of
    transfer_named
rows = (refl, refl, refl, refl, refl, refl, refl, refl, refl, refl)
