-- Words of given texts, by computation. Here word characters are the letters and digits of ASCII.
use Rattle.mail_words.proofs.Imports.{ℕ, Bool, ◌||◌, ◌&&◌, List, [], ◌∷◌, refl, leb, codes, is_joiner, is_word, words_after}
use Rattle.mail_words.proofs.RowTables.{Each}

abbrev is_ascii_word : ℕ → Bool
is_ascii_word c = (leb 0x61 c && leb c 0x7A) || (leb 0x41 c && leb c 0x5A) || (leb 0x30 c && leb c 0x39)

abbrev words_of : List ℕ → List (List ℕ)
words_of = words_after is_ascii_word []

rows : Each words_of (([], []) ∷ (codes " ", []) ∷ (codes "-", []) ∷ (codes "-_.+@", []) ∷ (codes "a", codes "a" ∷ [])
    ∷ (codes "hello", codes "hello" ∷ [])
    ∷ (codes "e-mail, a_b!", codes "e" ∷ codes "e-mail" ∷ codes "mail" ∷ codes "a" ∷ codes "a_b" ∷ codes "b" ∷ [])
    ∷ (codes "--a-b--", codes "a" ∷ codes "a-b" ∷ codes "b" ∷ []) ∷ (codes "-a", codes "a" ∷ [])
    ∷ (codes "a-", codes "a" ∷ [])
    ∷ (
      codes "a-b_c.d+e@f",
      codes "a" ∷ codes "a-b_c.d+e@f" ∷ codes "b" ∷ codes "c" ∷ codes "d" ∷ codes "e" ∷ codes "f"
          ∷ [],
    )
    ∷ (codes "a--b", codes "a" ∷ codes "a--b" ∷ codes "b" ∷ [])
    ∷ (codes "a+.b", codes "a" ∷ codes "a+.b" ∷ codes "b" ∷ [])
    ∷ (codes "a-b-c", codes "a" ∷ codes "a-b-c" ∷ codes "b" ∷ codes "c" ∷ [])
    ∷ (codes "a- b -c - d", codes "a" ∷ codes "b" ∷ codes "c" ∷ codes "d" ∷ [])
    ∷ (codes "a.b c.d", codes "a" ∷ codes "a.b" ∷ codes "b" ∷ codes "c" ∷ codes "c.d" ∷ codes "d" ∷ [])
    ∷ (codes "<al@x.org>", codes "al" ∷ codes "al@x.org" ∷ codes "x" ∷ codes "org" ∷ [])
    ∷ (codes "don't", codes "don" ∷ codes "t" ∷ [])
    ∷ (codes "a/b:c=d~e#f", codes "a" ∷ codes "b" ∷ codes "c" ∷ codes "d" ∷ codes "e" ∷ codes "f" ∷ [])
    ∷ (codes "1.5", codes "1" ∷ codes "1.5" ∷ codes "5" ∷ [])
    ∷ (codes "x2-3y", codes "x2" ∷ codes "x2-3y" ∷ codes "3y" ∷ []) ∷ (codes "a\r\nb", codes "a" ∷ codes "b" ∷ [])
    ∷ (codes "a-/-b", codes "a" ∷ codes "b" ∷ []) ∷ [])
unfolding is_joiner is_word lib.Utf8.encode
rows = refl
