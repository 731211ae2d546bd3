-- Worked rows: the events of archives, and their refusals.
use Rattle.mbox_cutter.proofs.Words.{ℕ, List, [], ◌∷◌, ◌++◌, Option, None, Some, refl, codes, CutFault, NotAnMbox, ArchiveTooLong, lines, first_length, is_empty, is_separator, without_break, has_form, messages, events, archive_refusal, Start, Line, End, Done}
use Rattle.mbox_cutter.proofs.RowTables.{Each}

-- the refusal of an archive, if this many bytes are allowed
abbrev refusal : ℕ × List ℕ → Option CutFault
refusal asked = archive_refusal asked.0 asked.1

abbrev hello : List ℕ
hello = codes "From a@x.org Thu Jan  2 10:00:00 2003\nSubject: Hello\n\nhi"

abbrev two : List ℕ
two =
    codes
    "From a@x.org Thu Jan  2 10:00:00 2003\nSubject: one\n\na\n\nFrom here on we go\n\nFrom - Sat Jan  4 12:00:00 2003\nSubject: two\n\nb\n\n"

abbrev from_alice : List ℕ
from_alice = codes "From a@x.org Thu Jan  2 10:00:00 2003\n"

rows : Each events ((codes "hello\n", []) ∷ (codes "", Done 0 ∷ []) ∷ (codes "\n\r\n", Done 3 ∷ [])
    ∷ (
      hello ++ codes "\n\n",
      Start 0 from_alice ∷ Line (codes "Subject: Hello\n") ∷ Line (codes "\n") ∷ Line
          (codes "hi\n") ∷ End 58 19 ∷ Done 58 ∷ [],
    )
    ∷ (
      hello ++ codes "\n",
      Start 0 from_alice ∷ Line (codes "Subject: Hello\n") ∷ Line (codes "\n") ∷ Line
          (codes "hi\n") ∷ End 57 19 ∷ Done 57 ∷ [],
    )
    ∷ (
      two,
      Start 0 from_alice ∷ Line (codes "Subject: one\n") ∷ Line (codes "\n") ∷ Line (codes "a\n") ∷ Line
          (codes "\n") ∷ Line (codes "From here on we go\n") ∷ End 75 36 ∷ Start 75
          (codes "From - Sat Jan  4 12:00:00 2003\n") ∷ Line (codes "Subject: two\n") ∷ Line (codes "\n") ∷ Line
          (codes "b\n") ∷ End 49 16 ∷ Done 124 ∷ [],
    )
    ∷ (
      codes "\r\nFrom a 10:00 2003\r\nx\r\n\r\nFrom b 10:00 2004",
      Start 2 (codes "From a 10:00 2003\r\n") ∷ Line (codes "x\r\n") ∷ End 24 3 ∷ Start 26 (codes "From b 10:00 2004")
          ∷ End 17 0 ∷ Done 43 ∷ [],
    )
    ∷ (
      codes "From a 10:00 2003\n\r",
      Start 0 (codes "From a 10:00 2003\n") ∷ Line (codes "\r") ∷ End 19 1 ∷ Done 19 ∷
          [],
    )
    ∷ (
      codes "From a 10:00 2003\n\n\n\n",
      Start 0 (codes "From a 10:00 2003\n") ∷ Line (codes "\n") ∷ Line (codes "\n")
          ∷ End 21 2 ∷ Done 21 ∷ [],
    ) ∷ [])
    × Each refusal (((10, hello ++ codes "\n\n"), Some ArchiveTooLong)
    ∷ ((58, hello ++ codes "\n\n"), None)
    ∷ ((57, hello ++ codes "\n\n"), Some ArchiveTooLong)
    ∷ ((10, codes "hello\n"), Some NotAnMbox) ∷ ((6, codes "hello\n"), Some NotAnMbox)
    ∷ ((5, codes "hello\n"), Some ArchiveTooLong) ∷ ((3, codes "hello\n"), Some ArchiveTooLong)
    ∷ ((10, codes "\n\nhello\nx\nx\nx\nx\n"), Some NotAnMbox) ∷ ((8, codes "\n\nhello\n\n"), Some NotAnMbox)
    ∷ ((7, codes "\n\nhello\n\n"), Some ArchiveTooLong) ∷ ((3, codes "\n\n\n\n"), Some ArchiveTooLong)
    ∷ ((4, codes "\n\n\n\n"), None) ∷ ((0, codes ""), None) ∷ ((0, codes "\n"), Some ArchiveTooLong)
    ∷ ((0, codes "x"), Some ArchiveTooLong) ∷ [])
unfolding events archive_refusal messages lines first_length is_separator is_empty without_break has_form
rows = (refl, refl)
