-- Rows of rcfiles, each with what it says or its fault.
use Rattle.mairix_options.proofs.Words.{◌≡◌, ℕ, codes, refl, List, [], ◌∷◌, ◌++◌, None, Some, Ok, Err, replicate, true, false, map, chars, text_without_blanks, is_path, rc_of, RcFault, BadLine, NotSupported, Wildcard, Expansion, Missing, BadFormat, Rc}
use Rattle.bstr.proofs.Computing.{computing}
use Rattle.std.specs.Char.{encode_utf8}
use Rattle.mairix_options.specs.declared.rcfile.Name.TheVariants as name
use Rattle.mairix_options.specs.declared.mail_format.MailFormat.TheVariants as format

-- an rcfile without `base` and `mformat`
abbrev plain : List (List ℕ) → List ℕ → List ℕ → Rc
plain paths database mfolder = record {
  base = None;
  paths = paths;
  database = database;
  mfolder = mfolder;
  format =
      format.Mbox;
}

abbrev Says : List ℕ → Rc → Type 0
Says file rc = rc_of file ≡ Ok rc

-- lines that name these archives, if the lines after them name only the database and the mfolder
abbrev Names : List ℕ → List (List ℕ) → Type 0
Names lines paths = Says (lines ++ codes "\ndatabase=i\nmfolder=h\n") (plain paths (codes "i") (codes "h"))

-- each of these rcfiles is refused with this fault
abbrev Refuses : List (List ℕ) → RcFault → Type 0
Refuses files fault = map rc_of files ≡ map (λ _. Err fault) files

abbrev letters : ℕ → List ℕ
letters n = replicate n 97

accepted : Says (codes "mbox=m.mbox\ndatabase=m.idx\nmfolder=hits\n")
    (plain (codes "m.mbox" ∷ []) (codes "m.idx") (codes "hits"))
    × Names (codes "mbox=a.mbox:b.mbox") (codes "a.mbox" ∷ codes "b.mbox" ∷ [])
    × Names (codes "mbox=a\nmbox=:b::a:") (codes "a" ∷ codes "b" ∷ codes "a" ∷ [])
    -- the last line of an option counts
    × Says (codes "mbox=a\nmfolder=x\ndatabase=i\nmfolder=h\ndatabase=j\n")
    (plain (codes "a" ∷ []) (codes "j") (codes "h"))
    × Says (codes "mbox=a\r\ndatabase=b\r\nmfolder=c\r") (plain (codes "a" ∷ []) (codes "b") (codes "c\r"))
    × Names (codes "mbox=a\r\r") (codes "a\r" ∷ [])
    × Names (codes "\r\n \t\n\t# mbox\n#" ++ (255 ∷ []) ++ codes "\nmbox=a") (codes "a" ∷ [])
    × Names (codes "mbox=a=b") (codes "a=b" ∷ [])
    × Names (codes " \tmbox\t =\t a b \t") (codes "a b" ∷ [])
    × Names (codes "mbox=a : b") (codes "a " ∷ codes " b" ∷ [])
    -- a no-break space isn't a blank
    × Names (codes "mbox=" ++ (194 ∷ 160 ∷ []) ++ codes "a") (((194 ∷ 160 ∷ []) ++ codes "a") ∷ [])
    × Names (codes "mbox=gr" ++ (195 ∷ 182 ∷ 195 ∷ 159 ∷ []) ++ codes "e")
    ((codes "gr" ++ (195 ∷ 182 ∷ 195 ∷ 159 ∷ []) ++ codes "e") ∷ [])
    × Names (codes "mbox=a~:b") (codes "a~" ∷ codes "b" ∷ [])
    × Names (codes "mbox=a..b:.:..") (codes "a..b" ∷ codes "." ∷ codes ".." ∷ [])
    × Names (codes "mbox=a..:.b") (codes "a.." ∷ codes ".b" ∷ [])
    -- a wildcard is allowed in an option other than `mbox`
    × Says (codes "mbox=a\ndatabase=*?[...\nmfolder=...\n") (plain (codes "a" ∷ []) (codes "*?[...") (codes "..."))
    × Names (codes "mbox=" ++ letters 4096 ++ codes ":b") (letters 4096 ∷ codes "b" ∷ [])
    -- relative names are under the last base, wherever it is
    × Says (codes "base=/m\nmbox=a:/b\ndatabase=i\nmfolder=h\nmformat=raw\n")
    (record {
      base = Some (codes "/m");
      paths = codes "/m/a" ∷ codes "/b" ∷ [];
      database = codes "i";
      mfolder =
          codes "/m/h";
      format = format.Raw;
    })
    × Says (codes "base=x\nmbox=a\nbase=y\ndatabase=i\nmfolder=./h\nmformat=raw\nmformat=excerpt\n")
    (record {
      base = Some (codes "y");
      paths = codes "y/a" ∷ [];
      database = codes "i";
      mfolder = codes "./h";
      format
          = format.Excerpt;
    })
    × Says (codes "base=b\nmbox=" ++ letters 4094 ++ codes "\ndatabase=i\nmfolder=h\n")
    (record {
      base = Some (codes "b");
      paths = (codes "b/" ++ letters 4094) ∷ [];
      database = codes "i";
      mfolder =
          codes "b/h";
      format = format.Mbox;
    })
unfolding computing text_without_blanks chars encode_utf8
accepted = (
  refl,
  refl,
  refl,
  refl,
  refl,
  refl,
  refl,
  refl,
  refl,
  refl,
  refl,
  refl,
  refl,
  refl,
  refl,
  refl,
  refl,
  refl,
  refl,
  refl,
)

refused : Refuses (codes "" ∷ codes "mbox=:\ndatabase=i\nmfolder=h\n" ∷ []) (Missing name.Mbox)
    × Refuses (codes "mbox=a\nmfolder=h\n" ∷ (codes "mfolder=" ++ letters 4095 ++ codes "\nmbox=a\nbase=b\nmfolder=h\n")
    ∷ []) (Missing name.Database)
    × Refuses (codes "mbox=a\ndatabase=i" ∷ []) (Missing name.Mfolder)
    -- not UTF-8, without an option, with a NUL, which counts before all else, and with a name that is too long
    × Refuses (codes "mbox" ∷ (codes "x" ++ (255 ∷ []) ++ codes "=1\n") ∷ codes " \t=x\n" ∷ codes "omit=\0\n" ∷ codes
    "mbox=$:a\0\n" ∷ codes "mformat=\0\n" ∷ (codes "mbox=a:$:" ++ letters 4097) ∷ (codes "omit=" ++ letters 4097) ∷
    []) (BadLine 1)
    × Refuses (codes "mbox=a\n\r" ∷ (codes "mbox=a\nmfolder=" ++ (255 ∷ []) ++ codes "\n") ∷ codes
    "mbox=a\ndatabase= \t \n" ∷ []) (BadLine 2)
    × Refuses (codes "\n\n#\nmbox\n" ∷ []) (BadLine 4)
    × Refuses (codes "maildir=x" ∷ (11 ∷ codes "mbox=a\n") ∷ codes "MBOX=a" ∷ []) (NotSupported 1)
    -- the last has a second faulty line
    × Refuses (codes "mbox=a*" ∷ codes "mbox=a:b?\n" ∷ codes "mbox=[a\n" ∷ codes "mbox=a:b...\n" ∷ codes
    "mbox=a*\nmbox\n" ∷ []) (Wildcard 1)
    × Refuses (codes "base=~/m" ∷ codes "mbox=*$" ∷ codes "mbox=a:~b" ∷ []) (Expansion 1)
    × Refuses (codes "mbox=a\ndatabase=~/x\n" ∷ codes "mbox=a\nmfolder=x$y\n" ∷ codes "mfolder=h\nmfolder=$\n" ∷ [])
    (Expansion 2)
    × Refuses (codes "mformat=mh" ∷ []) (BadFormat 1)
    × Refuses (codes "mbox=a\nmformat=~$\n" ∷ []) (BadFormat 2)
    -- too long only under a base, which counts after all lines are read
    × Refuses ((codes "mbox=" ++ letters 4095 ++ codes "\nbase=b\nmformat=mh\n") ∷ []) (BadFormat 3)
    × Refuses ((codes "mfolder=" ++ letters 4095 ++ codes "\nmbox=" ++ letters 4095 ++ codes "\nbase=b\n") ∷ [])
    (BadLine 1)
    × Refuses ((codes "base=bb\nmbox=$:" ++ letters 4094 ++ codes "\nbase=b\n") ∷
    (codes "base=b\nmfolder=" ++ letters 4095 ++ codes "\nmfolder=h\n") ∷ []) (BadLine 2)
    × Refuses ((codes "database=i\nmbox=a\nmbox=" ++ letters 4095 ++ codes "\nbase=b\n") ∷ []) (BadLine 3)
unfolding computing text_without_blanks chars encode_utf8
refused = (refl, refl, refl, refl, refl, refl, refl, refl, refl, refl, refl, refl, refl, refl, refl, refl)

paths : map is_path (letters 4096 ∷ letters 4097 ∷ [] ∷ codes "a\nb" ∷ []) ≡ true ∷ false ∷ false ∷ false ∷ []
paths = refl
