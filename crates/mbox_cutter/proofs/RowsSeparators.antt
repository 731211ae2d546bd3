-- Worked rows: lines that are separators, and lines that aren't.
use Rattle.mbox_cutter.proofs.Words.{◌≡◌, true, false, [], ◌∷◌, ◌++◌, refl, codes, list_all, list_any, is_separator, without_break, has_form}

rows : (list_all is_separator (codes "From a@x.org Thu Jan  2 10:00:00 2003\n"
    ∷ codes "From - Sat Jan  4 12:00:00 2003\n" ∷ codes "From MAILER-DAEMON Fri Jul  8 12:08:34 2011\r\n"
    ∷ codes "From a Thu Jan  2 10:00 2003 +0100\n" ∷ codes "From a Thu Jan  2 10:00:00 +0100 2003\n"
    ∷ codes "From a Thu Jan  2 10:00:00 CET 2003" ∷ codes "From 10:00 2003" ∷ codes "From  10:00  2003 "
    ∷ codes "From a 99:99 0000\n" ∷ codes "From 2003 10:00 2004\n" ∷ codes "From a 10:00 11:00 2003\n"
    ∷ codes "From a 10:00 12345 2003\n"
    ∷ (codes "From " ++ (255 ∷ 0 ∷ []) ++ codes " 10:00 2003\n")
    ∷ codes "From a b c 10:00:00 d e 2003 f\n" ∷ []) ≡ true)
    × (list_any is_separator (codes "" ∷ codes "\n" ∷ codes "From" ∷ codes "From " ∷ codes "From \n"
    ∷ codes "From here on we go\n" ∷ codes "From a 2003 10:00\n" ∷ codes "From a 10:00\n" ∷ codes "From a 2003\n"
    ∷ codes "From a 1:00 2003\n" ∷ codes "From a 10:0 2003\n" ∷ codes "From a 100:00 2003\n"
    ∷ codes "From a 10:00: 2003\n" ∷ codes "From a 10:00:0 2003\n" ∷ codes "From a 10:00:00:00 2003\n"
    ∷ codes "From a 10.00 2003\n" ∷ codes "From a 10:002003\n" ∷ codes "From a 10:00 203\n"
    ∷ codes "From a 10:00 20033\n" ∷ codes "From a 10:00 2003,\n" ∷ codes "From a 10:00 2003\r"
    ∷ codes "From a 10:00 2003\r\r\n" ∷ codes "From a 10:00 2003\n\n" ∷ codes "From a\t10:00\t2003\n"
    ∷ codes "from a 10:00 2003\n" ∷ codes " From a 10:00 2003\n" ∷ codes ">From a 10:00 2003\n"
    ∷ codes "From: a 10:00 2003\n" ∷ codes "From\ta 10:00 2003\n" ∷ codes "From10:00 2003\n"
    ∷ codes "From a dd:dd dddd\n"
    ∷ (codes "From a 1" ++ (217 ∷ 160 ∷ []) ++ codes ":00 2003\n")
    ∷ (codes "From a 10:00 " ++ (239 ∷ 188 ∷ 146 ∷ []) ++ codes "003\n") ∷ []) ≡ false)
unfolding is_separator without_break has_form
rows = (refl, refl)
