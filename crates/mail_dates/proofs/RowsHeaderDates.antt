-- Worked examples of header dates: fields, and the second that each says.
use Rattle.mail_dates.proofs.Words.{ℕ, List, [], ◌∷◌, ◌++◌, map, refl, Option, Some, None, ℤ, pos, negsuc, codes, month_of, date_of, date_by, date_tokens, time_of, offset_of, hours_west}
use Rattle.mail_dates.proofs.RowTables.{Holds, hold, all_say}

abbrev Dated : List (List ℕ × ℤ) → Type 0
Dated rows = Holds date_of (map (λ row. (row.0, Some row.1)) rows)

-- each of these fields says this second
abbrev Say : Option ℤ → List (List ℕ) → Type 0
Say date fields = Holds date_of (all_say date fields)

rows : Dated ((codes "Thu, 2 Jan 2003 10:00:00 +0100 (CET)", pos 1041498000)
    ∷ (codes "2 Jan 03 10:00 EST", pos 1041519600)
    ∷ (codes "Thu, 2 Jan 2003 10:00 +0100 -0500 more", pos 1041498000)
    ∷ (codes ",,Thu," ++ (0x09 ∷ []) ++ codes "2,Jan" ++ (0x09 ∷ []) ++ codes "2003 ,, 10:00,+0100", pos 1041498000)
    ∷ (codes "1 Jan 2003 00:00", pos 1041379200) ∷ (codes "01 Jan 2003 00:00", pos 1041379200)
    ∷ (codes "31 Jan 2003 00:00", pos 1043971200) ∷ (codes "29 Feb 2000 00:00", pos 951782400)
    ∷ (codes "29 Feb 2004 00:00", pos 1078012800) ∷ (codes "2 dec 2003 10:00", pos 1070359200)
    ∷ (codes "2 Feb 2003 10:00", pos 1044180000) ∷ (codes "2 mar 2003 10:00", pos 1046599200)
    ∷ (codes "2 Apr 2003 10:00", pos 1049277600) ∷ (codes "2 May 2003 10:00", pos 1051869600)
    ∷ (codes "2 Jun 2003 10:00", pos 1054548000) ∷ (codes "2 Jul 2003 10:00", pos 1057140000)
    ∷ (codes "2 Aug 2003 10:00", pos 1059818400) ∷ (codes "2 Sep 2003 10:00", pos 1062496800)
    ∷ (codes "2 Oct 2003 10:00", pos 1065088800) ∷ (codes "2 Nov 2003 10:00", pos 1067767200)
    ∷ (codes "1 Jan 00 00:00", pos 946684800) ∷ (codes "1 Jan 49 00:00", pos 2493072000)
    ∷ (codes "1 Jan 50 00:00", negsuc 631151999) ∷ (codes "1 Jan 99 00:00", pos 915148800)
    ∷ (codes "1 Jan 000 00:00", negsuc 2208988799) ∷ (codes "1 Jan 050 00:00", negsuc 631151999)
    ∷ (codes "1 Jan 999 00:00", pos 29316470400) ∷ (codes "1 Jan 0000 00:00", negsuc 62167219199)
    ∷ (codes "1 Jan 0050 00:00", negsuc 60589295999) ∷ (codes "1 Jan 9999 00:00", pos 253370764800)
    ∷ (codes "29 Feb 00 00:00", pos 951782400) ∷ (codes "2 Jan 2003 1:02", pos 1041469320)
    ∷ (codes "2 Jan 2003 01:02", pos 1041469320) ∷ (codes "2 Jan 2003 23:59", pos 1041551940)
    ∷ (codes "2 Jan 2003 10:00:01", pos 1041501601) ∷ (codes "2 Jan 2003 10:00:60", pos 1041501660)
    ∷ (codes "2 Jan 2003 23:59:60", pos 1041552000) ∷ (codes "31 Dec 9999 23:59:60 -2359", pos 253402387140)
    ∷ (codes "2 Jan 2003 10:00 +0530", pos 1041481800) ∷ (codes "2 Jan 2003 10:00 -0330", pos 1041514200)
    ∷ (codes "2 Jan 2003 10:00 +2359", pos 1041415260) ∷ (codes "2 Jan 2003 10:00 -2359", pos 1041587940)
    ∷ (codes "2 Jan 2003 10:00 EST", pos 1041519600) ∷ (codes "2 Jan 2003 10:00 EDT", pos 1041516000)
    ∷ (codes "2 Jan 2003 10:00 CST", pos 1041523200) ∷ (codes "2 Jan 2003 10:00 CDT", pos 1041519600)
    ∷ (codes "2 Jan 2003 10:00 MST", pos 1041526800) ∷ (codes "2 Jan 2003 10:00 MDT", pos 1041523200)
    ∷ (codes "2 Jan 2003 10:00 PST", pos 1041530400) ∷ (codes "2 Jan 2003 10:00 PDT", pos 1041526800)
    ∷ (codes "2 Jan 2003 10:00 Est", pos 1041519600) ∷ [])
    -- a comment ends the field; a zone with another form or name is UTC
    × Say (Some (pos 1041501600)) (codes "2 Jan 103 10:00" ∷ codes "Fri 2 Jan 2003 10:00"
    ∷ codes "  2 Jan 2003 10:00" ∷ (codes "2 Jan 2003 10:00 +0100" ++ (0x0D ∷ []))
    ∷ codes "2 Jan 2003 10:00 (+0100) +0100" ∷ codes "2 Jan 2003 10:00(x +0100"
    ∷ codes "2 Jan 2003 10:00 )+0100" ∷ codes "2 jan 2003 10:00" ∷ codes "2 JAN 2003 10:00"
    ∷ codes "2 jAn 2003 10:00" ∷ codes "2 Jan 2003 10:00 +0000" ∷ codes "2 Jan 2003 10:00 -0000"
    ∷ codes "2 Jan 2003 10:00 +0060" ∷ codes "2 Jan 2003 10:00 +01:00" ∷ codes "2 Jan 2003 10:00 +01000"
    ∷ codes "2 Jan 2003 10:00 0100" ∷ codes "2 Jan 2003 10:00 +" ∷ codes "2 Jan 2003 10:00 GMT"
    ∷ codes "2 Jan 2003 10:00 UT" ∷ codes "2 Jan 2003 10:00 UTC" ∷ codes "2 Jan 2003 10:00 Z"
    ∷ codes "2 Jan 2003 10:00 ESTX" ∷ codes "2 Jan 2003 10:00 ES" ∷ codes "2 Jan 2003 10:00 EST+1"
    ∷ (codes "2 Jan 2003 10:00 " ++ (0xC3 ∷ 0xB1 ∷ []))
    ∷ (codes "2 Jan 2003 10:00 +" ++ (0xD9 ∷ 0xA0 ∷ []) ++ codes "100") ∷ [])
    -- parts that are missing, in another order, out of range or of another form
    × Say None (codes "31 Apr 2003 10:00" ∷ codes "Thu Thu 2 Jan 2003 10:00" ∷ codes "Jan 2 2003 10:00"
    ∷ codes "2Jan 2003 10:00" ∷ codes "2-Jan-2003 10:00" ∷ (codes "2 Jan 2003" ++ (0x0A ∷ []) ++ codes "10:00")
    ∷ (codes "2 Jan 2003 10:00" ++ (0x0D ∷ [])) ∷ (codes "2 Jan 2003 10:00" ++ (0x0D ∷ []) ++ codes " +0100")
    ∷ codes "(Thu) 2 Jan 2003 10:00" ∷ codes "2 Jan (x) 2003 10:00" ∷ codes "," ∷ codes "Thu," ∷ codes "2"
    ∷ codes "2 Jan" ∷ codes "2 Jan 2003 +0100" ∷ codes "Thu, 2 Jan 2003" ∷ codes "0 Jan 2003 00:00"
    ∷ codes "001 Jan 2003 00:00" ∷ codes "32 Jan 2003 00:00" ∷ codes "29 Feb 1900 00:00"
    ∷ codes "29 Feb 2003 00:00" ∷ codes "1a Jan 2003 00:00" ∷ codes "-1 Jan 2003 00:00"
    ∷ codes "+1 Jan 2003 00:00" ∷ codes "2 Janu 2003 10:00" ∷ codes "2 January 2003 10:00"
    ∷ codes "2 Ja 2003 10:00" ∷ codes "2 01 2003 10:00" ∷ codes "2 Sept 2003 10:00" ∷ codes "1 Jan 3 00:00"
    ∷ codes "1 Jan 20030 00:00" ∷ codes "29 Feb 000 00:00" ∷ codes "2 Jan 2003 001:02" ∷ codes "2 Jan 2003 1:2"
    ∷ codes "2 Jan 2003 1:002" ∷ codes "2 Jan 2003 24:00" ∷ codes "2 Jan 2003 23:60" ∷ codes "2 Jan 2003 10"
    ∷ codes "2 Jan 2003 1000" ∷ codes "2 Jan 2003 10.00" ∷ codes "2 Jan 2003 :00" ∷ codes "2 Jan 2003 10:"
    ∷ codes "2 Jan 2003 10:00:61" ∷ codes "2 Jan 2003 10:00:1" ∷ codes "2 Jan 2003 10:00:001"
    ∷ codes "2 Jan 2003 10:00:" ∷ codes "2 Jan 2003 10:00:00:00" ∷ codes "2 Jan 2003 10:00:00.5"
    ∷ codes "2 Jan 2003 10::00" ∷ (codes "D" ++ (0xC3 ∷ 0xB6 ∷ []) ++ codes ", 2 Jan 2003 10:00")
    ∷ (codes "2 J" ++ (0xC3 ∷ 0xA4 ∷ []) ++ codes "n 2003 10:00")
    ∷ ((0xD9 ∷ 0xA2 ∷ []) ++ codes " Jan 2003 10:00") ∷ (codes "2 Jan 2003 10:00" ++ (0x00 ∷ [])) ∷ [])
unfolding date_of date_tokens time_of offset_of hours_west month_of
rows = (hold date_by refl, hold date_by refl, hold date_by refl)
