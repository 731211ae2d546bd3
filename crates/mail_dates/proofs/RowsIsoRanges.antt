-- Worked examples of ranges of ISO 8601 dates.
use Rattle.mail_dates.proofs.Words.{[], ◌∷◌, ◌++◌, refl, Some, None, Err, pos, negsuc, codes, BadDate, iso_range_of, iso_range_by, iso_days_by}
use Rattle.mail_dates.proofs.RowTables.{Holds, hold, all_say, between, days}

rows : Holds iso_range_of ((codes "2003-02", days 1044057600 1046476799) ∷
    (codes "2003-02-28", days 1046390400 1046476799)
    ∷ (codes "2004-02-29", days 1078012800 1078099199) ∷ (codes "2003-12-31", days 1072828800 1072915199)
    ∷ (codes "2003-01-01", days 1041379200 1041465599)
    ∷ (codes "0000-01", between (Some (negsuc 62167219199)) (Some (negsuc 62164540800)))
    ∷ (codes "0000-02-29", between (Some (negsuc 62162121599)) (Some (negsuc 62162035200)))
    ∷ (codes "9999-12", days 253399622400 253402300799) ∷ (codes "9999-12-31", days 253402214400 253402300799) ∷ [])
    -- two ends, one of which may be empty
    × Holds iso_range_of ((codes "2003-02..", between (Some (pos 1044057600)) None)
    ∷ (codes "..2003-02", between None (Some (pos 1046476799)))
    ∷ (codes "2003-02..2003-03", days 1044057600 1049155199)
    ∷ (codes "2003-02-28..2003-03-01", days 1046390400 1046563199)
    ∷ (codes "2003-03..2003-02", days 1046476800 1046476799) ∷ [])
    -- texts with none of the forms, days that no month has, and dots that aren't a pair
    × Holds iso_range_of (all_say (Err BadDate) (codes "2003-02-29" ∷ codes "2003-02-30" ∷ codes ".."
    ∷ codes "..2003-02-31" ∷ codes "2003-02-31.." ∷ codes "2003-02..x" ∷ [] ∷ codes "2003" ∷ codes "2003-"
    ∷ codes "2003-2" ∷ codes "2003-02-1" ∷ codes "2003-02-001" ∷ codes "02003-02" ∷ codes "203-02"
    ∷ codes "2003-13" ∷ codes "2003-00" ∷ codes "2003-02-00" ∷ codes "-2003-02" ∷ codes "2003--02"
    ∷ codes "2003-02-" ∷ codes "2003-02-01-01" ∷ codes "20030201" ∷ codes "2003/02" ∷ codes "feb" ∷ codes "."
    ∷ codes "..." ∷ codes "...." ∷ codes "2003-02." ∷ codes "2003-02..." ∷ codes "...2003-02"
    ∷ codes "2003-02.2003-03" ∷ codes "2003-02...2003-03" ∷ codes "2003-02..2003-03..2003-04"
    ∷ codes "2003-02..2003-03.." ∷ codes " 2003-02" ∷ (codes "2003-02" ++ (0x0D ∷ [])) ∷ []))
unfolding iso_range_of iso_days_by
rows = (hold iso_range_by refl, hold iso_range_by refl, hold iso_range_by refl)
