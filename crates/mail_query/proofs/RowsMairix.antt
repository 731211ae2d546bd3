-- Rows of mairix patterns, each with the query or the fault that a second reader finds.
use Rattle.mail_query.proofs.Words.{◌≡◌, ℕ, List, [], ◌∷◌, codes, Some, Ok, Err, refl, true, false, Seen, Replied, QueryFaultKind, NoPattern, BadPrefix, BadWord, Approximate, BadDate, BadSize, BadFlag, Query, Word, Part, Prefix, Date, Size, HasFlag, Not, Either, End, More, no_kinds, size_of, sizes_of, flags_of_text, patterns_query}
use Rattle.mail_query.specs.Query.{All}
use Rattle.mail_query.proofs.RowLexicon.{toy, every_date}

abbrev Asks : List (List ℕ) → Query → Type 0
Asks patterns q = patterns_query toy patterns ≡ Ok q

abbrev Shows : List (List ℕ) → ℕ → QueryFaultKind → Type 0
Shows patterns n kind = patterns_query toy patterns ≡ Err (record { number = n; kind = kind })

rows : Shows [] 1 NoPattern
    × Shows (codes "z:10" ∷ []) 1 BadSize
    × Shows (codes "d:31apr" ∷ []) 1 BadDate
    × Shows (codes "F:x" ∷ []) 1 BadFlag
    × Asks (codes "F:-rs" ∷ []) (All (More (HasFlag Replied false) (More (HasFlag Seen true) End)))
    × Shows (codes "f:alice=2" ∷ []) 1 Approximate
    × Asks (codes "d:ok" ∷ []) (Date every_date)
    × Shows ([] ∷ []) 1 BadWord
    × Asks (codes "m:<x>" ∷ []) (Word (record no_kinds { own_id = true }) (codes "x"))
    × Asks (codes "z:1k-2k" ∷ []) (Size 1024 (Some 2048))
    × Asks (codes "s:a=,~^b=/c" ∷ []) (Either
    (More (All (More (Part (record no_kinds { subject = true }) (codes "a"))
    (More (Not (Prefix (record no_kinds { subject = true }) (codes "b"))) End)))
    (More (Word (record no_kinds { subject = true }) (codes "c")) End)))
    × Shows (codes "s:a" ∷ codes "q:x" ∷ codes "F:x" ∷ []) 2 BadPrefix
    × Asks (codes "an:x" ∷ codes "n:y" ∷ [])
    (All (More (Word (record no_kinds { to = true; cc = true; from = true; name = true }) (codes "x"))
    (More (Word (record no_kinds { name = true }) (codes "y")) End)))
unfolding size_of sizes_of flags_of_text
rows = (refl, refl, refl, refl, refl, refl, refl, refl, refl, refl, refl, refl, refl)
