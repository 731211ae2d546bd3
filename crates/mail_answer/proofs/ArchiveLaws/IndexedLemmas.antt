-- The messages of an index are within archives that are as they were indexed, because these have the indexed lengths.
use Rattle.mail_answer.proofs.Words.{◌≡◌, ℕ, zero, suc, ◌+◌, ◌<◌, ◌≤◌, ◌^◌, List, [], ◌∷◌, length, Option, None, IfSome, arith, eqb-true, AllByRecursion, Record, Archive, Table, IsArchive, IsMessage, IsWellFormed, archive_length, archive_at, IsInsideArchive, span_reading, first_changed, stale_archive, record_at}

-- the first archive hasn't changed, nor those after it
head_unchanged : (n : ℕ) (a : Archive) (named : List Archive) (bytes : List ℕ) (archives : List (List ℕ))
    → first_changed n (a ∷ named) (bytes ∷ archives) ≡ None
    → (length bytes ≡ a.length) × (first_changed (n + 1) named archives ≡ None)
head_unchanged = grind (arith, eqb-true)

-- an archive that hasn't changed is as long as it was
pub unchanged_length : (n : ℕ) (named : List Archive) (archives : List (List ℕ)) (k : ℕ) → length archives
    ≡ length named → k < length named → first_changed n named archives ≡ None
    → length (archive_at archives k) ≡ archive_length named k
unchanged_length n [] archives k e h u = absurd (omega arith)
unchanged_length n (a ∷ named) [] k e h u = absurd (omega arith)
unchanged_length n (a ∷ named) (bytes ∷ archives) zero e h u = (head_unchanged n a named _ _ u).0
unchanged_length n (a ∷ named) (bytes ∷ archives) (suc k) e h u =
    grind (arith, head_unchanged, unchanged_length (n + 1) named archives k)

-- there are as many archives as there were
pub same_number : (named : List Archive) (archives : List (List ℕ)) → stale_archive named archives ≡ None
    → (length archives ≡ length named) × (first_changed 0 named archives ≡ None)
same_number = grind (arith, eqb-true)

message_in : (archives : List Archive) (messages : List Record) (n : ℕ) → n < length messages
    → AllByRecursion (IsMessage archives) messages → IsMessage archives (record_at messages n)
message_in archives [] n h all = absurd (omega arith)
message_in archives (m ∷ ms) zero h all = all.0
message_in archives (m ∷ ms) (suc n) h all = message_in _ ms n (omega arith) all.1

short_archive : (version : ℕ) (archives : List Archive) (n : ℕ) → AllByRecursion (IsArchive version) archives
    → archive_length archives n ≤ 2 ^ 40
short_archive version [] n all = omega arith
short_archive version (a ∷ rest) zero all = all.0.1
short_archive version (a ∷ rest) (suc n) all = short_archive _ rest n all.1

pub message_inside : (t : Table) (held : Option (List (List ℕ))) (number n : ℕ) → IsWellFormed t → n < length t.messages
    → number ≡ length t.archives
    → IfSome held (λ archives. stale_archive t.archives archives ≡ None)
    → IsInsideArchive number held (span_reading (record_at t.messages n))
message_inside t held number n w h e s =
    let m = message_in _ _ n h w.messages in
    grind (arith, short_archive, same_number, unchanged_length)

-- each message has at least one byte
pub message_some : (t : Table) (n : ℕ) → IsWellFormed t → n < length t.messages → 0 < (record_at t.messages n).length
message_some t n w h = let m =
    message_in _ _ n h w.messages in omega (arith, m.size)
