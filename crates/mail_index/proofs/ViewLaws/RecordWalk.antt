-- Each step of the walk over records keeps the question the same: whether the rest are records from this place on.
use Rattle.mail_index.proofs.Words.{◌≡◌, ◌↔◌, ℕ, suc, ◌+◌, ◌-◌, ◌<◌, true, false, List, drop, refl, ◌∙◌, arith, Record, after_archives, IsNextRecord, AreRecords, read_record, is_record}

-- ---- the loop

first_of : (version count archive place : ℕ) (rest : List ℕ) (n i : ℕ) (r : List ℕ) → i < n
    → AreRecords version count archive place rest (n - i) r
    → AreRecords version count archive place rest (suc (n - (i + 1))) r
first_of version count archive place rest n i r l h = let e : n - i ≡ suc (n - (i + 1)) = omega arith in grind arith

pub records_step : (P : Type 0) (version count archive place : ℕ) (rest : List ℕ) (n i : ℕ) (r : List ℕ) (m : Record)
    (a p : ℕ) (archives after : List ℕ) → i < n
    → (P ↔ AreRecords version count archive place rest (n - i) r) → is_record r ≡ true → m ≡ read_record r
    → IsNextRecord version count archive place rest m
    → a ≡ m.archive → p ≡ m.offset + m.length → archives ≡ after_archives version (m.archive - archive) rest → after
    ≡ drop 40 r
    → P ↔ AreRecords version count a p archives (n - (i + 1)) after
records_step P version count archive place rest n i r m a p archives after l h t em x ea ep eb er =
    let e : n - i ≡ suc (n - (i + 1)) = omega arith in
    let m' = read_record r in
    let same : AreRecords version count m'.archive (m'.offset + m'.length)
    (after_archives version (m'.archive - archive) rest) (n - (i + 1)) (drop 40 r)
    ≡ AreRecords version count a p archives (n - (i + 1)) after =
    rw (ea, ep, eb, er, em) refl in grind (arith, first_of)

pub records_stop : (P : Type 0) (version count archive place : ℕ) (rest : List ℕ) (n i : ℕ) (r : List ℕ) → i < n
    → (P ↔ AreRecords version count archive place rest (n - i) r) → is_record r ≡ false → P → ⊥
records_stop P version count archive place rest n i r l h t q = grind (arith, first_of)

pub records_stray : (P : Type 0) (version count archive place : ℕ) (rest : List ℕ) (n i : ℕ) (r : List ℕ) (m : Record)
    → i < n
    → (P ↔ AreRecords version count archive place rest (n - i) r) → m ≡ read_record r
    → (IsNextRecord version count archive place rest m → ⊥) → P → ⊥
records_stray P version count archive place rest n i r m l h em refuses q =
    refuses (rw em (first_of _ _ _ _ _ n i r l (h.0 q)).1)
