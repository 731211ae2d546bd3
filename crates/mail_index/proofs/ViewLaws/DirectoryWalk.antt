-- Each step of the walk over a directory keeps the question the same: whether the rest are entries from this place on.
use Rattle.mail_index.proofs.Words.{◌≡◌, ◌↔◌, ℕ, suc, ◌+◌, ◌-◌, ◌<◌, List, drop, refl, arith, byte_at, u32_at, end_before, text_at, IsEntryAt, AreEntries}

first_of : (version : ℕ) (texts : List ℕ) (total tp pp number : ℕ) (text : List ℕ) (n i : ℕ) (d : List ℕ) → i < n
    → AreEntries version texts total tp pp number text (n - i) d
    → AreEntries version texts total tp pp number text (suc (n - (i + 1))) d
first_of version texts total tp pp number text n i d l h = let e : n - i ≡ suc (n - (i + 1)) = omega arith
    in grind arith

pub entries_step : (P : Type 0) (version : ℕ) (texts : List ℕ) (total tp pp number : ℕ) (text : List ℕ) (n i : ℕ)
    (d : List ℕ) (tp' pp' number' : ℕ) (text' d' : List ℕ) → i < n
    → (P ↔ AreEntries version texts total tp pp number text (n - i) d)
    → IsEntryAt version texts total tp pp number text d
    → tp' ≡ tp + u32_at d 4 → pp' ≡ end_before (drop 24 d) total → number' ≡ byte_at d 0 → text' ≡ text_at texts d → d'
    ≡ drop 24 d
    → P ↔ AreEntries version texts total tp' pp' number' text' (n - (i + 1)) d'
entries_step P version texts total tp pp number text n i d tp' pp' number' text' d' l h x et ep en ex ed =
    let e : n - i ≡ suc (n - (i + 1)) = omega arith in
    let same : AreEntries version texts total (tp + u32_at d 4) (end_before (drop 24 d) total) (byte_at d 0)
    (text_at texts d) (n - (i + 1)) (drop 24 d)
    ≡ AreEntries version texts total tp' pp' number' text' (n - (i + 1)) d' =
    rw (et, ep, en, ex, ed) refl in grind (arith, first_of)

pub entries_stop : (P : Type 0) (version : ℕ) (texts : List ℕ) (total tp pp number : ℕ) (text : List ℕ) (n i : ℕ)
    (d : List ℕ) → i < n
    → (P ↔ AreEntries version texts total tp pp number text (n - i) d)
    → (IsEntryAt version texts total tp pp number text d → ⊥) → P → ⊥
entries_stop P version texts total tp pp number text n i d l h refuses q =
    refuses (first_of _ _ _ _ _ _ _ n i d l (h.0 q)).0
