-- `leb128_of` makes the shortest bytes, because each turn writes the lowest seven bits.
use Rattle.mail_index.proofs.Words.{◌≡◌, ℕ, zero, suc, ◌+◌, ◌%◌, ◌/◌, ◌≤◌, List, [], ◌∷◌, ◌++◌, length, refl, arith, length-append, append_assoc, leb128, IsShort}
use Rattle.mail_index.proofs.build.leb128_out.leb128_of.Goals as goal

-- a byte that others follow
followed : (rest more : ℕ) (front : List ℕ) → 128 ≤ rest → length front + more ≡ 4 → IsShort (suc more) rest → let next
    = front ++ (128 + rest % 128) ∷ [] in
    (m : ℕ) × (length next + m ≡ 4) × IsShort (suc m) (rest / 128)
    × (next ++ leb128 (suc m) (rest / 128) ≡ front ++ leb128 (suc more) rest)
followed rest zero front large count short = absurd (omega arith)
followed rest (suc m) front large count short = (m, grind (arith, length-append), short, grind (arith, append_assoc))

pub loop-rest-init : goal.loop-rest-init
loop-rest-init c = rw c.new-bytes.ensures (4, refl, omega arith, refl)

pub loop-rest-preserved : goal.loop-rest-preserved
loop-rest-preserved c = grind (arith, followed)
