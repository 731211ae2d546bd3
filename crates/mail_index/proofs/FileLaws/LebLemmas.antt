-- LEB128 is split byte by byte: each byte has seven bits, which are lower than those of the next byte.
use Rattle.mail_index.proofs.Words.{◌≡◌, ◌≢◌, ℕ, zero, suc, ◌+◌, ◌-◌, ◌*◌, ◌/◌, ◌<◌, ◌≤◌, refl, arith, IsShort, leb128, [], ◌∷◌}

-- a number of five groups has at most 35 bits
pub IsShort-small : (groups n : ℕ) → groups ≤ 5 → IsShort groups n → n < 34359738368
IsShort-small zero n le h = omega arith
IsShort-small (suc zero) n le h = omega arith
IsShort-small (suc (suc zero)) n le h = omega arith
IsShort-small (suc (suc (suc zero))) n le h = omega arith
IsShort-small (suc (suc (suc (suc zero)))) n le h = omega arith
IsShort-small (suc (suc (suc (suc (suc zero))))) n le h = omega arith
IsShort-small (suc (suc (suc (suc (suc (suc more)))))) n le h = absurd (omega arith)

IsShort-zero : (groups : ℕ) → IsShort groups 0
IsShort-zero zero = omega arith
IsShort-zero (suc groups) = IsShort-zero groups

-- the last byte is a number of one group
pub IsShort-last : (groups b : ℕ) → groups ≢ 0 → b < 128 → IsShort groups b
IsShort-last zero b some h = absurd (some refl)
IsShort-last (suc groups) b some h = let none : b / 128 ≡ 0 = omega arith in rw none (IsShort-zero groups)

-- seven bits below a number make one group more
pub IsShort-more : (groups b high : ℕ) → groups ≢ 0 → b < 128 → IsShort (groups - 1) high
    → IsShort groups (b + 128 * high)
IsShort-more _ b _ h h2 h3 = grind arith

-- a number of two bytes
pub leb-two : (low high : ℕ) → low < 128 → 0 < high → high < 128 → leb128 5 (low + 128 * high) ≡ (128 + low) ∷ high ∷ []
leb-two _ _ a b h = grind arith
