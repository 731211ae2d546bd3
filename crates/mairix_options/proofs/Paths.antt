-- A text that can name a file in an rcfile can name an archive in an index.
use Rattle.mairix_options.proofs.Words.{◌≡◌, ◌≢◌, ℕ, ◌==◌, true, false, ◌||◌, List, [], ◌∷◌, refl, arith, AllByRecursion, list_any, IsUtf8, and_parts, or_parts, not-true, nat_tests, IsPath, is_path}

all-clear : (text : List ℕ) → list_any (λ b. b == 10 || b == 0) text ≡ false
    → AllByRecursion (λ b. (b ≢ 0x0A) × (b ≢ 0)) text
all-clear [] clear = tt
all-clear (b ∷ text) clear =
    let parts = or_parts (b == 10 || b == 0) (list_any (λ b. b == 10 || b == 0) text) clear in
    let here = or_parts (b == 10) (b == 0) parts.0 in
    ((grind (arith, nat_tests), grind (arith, nat_tests)), all-clear text parts.1)

none-of : (text : List ℕ) → AllByRecursion (λ b. (b ≢ 0x0A) × (b ≢ 0)) text → list_any (λ b. b == 10 || b == 0) text
    ≡ false
none-of [] clear = refl
none-of (b ∷ text) clear = grind (arith, nat_tests, none-of text clear.1)

pub path-from : (text : List ℕ) → IsUtf8 text → is_path text ≡ true → IsPath text
path-from text utf8 passes = grind (arith, and_parts, not-true, nat_tests, all-clear)

pub path-passes : (text : List ℕ) → IsPath text → is_path text ≡ true
path-passes text is = grind (arith, nat_tests, none-of)
