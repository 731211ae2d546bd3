-- A kind and its number determine each other, and the newest version has each kind.
use Rattle.mail_index.proofs.Words.{◌≡◌, ℕ, ◌<◌, ◌≤◌, true, List, sym, ap, ◌∙◌, arith, Less, Equal, nat_cmp, nat_tests, Kind, kind_number, kind_of_number, is_kind_number, key_cmp, last_kind}

pub kind_of-number : (k : Kind) → kind_of_number (kind_number k) ≡ k
kind_of-number k = grind arith

-- a number that is one of a kind is the number of the kind that is read from it
pub kind_kept : (last n : ℕ) → last ≤ 9 → is_kind_number last n ≡ true → kind_number (kind_of_number n) ≡ n
kind_kept _ n h h2 = grind (arith, nat_tests)

pub kind_is : (j k : Kind) → kind_number j ≡ kind_number k → j ≡ k
kind_is j k e = sym (kind_of-number j) ∙ ap kind_of_number e ∙ kind_of-number k

pub kind_some : (k : Kind) → 0 < kind_number k
kind_some k = grind arith

pub kind_passes : (last : ℕ) (k : Kind) → kind_number k ≤ last → is_kind_number last (kind_number k) ≡ true
kind_passes _ k h = grind (arith, kind_number, kind_some)

pub few_kinds : (version : ℕ) → last_kind version ≤ 9
few_kinds _ = grind arith

-- ---- how numbers compare

pub lower : (x y : ℕ) → x < y → nat_cmp x y ≡ Less
lower x y h = grind (arith, nat_tests)

pub tied : (x y : ℕ) → x ≡ y → nat_cmp x y ≡ Equal
tied x y h = grind (arith, nat_tests)

-- a key comes after kind 0
pub first_less : (xs : List ℕ) (k : Kind) (ys : List ℕ) → key_cmp 0 xs (kind_number k) ys ≡ Less
first_less xs k ys = cc (lower 0 _ (kind_some k))
