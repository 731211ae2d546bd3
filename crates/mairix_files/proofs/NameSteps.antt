-- Names that lead to two places differ.
use Rattle.std.proofs.Common.{◌≡◌, ap, refl, ℕ, Bool, true, false, not, List}
use Rattle.std.proofs.lemmas.Slice.Eq.{bytes_eq-Decides}
use Rattle.std.specs.Str.{bytes_eq}
use Rattle.mairix_files.specs.NameCalls.{are_apart, place_by_links}

-- ---- names that lead to two places

not_both : (same : Bool) → same ≡ true → not same ≡ true → ⊥
not_both true h denied = cc
not_both false h denied = cc

pub differ : (links : List (List ℕ × List ℕ)) (a b : List ℕ) → are_apart links a b ≡ true → not (bytes_eq a b) ≡ true
differ links a b apart = cases (bytes_eq a b) refl
  where
    cases : (same : Bool) → bytes_eq a b ≡ same → not same ≡ true
    cases false e = refl
    cases true e =
        absurd (not_both (bytes_eq (place_by_links links a) (place_by_links links b))
        ((bytes_eq-Decides (place_by_links links a) (place_by_links links b)).1
        (ap (place_by_links links) ((bytes_eq-Decides a b).0 e))) apart)

is_denied : (same : Bool) → not same ≡ false → same ≡ true
is_denied true h = refl
is_denied false h = cc

pub same_place : (links : List (List ℕ × List ℕ)) (a b : List ℕ) → are_apart links a b ≡ false
    → place_by_links links a ≡ place_by_links links b
same_place links a b h =
    (bytes_eq-Decides (place_by_links links a) (place_by_links links b)).0
    (is_denied (bytes_eq (place_by_links links a) (place_by_links links b)) h)
