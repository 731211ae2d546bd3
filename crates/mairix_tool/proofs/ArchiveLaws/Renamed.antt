-- The first archive with another path than was indexed is found by going from one archive to the next.
use Rattle.mairix_tool.proofs.Words.{◌≡◌, ◌∙◌, ◌+◌, ◌<◌, ℕ, zero, suc, cond, List, [], ◌∷◌, length, drop, drop-cons, get_or, Some, ap, arith, add-one, Archive, first_renamed}
use Rattle.std.specs.Str.{bytes_eq}
use Rattle.std.proofs.lemmas.List.{length-drop}

-- the archives after an indexed one
pub after : (named : List Archive) (n : ℕ) (a : Archive) (rest : List Archive) → drop n named ≡ a ∷ rest
    → drop (n + 1) named ≡ rest
after [] zero a rest e = absurd cc
after [] (suc n) a rest e = absurd cc
after (b ∷ named) zero a rest e = cc
after (b ∷ named) (suc n) a rest e = let more : suc n + 1 ≡ suc (n + 1) = omega arith
    in ap (λ k. drop k (b ∷ named)) more ∙ after named n a _ e

-- the result at an archive
pub at-archive : (named : List Archive) (paths : List (List ℕ)) (n : ℕ) (a : Archive) (rest : List Archive)
    → drop n named ≡ a ∷ rest → n < length paths
    → first_renamed n (drop n named) (drop n paths)
    ≡ cond (bytes_eq a.path (get_or paths n [])) (first_renamed (n + 1) (drop (n + 1) named) (drop (n + 1) paths))
    (Some n)
at-archive = grind (arith, drop-cons, after, add-one)

pub still-named : (named : List Archive) (n : ℕ) → n < length named → drop n named ≡ [] → ⊥
still-named named n below none = omega (arith, length-drop n named, ap length none)
