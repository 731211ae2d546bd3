-- Laws of the lists that are made of elements one after another.
use Rattle.std.proofs.Common.{◌≡◌, ℕ, ◌+◌, suc, ◌<◌, length, add-zero, arith, List, [], ◌∷◌, ◌++◌, Option, Result, Ok, Err, refl, ap, sym, ◌∙◌, append_assoc, IfSome}
use Rattle.contract_words.specs.Answers.{◌>>=◌, with_front, collect_from}

pub with_front-append : {Y E : Type 0} (a b : List Y) (r : Result (List Y) E) → with_front (a ++ b) r
    ≡ with_front a (with_front b r)
with_front-append a b r = grind (arith, append_assoc)

pub with_front-nil : {Y E : Type 0} (r : Result (List Y) E) → with_front [] r ≡ r
with_front-nil r = grind arith

-- what holds of a value, if there is one
pub if_some_map : {F : Type 0} (o : Option F) (P Q : F → Type 0) → ((f : F) → P f → Q f) → IfSome o P → IfSome o Q
if_some_map o P Q h h2 = grind arith

with_front-bind : {Y E : Type 0} (a : List Y) (r s : Result (List Y) E) → with_front a (r >>= (λ b. with_front b s))
    ≡ with_front a r >>= (λ c. with_front c s)
with_front-bind a r s = grind (arith, with_front-append)

-- the lists of a front, and then those of the rest
pub collect-append : {X Y E : Type 0} (f : ℕ → X → Result (List Y) E) (n : ℕ) (xs ys : List X)
    → collect_from f n (xs ++ ys) ≡ collect_from f n xs >>= (λ a. with_front a (collect_from f (n + length xs) ys))
collect-append f n [] ys = ap (λ k. collect_from f k ys) (sym (add-zero n))
    ∙ sym (with_front-nil (collect_from f (n + 0) ys))
collect-append {X} {Y} {E} f n (x ∷ xs) ys =
    let later : Result (List Y) E = collect_from f (n + 1) xs in
    let rest : Result (List Y) E = collect_from f (n + suc (length xs)) ys in
    let same : collect_from f (n + 1) (xs ++ ys) ≡ later >>= (λ a. with_front a rest) =
    collect-append f (n + 1) xs ys ∙ ap (λ k. later >>= (λ a. with_front a (collect_from f k ys))) (omega arith) in
    elim (f n x) as (λ v. v >>= (λ a. with_front a (collect_from f (n + 1) (xs ++ ys)))
    ≡ (v >>= (λ a. with_front a later)) >>= (λ a. with_front a rest)) [
      | Ok a ↦ ap (with_front a) same ∙ with_front-bind a later rest
      | Err e ↦ refl
    ]
