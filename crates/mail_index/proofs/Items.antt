-- Properties of each item of a list, and a list without items.
use Rattle.mail_index.proofs.Words.{◌≡◌, ◌<◌, ℕ, zero, suc, List, [], ◌∷◌, ◌++◌, length, take, drop, get_or, refl, arith, AllByRecursion}

pub all-snoc : {A : Type 0} (P : A → Type 0) (xs : List A) (x : A) → AllByRecursion P xs → P x
    → AllByRecursion P (xs ++ x ∷ [])
all-snoc P [] x _ p = (p, tt)
all-snoc P (y ∷ ys) x all p = (all.0, all-snoc P ys x all.1 p)

pub all-weaker : {A : Type 0} (P Q : A → Type 0) → ((x : A) → P x → Q x) → (xs : List A) → AllByRecursion P xs
    → AllByRecursion Q xs
all-weaker P Q f [] _ = tt
all-weaker P Q f (x ∷ xs) all = (f x all.0, all-weaker P Q f xs all.1)

pub all-take : {A : Type 0} (P : A → Type 0) (n : ℕ) (xs : List A) → AllByRecursion P xs → AllByRecursion P (take n xs)
all-take P zero _ _ = tt
all-take P (suc n) [] _ = tt
all-take P (suc n) (x ∷ xs) all = (all.0, all-take P n xs all.1)

pub all-drop : {A : Type 0} (P : A → Type 0) (n : ℕ) (xs : List A) → AllByRecursion P xs → AllByRecursion P (drop n xs)
all-drop P zero _ all = all
all-drop P (suc n) [] _ = tt
all-drop P (suc n) (x ∷ xs) all = all-drop P n xs all.1

pub all-at : {A : Type 0} (P : A → Type 0) (xs : List A) (n : ℕ) (d : A) → AllByRecursion P xs → n < length xs
    → P (get_or xs n d)
all-at P [] n d all lt = absurd (omega arith)
all-at P (x ∷ xs) zero d all _ = all.0
all-at P (x ∷ xs) (suc n) d all lt = all-at P xs n d all.1 (omega arith)

pub other-default : {A : Type 0} (xs : List A) (n : ℕ) (d e : A) → n < length xs → get_or xs n d ≡ get_or xs n e
other-default [] n d e lt = absurd (omega arith)
other-default (x ∷ xs) zero d e _ = refl
other-default (x ∷ xs) (suc n) d e lt = other-default xs n d e (omega arith)

pub empty_list : (r : List ℕ) → length r ≡ 0 → r ≡ []
empty_list [] e = refl
empty_list (x ∷ r) e = absurd (omega arith)
