-- Messages have only one list of threads, because rising lists with the same members are the same.
use Rattle.mail_answer.proofs.Words.{◌≡◌, ◌≤◌, ℕ, suc, true, nat_eq, List, [], ◌∷◌, refl, subst, arith, eq-eqb, eqb-true, or_cases, or_left, or_right, Table, RisesFrom, is_number_among, AreThreads}

not_before : (low : ℕ) (ns : List ℕ) (n : ℕ) → RisesFrom low ns → is_number_among n ns ≡ true → low ≤ n
not_before low [] n rises among = absurd (cc among)
not_before low (m ∷ ns) n rises among = grind (arith, not_before _ ns n rises.1)

after : (m n : ℕ) (ns : List ℕ) → suc m ≤ n → is_number_among n (m ∷ ns) ≡ true → is_number_among n ns ≡ true
after = grind (arith, or_cases, eqb-true)

first_of : (m : ℕ) (ns : List ℕ) → is_number_among m (m ∷ ns) ≡ true
first_of m ns = or_left (nat_eq m m) (is_number_among m ns) (eq-eqb m m refl)

-- rising lists with the same members are the same
one_list : (low : ℕ) (xs ys : List ℕ) → RisesFrom low xs → RisesFrom low ys
    → ((n : ℕ) → is_number_among n xs ≡ true → is_number_among n ys ≡ true)
    → ((n : ℕ) → is_number_among n ys ≡ true → is_number_among n xs ≡ true)
    → xs ≡ ys
one_list low [] [] xs_rise ys_rise forth back = refl
one_list low [] (y ∷ ys) xs_rise ys_rise forth back = absurd (cc (back y (first_of y ys)))
one_list low (x ∷ xs) [] xs_rise ys_rise forth back = absurd (cc (forth x (first_of x xs)))
one_list low (x ∷ xs) (y ∷ ys) xs_rise ys_rise forth back =
    let up = not_before y (y ∷ ys) x (omega arith, ys_rise.1) (grind arith) in
    let down = not_before x (x ∷ xs) y (omega arith, xs_rise.1) (back y (first_of y ys)) in
    let same : x ≡ y = omega arith in
    let rest = subst (λ k. RisesFrom (suc k) xs) same xs_rise.1 in
    grind (
      arith,
      not_before,
      or_right,
      one_list (suc y) xs ys rest ys_rise.1
          (λ n among. after y n _ (not_before _ _ n rest among) (forth n (or_right _ _ among)))
          (λ n among. let later = not_before _ _ n ys_rise.1 among
          in after x n xs (omega arith) (back n (or_right _ _ among))),
    )

pub one_thread_list : (t : Table) (numbers xs ys : List ℕ) → AreThreads t numbers xs → AreThreads t numbers ys → xs ≡ ys
one_thread_list = grind (arith, one_list)
