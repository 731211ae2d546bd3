-- Laws of cutting a text at a byte.
use Rattle.mail_query.proofs.Words.{◌≡◌, ◌≢◌, ℕ, suc, ◌-◌, ◌<◌, Bool, true, false, eqb, List, [], ◌∷◌, ◌++◌, length, length-append, take, get_or, Option, Some, None, option_map, MatchOption, refl, ap, ◌∙◌, arith, option_copied, take-append_seam, list_any, or_from, nat_tests, is_byte, texts_around, without_first, without_last}
use denote.Ref.{Bor}

pub none_unless : {A : Type 0} (o : Option A) → ((x : A) → o ≡ Some x → ⊥) → o ≡ None
none_unless o h = grind arith

pub same_byte : (b : ℕ) → eqb b b ≡ true
same_byte b = grind (arith, nat_tests)

pub other_byte : (b c : ℕ) → b ≢ c → eqb b c ≡ false
other_byte b c h = grind (arith, nat_tests, h)

pub without_first-same : (c : ℕ) (bs : List ℕ) → without_first c (c ∷ bs) ≡ Some bs
without_first-same c bs = rw same_byte refl

pub without_first-other : (c : ℕ) (bs : List ℕ) → ((rest : List ℕ) → bs ≢ c ∷ rest) → without_first c bs ≡ None
without_first-other c bs h = grind (arith, other_byte)

pub without_last-same : (c : ℕ) (front : List ℕ) → without_last c (front ++ c ∷ []) ≡ Some front
without_last-same c [] = rw same_byte refl
without_last-same c (b ∷ []) = grind arith
without_last-same c (b ∷ d ∷ front) = grind (arith, without_last-same c (d ∷ front))

pub without_last-other : (c : ℕ) (bs : List ℕ) → ((front : List ℕ) → bs ≢ front ++ c ∷ []) → without_last c bs ≡ None
without_last-other c [] h = refl
without_last-other c (b ∷ []) h =
    let differs : b ≢ c = λ e. h [] (cc) in
    rw (other_byte b c differs) refl
without_last-other c (b ∷ d ∷ bs) h =
    cc (without_last-other c (d ∷ bs) (λ front e. h (b ∷ front) (ap (λ (t : List ℕ). b ∷ t) e)))

-- the byte isn't in the text
abbrev pub Free : ℕ → List ℕ → Type 0
Free c text = list_any (is_byte c) text ≡ false

-- no byte passes, if the byte at each place doesn't
pub none_passes : (p : ℕ → Bool) (text : List ℕ) → ((i : ℕ) → i < length text → p (get_or text i 0) ≡ false)
    → list_any p text ≡ false
none_passes p [] h = refl
none_passes p (b ∷ bs) h = or_from (p b) (list_any p bs) (h 0 (omega arith))
    (none_passes p bs (λ i below. h (suc i) (omega (arith, below))))

free_at : (c : ℕ) (text : List ℕ) → ((i : ℕ) → i < length text → get_or text i 0 ≢ c) → Free c text
free_at c text h = grind (arith, none_passes)

onto_front : ℕ → Option (List ℕ × List ℕ) → Option (List ℕ × List ℕ)
onto_front b o = option_map (λ (p : List ℕ × List ℕ). (b ∷ p.0, p.1)) o

pub cut_none : (c : ℕ) (text : List ℕ) → Free c text → texts_around c text ≡ None
unfolding onto_front
cut_none c [] h = refl
cut_none c (b ∷ bs) h = grind (arith, cut_none c bs)

pub cut_at : (c : ℕ) (text rest : List ℕ) → Free c text → texts_around c (text ++ c ∷ rest) ≡ Some (text, rest)
unfolding onto_front
cut_at c [] rest h = rw same_byte refl
cut_at c (b ∷ bs) rest h = grind (arith, cut_at c bs rest)

-- ---- the last element

-- a list that isn't empty has a last element
pub last_of : {A : Type 0} (xs : List A) → 0 < length xs → (front : List A) × (x : A) × (xs ≡ front ++ x ∷ [])
last_of [] h = absurd (omega (arith, h))
last_of (x ∷ []) h = ([], x, refl)
last_of {A} (x ∷ y ∷ xs) h = let l = last_of (y ∷ xs) (omega arith) in (x ∷ l.0, l.1, ap (λ (ys : List A). x ∷ ys) l.2)

pub before_last : {A : Type 0} (front : List A) (x : A) → take (length (front ++ x ∷ []) - 1) (front ++ x ∷ []) ≡ front
before_last {A} front x =
    let place : length (front ++ x ∷ []) - 1 ≡ length front = omega (arith, length-append front (x ∷ [])) in
    grind (arith, take-append_seam)

-- ---- the same of what a call returns

pub first_answer : (c : ℕ) (bs : List ℕ) (r : Option (Bor (List ℕ)))
    → MatchOption r ((rest : List ℕ) → bs ≢ c ∷ rest) (λ x. bs ≡ c ∷ x.now) → option_copied r ≡ without_first c bs
first_answer c bs r h = grind (arith, without_first-other, without_first-same)

pub last_answer : (c : ℕ) (bs : List ℕ) (r : Option (Bor (List ℕ)))
    → MatchOption r ((front : List ℕ) → bs ≢ front ++ c ∷ []) (λ x. bs ≡ x.now ++ c ∷ []) → option_copied r
    ≡ without_last c bs
last_answer c bs r h = grind (arith, without_last-other, without_last-same)

pub cut_answer : (c : ℕ) (bs : List ℕ) (r : Option (Bor (List ℕ) × Bor (List ℕ)))
    → MatchOption r ((i : ℕ) → i < length bs → get_or bs i 0 ≢ c)
    (λ x. (bs ≡ x.0.now ++ c ∷ x.1.now) × ((i : ℕ) → i < length x.0.now → get_or x.0.now i 0 ≢ c))
    → option_map {T = Bor (List ℕ) × Bor (List ℕ)} {U = List ℕ × List ℕ} (λ p. (p.0.now, p.1.now)) r ≡ texts_around c bs
cut_answer c bs r h = grind (arith, cut_none, free_at, cut_at)
