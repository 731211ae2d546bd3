-- Bytes that agree with what a source gave are the bytes that it gave and those that are left, call by call.
use Rattle.std.proofs.Common.{◌≡◌, ◌<◌, ◌⊎◌, ℕ, ◌++◌, Bool, true, false, List, [], ◌∷◌, Option, None, Some, length, take, drop, refl, sym, ap, ◌∙◌, arith, append_assoc, take-append-drop, if◌then◌else◌}
use Rattle.std.proofs.lemmas.Bool.Decides.{nat_tests}
use Rattle.std.proofs.lemmas.Slice.Eq.{bytes_eq-Decides}
use Rattle.std.proofs.lemmas.Grind.{common_steps}
use Rattle.call_record.specs.Calls.{Call, read_next, read_at, measured, written, left_by, left_after, is_front, given_by, given_after}

-- the bytes of a read are the first of these
front : (got bytes : List ℕ) → is_front got bytes ≡ true → take (length got) bytes ≡ got
unfolding is_front
front got bytes h = grind (arith, nat_tests, bytes_eq-Decides, common_steps)

-- what a read leaves, after the bytes that it gave
step : (is : Bool) (got mid left : List ℕ) → (is ≡ true → take (length got) mid ≡ got)
    → (if is then Some (drop (length got) mid) else None) ≡ Some left → mid ≡ got ++ left
step true got mid left f h =
    let e : drop (length got) mid ≡ left = grind arith in
    sym (take-append-drop (length got) mid)
    ∙ ap (λ (l : List ℕ). l ++ drop (length got) mid) (f refl) ∙ ap (λ (l : List ℕ). got ++ l) e
step false got mid left f h = cc

-- one call splits off what it gave
by-call : (call : Call) (mid left : List ℕ) → left_by call (Some mid) ≡ Some left → mid ≡ given_by call ++ left
by-call (read_next None) mid left h = grind arith
by-call (read_next (Some got)) mid left h = step (is_front got mid) got mid left (front got mid) h
by-call (read_at n offset told) mid left h = grind arith
by-call (measured n told) mid left h = grind arith
by-call (written told) mid left h = grind arith

-- one more call, after those before it
after : (bytes before : List ℕ) (mid : Option (List ℕ)) (call : Call) (left : List ℕ)
    → ((m : List ℕ) → mid ≡ Some m → bytes ≡ before ++ m) → left_by call mid ≡ Some left
    → bytes ≡ (before ++ given_by call) ++ left
after bytes before None call left h k = cc
after bytes before (Some m) call left h k =
    h m refl ∙ ap (λ (l : List ℕ). before ++ l) (by-call call m left k) ∙ sym (append_assoc before (given_by call) left)

-- what all calls gave, and then what is left
pub were_given : (bytes left : List ℕ) (calls : List Call) → left_after bytes calls ≡ Some left
    → bytes ≡ given_after calls ++ left
were_given bytes left [] h = grind arith
were_given bytes left (call ∷ earlier) h =
    after bytes (given_after earlier) (left_after bytes earlier) call left (λ m k. were_given bytes m earlier k) h

-- two lists that are left empty are the same
pub one_list : (a b : List ℕ) (calls : List Call) → left_after a calls ≡ Some [] → left_after b calls ≡ Some []
    → a ≡ b
one_list a b calls h k = were_given a [] calls h ∙ sym (were_given b [] calls k)

-- a read that gives the first bytes, or none at the end, passes the test
is_front-honest : (got left : List ℕ) → take (length got) left ≡ got → (0 < length got) ⊎ (left ≡ [])
    → is_front got left ≡ true
unfolding is_front
is_front-honest got left h k = grind (arith, nat_tests, bytes_eq-Decides, common_steps)

-- so the bytes agree with this read too
pub honest : (bytes left got : List ℕ) (calls : List Call) → left_after bytes calls ≡ Some left
    → take (length got) left ≡ got → (0 < length got) ⊎ (left ≡ [])
    → left_after bytes (read_next (Some got) ∷ calls) ≡ Some (drop (length got) left)
honest bytes left got calls h f k = rw (h, is_front-honest got left f k) refl
