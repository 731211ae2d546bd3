-- Walks that are joined group by group have the messages of all of them, and each round leaves fewer walks.
use Rattle.mail_answer.proofs.Words.{◌≡◌, ◌∙◌, ◌+◌, ◌-◌, ◌*◌, ◌<◌, ◌≤◌, ℕ, Bool, ◌||◌, List, [], ◌∷◌, ◌++◌, length, take, drop, refl, sym, ap, arith, length-append, take-append-drop, or_assoc, truth_at, WalkAhead, union_of, steps_left_in, some_has}
use Rattle.std.proofs.lemmas.List.{length-take-le}
use Rattle.mail_answer.proofs.CursorLaws.Members.{united-at, some-append}
use Rattle.mail_answer.proofs.CursorLaws.Texts.{left-append}

or_swap : (a b c : Bool) → ((a || c) || b) ≡ (a || (b || c))
or_swap = grind arith

some-joined : (m : ℕ) (xs ys : List WalkAhead) → some_has m (xs ++ ys) ≡ (some_has m xs || some_has m ys)
some-joined m [] ys = refl
some-joined m (x ∷ xs) ys = ap (λ b. truth_at x.truths m || b) (some-joined m xs _)
    ∙ sym (or_assoc (truth_at x.truths m) _ _)

left-joined : (xs ys : List WalkAhead) → steps_left_in (xs ++ ys) ≡ steps_left_in xs + steps_left_in ys
left-joined [] ys = omega arith
left-joined (x ∷ xs) ys = omega (arith, left-joined xs ys)

-- the groups so far, and the walks that aren't in a group yet
pub record HaveGrouped (all groups walks : List WalkAhead) : Type 0 where
  pub each : (m : ℕ) → (some_has m groups || some_has m walks) ≡ some_has m all
  pub left : steps_left_in groups + steps_left_in walks ≡ steps_left_in all
  pub few : 4 * length groups + length walks ≤ length all + 3
  pub whole : 0 < length walks → 4 * length groups + length walks ≤ length all

pub grouped_more : (all groups walks : List WalkAhead) (at : ℕ) (w : WalkAhead) → at ≡ length walks - 4
    → 0 < length walks
    → w.truths ≡ union_of (drop at walks) → w.left ≡ steps_left_in (drop at walks) → HaveGrouped all groups walks
    → HaveGrouped all (groups ++ w ∷ []) (take at walks)
grouped_more all groups walks at w is some told left have =
    let parts = take-append-drop at walks in
    let long = length-take-le at walks (omega (arith, is)) in
    let more : length (groups ++ w ∷ []) ≡ length groups + 1 = omega (arith, length-append groups (w ∷ [])) in
    let before = have.whole some in
    record {
      each = grind (arith, some-append, united-at, or_swap, some-joined);
      left = omega (
        arith,
        left-append groups w,
        left,
        left-joined (take at walks) (drop at walks),
        ap steps_left_in parts,
        have.left,
      );
      few = omega (arith, long, more, before, is, some);
      whole = grind arith;
    }

pub swap_last : (a b c : Bool) → ((a || c) || b) ≡ (a || (b || c))
swap_last = grind arith

pub alone_each : (m : ℕ) (ws ws' ls ls' : List WalkAhead) (l w : WalkAhead) → ws' ≡ ws ++ w ∷ [] → ls ≡ ls' ++ l ∷ []
    → w.truths
    ≡ l.truths → (some_has m ws' || some_has m ls') ≡ (some_has m ws || some_has m ls)
alone_each = grind (arith, some-append, swap_last)

pub alone_left : (ws ws' ls ls' : List WalkAhead) (l w : WalkAhead) → ws' ≡ ws ++ w ∷ [] → ls ≡ ls' ++ l ∷ [] → w.left
    ≡ l.left
    → steps_left_in ws' + steps_left_in ls' ≡ steps_left_in ws + steps_left_in ls
alone_left ws ws' ls ls' l w more less same =
    omega (arith, ap steps_left_in more, ap steps_left_in less, left-append ws w, left-append ls' l, same)
