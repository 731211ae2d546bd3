-- The walks so far, and the lists that have no walk yet.
use Rattle.mail_answer.proofs.Words.{◌≡◌, ◌||◌, ◌+◌, ℕ, length, steps_left_in, some_has}
use Rattle.mail_answer.proofs.cursor.walk.Walk.along_some.Given as goal

abbrev pub invariant-loop-list : goal.invariant-loop-list
invariant-loop-list l = record {
  each : (m : ℕ) → (some_has m l.walks.items || some_has m l.lists.items) ≡ some_has m l.initial.lists.items;
  left : steps_left_in l.walks.items + steps_left_in l.lists.items ≡ steps_left_in l.initial.lists.items;
}

abbrev pub decreases-loop-list : goal.decreases-loop-list
decreases-loop-list l = length l.lists.items
