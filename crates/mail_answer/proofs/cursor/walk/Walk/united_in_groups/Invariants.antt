-- The walks of this round have the messages of all walks, and so have its groups with the walks in none.
use Rattle.mail_answer.proofs.Words.{◌≡◌, ℕ, vec_len, steps_left_in, some_has}
use Rattle.mail_answer.proofs.CursorLaws.Groups.{HaveGrouped}
use Rattle.mail_answer.proofs.cursor.walk.Walk.united_in_groups.Given as goal

abbrev pub invariant-loop-alloc : goal.invariant-loop-alloc
invariant-loop-alloc l = record {
  each : (m : ℕ) → some_has m l.walks.items ≡ some_has m l.initial.walks.items;
  left : steps_left_in l.walks.items ≡ steps_left_in l.initial.walks.items;
}

abbrev pub decreases-loop-alloc : goal.decreases-loop-alloc
decreases-loop-alloc l = vec_len l.walks

abbrev pub invariant-loop-walks : goal.invariant-loop-walks
invariant-loop-walks l = HaveGrouped l.initial.walks.items l.groups.items l.walks.items

abbrev pub decreases-loop-walks : goal.decreases-loop-walks
decreases-loop-walks l = vec_len l.walks
