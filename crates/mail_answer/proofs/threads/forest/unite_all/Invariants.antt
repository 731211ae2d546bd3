-- Joining these trees by the numbers that still come joins the first trees by all numbers.
use Rattle.mail_answer.proofs.Words.{◌≡◌, ◌<◌, ℕ, List, ◌∷◌, length, add_steps, AllByRecursion, LeadsBack, Unites, AreBothAmong}
use Rattle.mail_answer.proofs.threads.forest.unite_all.Given as goal

abbrev pub invariant-loop-number : goal.invariant-loop-number
invariant-loop-number l = record {
  back : LeadsBack l.parents;
  first_within : l.first < length l.initial.parents;
  within : AllByRecursion (λ n. n < length l.initial.parents) l.numbers;
  united : (later : List ℕ) → Unites (AreBothAmong (l.first ∷ l.numbers)) l.parents later
      → Unites (AreBothAmong (l.first ∷ l.initial.numbers)) l.initial.parents later;
  counted : add_steps l.steps (length l.numbers) ≡ add_steps l.initial.steps (length l.initial.numbers);
}

abbrev pub decreases-loop-number : goal.decreases-loop-number
decreases-loop-number l = length l.numbers
