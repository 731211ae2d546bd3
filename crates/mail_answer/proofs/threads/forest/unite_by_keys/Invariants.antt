-- Joining these trees by the keys that still come joins the first trees by all keys.
use Rattle.mail_answer.proofs.Words.{◌≡◌, ◌<◌, ℕ, List, length, add_steps, any_text, numbers_passing, AllByRecursion, LeadsBack, Unites, ShareKey}
use Rattle.mail_answer.proofs.threads.forest.unite_by_keys.Given as goal

abbrev pub invariant-loop-key : goal.invariant-loop-key
invariant-loop-key l = record {
  back : LeadsBack l.parents;
  within : AllByRecursion (λ k. AllByRecursion (λ n. n < length l.initial.parents) k.1) l.keys;
  united : (later : List ℕ) → Unites (ShareKey l.keys) l.parents later
      → Unites (ShareKey l.initial.keys) l.initial.parents later;
  counted : add_steps l.steps (numbers_passing any_text l.keys)
      ≡ add_steps l.initial.steps (numbers_passing any_text l.initial.keys);
}

abbrev pub decreases-loop-key : goal.decreases-loop-key
decreases-loop-key l = length l.keys
