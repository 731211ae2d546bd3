-- The walks so far, and those of the keys that still come.
use Rattle.mail_answer.proofs.Words.{◌≡◌, ◌≤◌, ◌+◌, ◌||◌, ℕ, length, contains_text, some_key, steps_left_in, some_has, HaveNumbers, numbers_passing}
use Rattle.mail_answer.proofs.cursor.texts.push_containing.Given as goal

abbrev pub invariant-loop-key : goal.invariant-loop-key
invariant-loop-key l = record {
  numbers : HaveNumbers l.count l.keys;
  each : (n : ℕ) → (some_has n l.members.items || some_key (contains_text l.text) n l.keys)
      ≡ (some_has n l.initial.members.items || some_key (contains_text l.text) n l.initial.keys);
  left : steps_left_in l.members.items + numbers_passing (contains_text l.text) l.keys ≤ steps_left_in
      l.initial.members.items +
      numbers_passing (contains_text l.text) l.initial.keys;
}

abbrev pub decreases-loop-key : goal.decreases-loop-key
decreases-loop-key l = length l.keys
