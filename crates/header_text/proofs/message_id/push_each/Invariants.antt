-- The ids so far, with those of the rest, are all ids. The loop ends because each `>` makes the rest shorter.
use Rattle.header_text.proofs.Words.{◌≡◌, ◌++◌, map, length, IsFront, ids_of_texts, closed_texts}
use Rattle.header_text.proofs.message_id.push_each.Given as goal

-- the ids so far, and those of the rest
abbrev pub invariant-loop-text : goal.invariant-loop-text
invariant-loop-text l = record {
  sofar : map (λ id. id.items) l.ids.items ++ ids_of_texts (closed_texts l.rest)
      ≡ map (λ id. id.items) l.fn.ids.items ++ ids_of_texts (closed_texts l.fn.value);
  kept : IsFront l.fn.ids.items l.ids.items;
}

abbrev pub decreases-loop-text : goal.decreases-loop-text
decreases-loop-text l = length l.rest
