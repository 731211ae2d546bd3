-- The walks so far, with those of the kinds that still come, are those of all kinds.
use Rattle.mail_answer.proofs.Words.{◌≡◌, [], add_steps, compared_by, compared_in_all, drop, filter, fits, is_in, kinds_in, looked_up_by}
use Rattle.mail_answer.proofs.CursorLaws.Texts.{HaveKinds}
use Rattle.mail_answer.proofs.cursor.texts.with_text.Given as goal

abbrev pub invariant-loop-kind : goal.invariant-loop-kind
invariant-loop-kind l = record {
  kinds : HaveKinds (fits l.fit l.text) l.index.keys (looked_up_by l.fit) (kinds_in l.kinds)
      (filter (is_in l.kinds) (drop l.kind-index l.kind-items)) [] l.members.items l.initial.steps l.steps;
  exact : add_steps l.steps (compared_in_all (compared_by l.fit l.text l.index.keys)
      (filter (is_in l.kinds) (drop l.kind-index l.kind-items)))
      ≡ add_steps l.initial.steps (compared_in_all (compared_by l.fit l.text l.index.keys) (kinds_in l.kinds));
}
