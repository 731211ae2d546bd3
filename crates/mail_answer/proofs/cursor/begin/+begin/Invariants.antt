-- The walks so far are those of the nodes so far, and the steps so far are those of their look-ups.
use Rattle.mail_answer.proofs.Words.{◌≡◌, add_steps, drop, look_up_steps_of_all, members_of, queries_of}
use Rattle.mail_answer.proofs.CursorLaws.Begins.{HaveWalks}
use Rattle.mail_answer.proofs.cursor.begin.+begin.Given as goal

abbrev pub invariant-walks_of-loop-node : goal.invariant-walks_of-loop-node
invariant-walks_of-loop-node l = record {
  walks : HaveWalks l.index (queries_of l.nodes) (queries_of (drop l.node-index l.nodes)) l.walks.items
      l.initial.steps l.steps;
  exact : add_steps l.steps (look_up_steps_of_all l.index.keys (members_of (queries_of (drop l.node-index l.nodes))))
      ≡ add_steps l.initial.steps (look_up_steps_of_all l.index.keys (members_of (queries_of l.nodes)));
}
