-- `answer_view` replies what the table says, by the result of the search.
use Rattle.mairix_tool.proofs.Words.{ℕ, List, Option, arith, subst, AnswersStale, stale_archive, TableAnswer, IsTableAnswer, SendsTableAnswer, IfSome, shown_wanted, ap, reply_of}
use Rattle.mairix_tool.proofs.ReplyLaws.Answers.{told-so, told-by, counted-by}
use Rattle.mairix_tool.proofs.view_answer.answer_view.Goals as goal

pub returns-clause-told : goal.returns-clause-told
returns-clause-told g c = λ held known.
    let s = (shown_wanted c.args.wanted.now).search in
    let t = c.args.index.now in
    let old = g.O.Out.taken c.args.out.now in
    let new = g.O.Out.taken c.answer-found.new.out in
    let r = c.answer-found.result in
    rw (told-so r c.map_err.result (grind arith))
    (told-by t s held old new r (subst (λ (o : Option (List (List ℕ))). (a : TableAnswer) → IsTableAnswer t s o a
    → SendsTableAnswer old new a r) known c.answer-found.ensures.answered)
    (subst (λ (o : Option (List (List ℕ))). IfSome o (λ bytes. AnswersStale old new (stale_archive t.archives bytes) r))
    known c.answer-found.ensures.stale))

pub returns-clause-counted : goal.returns-clause-counted
returns-clause-counted g c =
    rw (told-so c.answer-found.result c.map_err.result (grind arith))
    (counted-by c.args.index.now (shown_wanted c.args.wanted.now).search
    (g.A.Archives.held c.answer-found.new.archives)
    (g.O.Out.taken c.args.out.now) (g.O.Out.taken c.answer-found.new.out) c.answer-found.result
    c.answer-found.ensures.answered)

pub returns-clause-searched : goal.returns-clause-searched
returns-clause-searched g c = record {
  found = c.answer-found.result;
  replied = ap reply_of (told-so c.answer-found.result c.map_err.result (grind arith));
  answered = c.answer-found.ensures.answered;
  spans = c.answer-found.ensures.spans;
  stale = c.answer-found.ensures.stale;
  unsent = c.answer-found.ensures.unsent;
  order = c.answer-found.ensures.order;
  keeps = c.answer-found.ensures.keeps;
}
