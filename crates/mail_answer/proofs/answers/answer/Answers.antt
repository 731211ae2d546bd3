-- `answer` sends what the table answers, or a front of it, because each of its steps does.
use Rattle.mail_answer.proofs.Words.{◌∙◌, Err, arith, search_of}
use Rattle.mail_answer.proofs.ArchiveLaws.KnowledgeLemmas.{was_known_self}
use Rattle.mail_answer.proofs.OutputLaws.SentLemmas.{nothing_sent, answered_sent, no_spans_sent, none_read_yet, spans_sent}
use Rattle.mail_answer.proofs.answers.answer.Goals as goal

pub returns-in-Err-clause-answered : goal.returns-in-Err-clause-answered
returns-in-Err-clause-answered g c = λ a is. nothing_sent _ _ a.messages (Err c.unsent.result) (grind arith)

pub returns-clause-answered : goal.returns-clause-answered
returns-clause-answered g c =
    answered_sent _ _
    _ _ _ _ _ (grind arith)
    (rw (c.new.ensures.table, c.new.ensures.format) at c.write.ensures.messages.text)

pub returns-in_default-chosen-clause-answered : goal.returns-in_default-chosen-clause-answered
returns-in_default-chosen-clause-answered g c =
    λ a is. nothing_sent _ _ a.messages (Err c.unsent-in_default-chosen.result) (grind arith)

pub returns-in-Err-clause-spans : goal.returns-in-Err-clause-spans
returns-in-Err-clause-spans g c = λ mbox numbers chosen. no_spans_sent _ c.args.index.now numbers (Err c.unsent.result)
    (grind arith)

pub returns-clause-spans : goal.returns-clause-spans
returns-clause-spans g c = λ mbox.
    spans_sent c.args.index.now (search_of c.args.query.now c.args.threads c.args.format) _ _ _ c.in-Ok.numbers
    (grind arith) (rw c.new.ensures.table at (c.write.ensures.messages.spans (c.new.ensures.format ∙ mbox)))

pub returns-in_default-chosen-clause-spans : goal.returns-in_default-chosen-clause-spans
returns-in_default-chosen-clause-spans g c =
    λ mbox numbers chosen. no_spans_sent _ c.args.index.now numbers (Err c.unsent-in_default-chosen.result)
    (grind arith)

pub returns-in_default-chosen-clause-order : goal.returns-in_default-chosen-clause-order
returns-in_default-chosen-clause-order g c =
    let told = none_read_yet g.A.Archives c.args.index.now
    (search_of c.args.query.now c.args.threads c.args.format) c.check_archives.new.archives
    c.unsent-in_default-chosen.result (grind arith) in
    grind (arith, told, was_known_self)
