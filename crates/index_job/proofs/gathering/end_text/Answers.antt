-- `end_text` adds the terms of the texts that are left, because the reader gives these texts to the builder's sink.
use Rattle.std.proofs.lemmas.Result.{IfOk-weaker, on_ok_weaker}
use Rattle.index_job.proofs.Words.{rules}
use Rattle.index_job.proofs.Gatherings.{gathers-end, end-fails}
use Rattle.index_job.proofs.gathering.end_text.Goals as goal

pub returns-clause-err : goal.returns-clause-err
returns-clause-err c = end-fails _ _ _ _ c.finish.ensures.stopped

pub returns-clause-facts : goal.returns-clause-facts
returns-clause-facts c = IfOk-weaker c.finish.result _ _ (λ facts are ls d g. are ls g.pairs g.fed)
    c.finish.ensures.facts

pub returns-clause-ok : goal.returns-clause-ok
returns-clause-ok c = on_ok_weaker c.finish.result
    (λ texts ls d g. gathers-end _ _ _ _ texts (λ same same'. search rules) _ d g) c.finish.ensures.texts
