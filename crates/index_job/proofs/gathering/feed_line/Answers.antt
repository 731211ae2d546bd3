-- `feed_line` gathers one more line, because the reader gives the texts that it completes to the builder's sink.
use Rattle.std.proofs.lemmas.Result.{on_ok_weaker}
use Rattle.index_job.proofs.Words.{rules}
use Rattle.index_job.proofs.Gatherings.{gathers-line, line-fails}
use Rattle.index_job.proofs.gathering.feed_line.Goals as goal

pub returns-clause-err : goal.returns-clause-err
returns-clause-err c = line-fails _ _ _ _ _ c.line.ensures.stopped

pub returns-clause-ok : goal.returns-clause-ok
returns-clause-ok c = on_ok_weaker c.line.result
    (λ fed ls d g. gathers-line _ _ _ _ _ _ fed (λ same same'. search rules) _ d g) c.line.ensures.fed
