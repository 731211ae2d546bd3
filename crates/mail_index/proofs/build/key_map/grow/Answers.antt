-- `grow` keeps all entries, whether or not there is memory for a larger table.
use Rattle.mail_index.proofs.BuildLaws.TableLemmas.{kept-part}
use Rattle.mail_index.proofs.build.key_map.grow.Goals as goal

pub returns-in_err-table-clause-kept : goal.returns-in_err-table-clause-kept
returns-in_err-table-clause-kept c = kept-part _ _ c.args.order.now c.grown.new.order _ c.grown.ensures.part
    c.requires.kept
