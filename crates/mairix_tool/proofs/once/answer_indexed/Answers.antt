-- `answer_indexed` replies as the definition says, because its index is the table of the archives but for digests, on
-- which no answer depends.
use Rattle.mairix_tool.proofs.Words.{◌∙◌, ap, sym, subst, arith, table, mboxes, Wanted, shown_wanted, reply_of, map, inl, inr, but_digests, IsWellFormed}
use Rattle.index_job.specs.ArchiveTables.{table_by}
use Rattle.mail_index.specs.declared.digests.Digests.TheVariants.{LeftOut}
use Rattle.mairix_tool.proofs.TableLaws.Alike.{counted-alike, same-but-digests, searches-alike}
use Rattle.mairix_tool.proofs.ReplyLaws.Once.{refused-once, alike-once}
use Rattle.mairix_tool.proofs.ReplyLaws.Searching.{asks-nothing, indexed-table}
use Rattle.run_faults.specs.Faults.{IsOfIndexing}
use Rattle.std.proofs.lemmas.Result.{err_from_is_err_and}
use Rattle.mail_answer.proofs.ArchiveLaws.CallLemmas.{holds_self}
use Rattle.mairix_tool.proofs.ReplyLaws.SourcesRead.{still-read}
use Rattle.mairix_tool.proofs.once.answer_indexed.Goals as goal

pub returns-in_err-file-clause-told : goal.returns-in_err-file-clause-told
returns-in_err-file-clause-told g c = grind (arith, refused-once)

pub returns-clause-told : goal.returns-clause-told
returns-clause-told g c = λ bytes held known holds.
    let w : Wanted = shown_wanted c.args.wanted.now in
    let indexed = rw c.as_slice.ensures at (c.in_ok-file.ensures.known bytes known) in
    let archives = mboxes w.paths bytes in
    let view = (rw c.bytes.ensures at c.of_file-index.ensures) LeftOut (table_by LeftOut archives) indexed.1 in
    alike-once w bytes held c.of_file-index.result (reply_of c.answer_view.result) (g.O.Out.taken c.args.out.now)
    (g.O.Out.taken c.answer_view.new.out) indexed.0 (ap but_digests view ∙ same-but-digests LeftOut archives)
    (c.answer_view.ensures.told held holds)

pub returns-in_err-file-clause-searched : goal.returns-in_err-file-clause-searched
returns-in_err-file-clause-searched g c =
    let p = err_from_is_err_and c.from_residual.result c.from_residual.ensures.1 in
    inl (rw (p.1, p.2) (asks-nothing IsOfIndexing c.in_err-file.field-0.0 c.args.archives.now c.args.out.now
    c.in_err-file.ensures.kinds))

pub returns-clause-searched : goal.returns-clause-searched
returns-clause-searched g c =
    let w : Wanted = shown_wanted c.args.wanted.now in
    let view = rw c.bytes.ensures at c.of_file-index.ensures in
    let formed = c.in_ok-file.ensures.formed in
    let indexed = indexed-table w.paths (map g.S.Source.rest c.args.sources.now)
    (map g.S.Source.rest c.file_of_archives.new.sources) c.requires.paths c.of_file-index.result
    (subst IsWellFormed (sym (view LeftOut formed.0 formed.1)) formed.1.0)
    (λ bytes known.
    let found = rw c.as_slice.ensures at (c.in_ok-file.ensures.known bytes known) in
    (found.0, view LeftOut (table_by LeftOut (mboxes w.paths bytes)) found.1)) in
    inr (
      indexed.0,
      indexed.1,
      searches-alike c.of_file-index.result indexed.0 indexed.2 g.A.Archives g.O.Out w.search c.args.archives.now
          c.answer_view.new.archives c.args.out.now c.answer_view.new.out (reply_of c.answer_view.result)
          c.answer_view.ensures.searched,
    )

pub returns-clause-counted : goal.returns-clause-counted
returns-clause-counted g c = λ bytes known.
    let w : Wanted = shown_wanted c.args.wanted.now in
    let archives = mboxes w.paths bytes in
    let indexed = rw c.as_slice.ensures at (c.in_ok-file.ensures.known bytes known) in
    let view = (rw c.bytes.ensures at c.of_file-index.ensures) LeftOut (table_by LeftOut archives) indexed.1 in
    counted-alike c.of_file-index.result (table archives) (ap but_digests view ∙ same-but-digests LeftOut archives)
    w.search (g.A.Archives.held c.answer_view.new.archives) (reply_of c.answer_view.result).fault
    (reply_of c.answer_view.result) (g.O.Out.taken c.args.out.now) (g.O.Out.taken c.answer_view.new.out)
    c.answer_view.ensures.counted

pub returns-in_err-file-clause-keeps : goal.returns-in_err-file-clause-keeps
returns-in_err-file-clause-keeps g c = holds_self g.A.Archives c.args.archives.now

pub returns-clause-stays : goal.returns-clause-stays
returns-clause-stays g c =
    still-read g.S.Source c.args.sources.now c.file_of_archives.new.sources c.answer_view.result
    c.answer_view.ensures.asks.own c.in_ok-file.ensures.stays
