-- `answer_stored` replies what the index says, by the results of opening and of searching it.
use Rattle.mairix_tool.proofs.Words.{◌^◌, ◌<◌, length, arith, Wanted, shown_wanted, reply_of}
use Rattle.mairix_tool.proofs.ReplyLaws.Stored.{answered-for, refused-for, refused-stored, has-digests, stored-told, stored-counted}
use Rattle.mairix_tool.proofs.ReplyLaws.Searching.{opened-searched, refused-searched}
use Rattle.mail_answer.proofs.ArchiveLaws.CallLemmas.{holds_self}
use Rattle.mairix_tool.proofs.stored.answer_stored.Goals as goal

pub returns-in_err-view-clause-told : goal.returns-in_err-view-clause-told
returns-in_err-view-clause-told g c = grind (arith, refused-stored)

pub returns-in_err-view-clause-no_other_cause : goal.returns-in_err-view-clause-no_other_cause
returns-in_err-view-clause-no_other_cause g c = grind (arith, refused-for)

pub answer_opened-requires-clause-digests : goal.answer_opened-requires-clause-digests
answer_opened-requires-clause-digests g c =
    has-digests (shown_wanted c.args.wanted.now) c.in_ok-view.view c.in_ok-view.ensures.table.0.version
    c.in_ok-view.ensures.fresh

pub returns-clause-told : goal.returns-clause-told
returns-clause-told g c = λ held holds.
    let w : Wanted = shown_wanted c.args.wanted.now in
    let few : length c.args.index.now < 2 ^ 64 = omega (arith, c.well_formed) in
    stored-told w c.args.index.now few c.in_ok-view.view c.in_ok-view.ensures.table held c.in_ok-view.ensures.fresh
    c.in_ok-view.ensures.paths (reply_of c.answer_opened.result) (g.O.Out.taken c.args.out.now)
    (g.O.Out.taken c.answer_opened.new.out)
    (c.answer_opened.ensures.told held holds)

pub returns-clause-counted : goal.returns-clause-counted
returns-clause-counted g c = λ t file.
    let few : length c.args.index.now < 2 ^ 64 = omega (arith, c.well_formed) in
    stored-counted (shown_wanted c.args.wanted.now) c.args.index.now few c.in_ok-view.view c.in_ok-view.ensures.table
    t
    (g.A.Archives.held c.answer_opened.new.archives) (reply_of c.answer_opened.result) (g.O.Out.taken c.args.out.now)
    (g.O.Out.taken c.answer_opened.new.out) file c.answer_opened.ensures.counted

pub returns-clause-no_other_cause : goal.returns-clause-no_other_cause
returns-clause-no_other_cause g c = grind (arith, answered-for)

pub returns-in_err-view-clause-searched : goal.returns-in_err-view-clause-searched
returns-in_err-view-clause-searched g c = λ t file.
    let few : length c.args.index.now < 2 ^ 64 = omega (arith, c.well_formed) in
    refused-searched g.A.Archives g.O.Out (shown_wanted c.args.wanted.now) c.args.index.now few t file _ _ _ _ _
    c.in_err-view.field-0.0 c.in_err-view.ensures.refused

pub returns-clause-searched : goal.returns-clause-searched
returns-clause-searched g c = λ t file.
    let few : length c.args.index.now < 2 ^ 64 = omega (arith, c.well_formed) in
    opened-searched g.A.Archives g.O.Out (shown_wanted c.args.wanted.now) c.args.index.now few t file
    c.args.archives.now
    c.answer_opened.new.archives c.args.out.now c.answer_opened.new.out (reply_of c.answer_opened.result)
    c.in_ok-view.view c.in_ok-view.ensures.table c.answer_opened.ensures.searched

pub returns-in_err-view-clause-keeps : goal.returns-in_err-view-clause-keeps
returns-in_err-view-clause-keeps g c = holds_self g.A.Archives c.args.archives.now
