-- `search_run` replies as the definition says: words, rcfile and query first, then the stored index.
use Rattle.mairix_tool.proofs.Words.{◌≡◌, map, string_bytes, arith, inl, wanted_of_words, shown_wanted}
use Rattle.mairix_tool.proofs.ArchiveLaws.AskedPaths.{asked-paths}
use Rattle.run_faults.specs.declared.fault.Fault.TheVariants.{Memory}
use Rattle.mairix_tool.proofs.ReplyLaws.Searching.{asks-nothing, same-asked, wants-memory}
use Rattle.mairix_tool.proofs.ReplyLaws.Stored.{replies-by-messages, refused-for, refused-stored}
use Rattle.mail_answer.proofs.ArchiveLaws.CallLemmas.{holds_self}
use Rattle.mairix_tool.proofs.stored.search_run.Goals as goal

pub returns-in-Err-clause-reply : goal.returns-in-Err-clause-reply
returns-in-Err-clause-reply g c = grind (arith, refused-stored, string_bytes)

pub returns-in-Err-clause-by_messages : goal.returns-in-Err-clause-by_messages
returns-in-Err-clause-by_messages g c = λ bytes holds.
    replies-by-messages (wanted_of_words (map string_bytes c.args.words.now) c.args.rc.now c.args.now) c.args.index.now
    (omega (arith, c.well_formed)) bytes (asked-paths (map string_bytes c.args.words.now) c.args.rc.now c.args.now)
    c.of-in-Err.result (g.O.Out.taken c.args.out.now) (g.O.Out.taken c.args.out.now)
    (returns-in-Err-clause-reply g c bytes holds)

pub returns-in-Err-clause-cause : goal.returns-in-Err-clause-cause
returns-in-Err-clause-cause g c = record {
  refused = grind (arith, refused-for, string_bytes);
  status = grind arith;
}

pub returns-in-Ok-clause-reply : goal.returns-in-Ok-clause-reply
returns-in-Ok-clause-reply g c = λ held holds.
    rw (c.of-in-Ok.ensures, c.in-Ok.ensures.asked) (c.answer_stored.ensures.told held holds)

pub returns-in-Ok-clause-by_messages : goal.returns-in-Ok-clause-by_messages
returns-in-Ok-clause-by_messages g c = λ bytes holds.
    replies-by-messages (wanted_of_words (map string_bytes c.args.words.now) c.args.rc.now c.args.now) c.args.index.now
    (omega (arith, c.well_formed)) bytes (asked-paths (map string_bytes c.args.words.now) c.args.rc.now c.args.now)
    c.of-in-Ok.result (g.O.Out.taken c.args.out.now) (g.O.Out.taken c.answer_stored.new.out)
    (returns-in-Ok-clause-reply g c bytes holds)

pub returns-in-Err-clause-searched : goal.returns-in-Err-clause-searched
returns-in-Err-clause-searched g c = λ w t is file fresh named.
    let words = map string_bytes c.args.words.now in
    let fault = c.in-Err.fault in
    let memory = wants-memory (wanted_of_words words c.args.rc.now c.args.now) w fault is c.in-Err.ensures.asked
    c.in-Err.ensures.early in
    inl (rw c.of-in-Err.ensures (asks-nothing (λ f. f ≡ Memory) fault c.args.archives.now c.args.out.now memory))

pub returns-in-Ok-clause-searched : goal.returns-in-Ok-clause-searched
returns-in-Ok-clause-searched g c = λ w t is file.
    let words = map string_bytes c.args.words.now in
    let same = same-asked (wanted_of_words words c.args.rc.now c.args.now) (shown_wanted c.in-Ok.wanted) w
    c.in-Ok.ensures.asked is in
    rw (← same, c.of-in-Ok.ensures) (c.answer_stored.ensures.searched t file)

pub returns-in-Err-clause-keeps : goal.returns-in-Err-clause-keeps
returns-in-Err-clause-keeps g c = holds_self g.A.Archives c.args.archives.now
