-- `once_run` replies as the definition says, by the cases of its first fault.
use Rattle.mairix_tool.proofs.Words.{◌≡◌, ℕ, map, length, IfOk, sym, subst, string_bytes, arith, Result, Fault, Wanted, shown_wanted, wanted_of_words, inl}
use Rattle.contract_words.proofs.DeviceLists.{known_length}
use Rattle.mairix_tool.proofs.ArchiveLaws.AskedPaths.{asked-many, asked-paths}
use Rattle.run_faults.specs.Faults.{IsOfIndexing}
use Rattle.mairix_tool.proofs.ReplyLaws.Once.{early-once, same-bytes}
use Rattle.mairix_tool.proofs.ReplyLaws.Searching.{asks-nothing, same-asked, wants-memory}
use Rattle.mail_answer.proofs.ArchiveLaws.CallLemmas.{holds_self}
use Rattle.mairix_tool.proofs.ReplyLaws.SourcesRead.{none-read}
use Rattle.mairix_tool.proofs.once.once_run.Goals as goal

pub answer_indexed-requires-clause-paths : goal.answer_indexed-requires-clause-paths
answer_indexed-requires-clause-paths g c =
    asked-paths (map string_bytes c.args.words.now) c.args.rc.now c.args.now (shown_wanted c.in-Ok.wanted)
    c.in-Ok.ensures.asked

pub answer_indexed-requires-clause-many : goal.answer_indexed-requires-clause-many
answer_indexed-requires-clause-many g c =
    subst (λ (asks : Result Wanted Fault). IfOk asks (λ w. length w.paths ≡ length c.args.sources.now))
    c.in-Ok.ensures.asked
    (asked-many (map string_bytes c.args.words.now) c.args.rc.now c.args.now (length c.args.sources.now)
    (λ r. g.A.Archives.number c.args.archives.now ≡ length c.args.sources.now) c.requires.many)

pub returns-in-Err-clause-changed : goal.returns-in-Err-clause-changed
returns-in-Err-clause-changed g c = grind (arith, early-once, string_bytes)

pub returns-in-Err-clause-reply : goal.returns-in-Err-clause-reply
returns-in-Err-clause-reply g c = λ bytes known holds.
    let long = known_length g.S.Source.rest c.args.sources.now bytes known.0 in
    same-bytes (wanted_of_words (map string_bytes c.args.words.now) c.args.rc.now c.args.now) bytes c.of-in-Err.result
    (g.O.Out.taken c.args.out.now) (g.O.Out.taken c.args.out.now)
    (subst (λ (n : ℕ). IfOk (wanted_of_words (map string_bytes c.args.words.now) c.args.rc.now c.args.now)
    (λ w. length w.paths ≡ n)) (sym long)
    (asked-many (map string_bytes c.args.words.now) c.args.rc.now c.args.now (length c.args.sources.now)
    (λ r. g.A.Archives.number c.args.archives.now ≡ length c.args.sources.now) c.requires.many))
    (returns-in-Err-clause-changed g c bytes bytes known holds)

pub returns-in-Ok-clause-changed : goal.returns-in-Ok-clause-changed
returns-in-Ok-clause-changed g c = λ bytes held known holds.
    rw (c.of-in-Ok.ensures, c.in-Ok.ensures.asked) (c.answer_indexed.ensures.told bytes held known holds)

pub returns-in-Ok-clause-reply : goal.returns-in-Ok-clause-reply
returns-in-Ok-clause-reply g c = grind (
  arith,
  known_length,
  same-bytes,
  string_bytes,
  asked-many,
  returns-in-Ok-clause-changed,
)

pub returns-in-Err-clause-searched : goal.returns-in-Err-clause-searched
returns-in-Err-clause-searched g c = λ w is.
    let words = map string_bytes c.args.words.now in
    let fault = c.in-Err.fault in
    let memory = wants-memory (wanted_of_words words c.args.rc.now c.args.now) w fault is c.in-Err.ensures.asked
    c.in-Err.ensures.early in
    inl (rw c.of-in-Err.ensures (asks-nothing IsOfIndexing fault c.args.archives.now c.args.out.now (rw memory tt)))

pub returns-in-Ok-clause-searched : goal.returns-in-Ok-clause-searched
returns-in-Ok-clause-searched g c = λ w is.
    let words = map string_bytes c.args.words.now in
    let same = same-asked (wanted_of_words words c.args.rc.now c.args.now) (shown_wanted c.in-Ok.wanted) w
    c.in-Ok.ensures.asked is in
    rw (← same, c.of-in-Ok.ensures) c.answer_indexed.ensures.searched

pub returns-in-Err-clause-counted : goal.returns-in-Err-clause-counted
returns-in-Err-clause-counted g c = λ w bytes is known. rw c.of-in-Err.ensures tt

pub returns-in-Ok-clause-counted : goal.returns-in-Ok-clause-counted
returns-in-Ok-clause-counted g c = λ w bytes is known.
    let words = map string_bytes c.args.words.now in
    let same = same-asked (wanted_of_words words c.args.rc.now c.args.now) (shown_wanted c.in-Ok.wanted) w
    c.in-Ok.ensures.asked is in
    rw (← same, c.of-in-Ok.ensures) (c.answer_indexed.ensures.counted bytes known)

pub returns-in-Err-clause-keeps : goal.returns-in-Err-clause-keeps
returns-in-Err-clause-keeps g c = record {
  sources = rw c.of-in-Err.ensures (none-read g.S.Source c.args.sources.now c.args.sources.now c.in-Err.fault
      c.in-Err.ensures.early);
  archives = holds_self g.A.Archives c.args.archives.now;
}
