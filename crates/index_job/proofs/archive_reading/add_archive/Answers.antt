-- `add_archive` adds the messages of an archive and then its entry, because all of its bytes were read.
use Rattle.index_job.proofs.Words.{◌≡◌, ◌∙◌, ◌<◌, length, length-map, ap, arith, err_from_is_err_and, draft_in_archive, most_in_index, Mbox}
use Rattle.index_job.proofs.TableSteps.{number-is, one-added, add-fault}
use Rattle.index_job.proofs.archive_reading.add_archive.Goals as goal

pub returns-in_err-messages-clause-err : goal.returns-in_err-messages-clause-err
returns-in_err-messages-clause-err g c =
    let p = err_from_is_err_and c.from_residual-in_err-messages.result c.from_residual-in_err-messages.ensures.1 in
    rw (p.1, p.2) (λ before bytes is rest.
    let digests = c.args.archive.digests in
    let a : Mbox = record { path = c.args.archive.path.now; bytes = bytes } in
    let begun = c.in_ok-begin_archive.ensures.gives.2 ∙ ap (draft_in_archive c.args.archive.path.now) is in
    let room : length before < most_in_index = grind (arith, length-map) in
    add-fault digests before a c.args.archive.number (number-is _ _ _ _ is c.requires.idle)
    c.read_for_entry-read.new.builder c.in_err-messages.field-0.0 room
    (rw (begun, c.in_err-messages.was) at (c.read_for_entry-read.ensures.known bytes rest)))

pub returns-clause-ok : goal.returns-clause-ok
returns-clause-ok g c = λ before bytes is rest.
    let digests = c.args.archive.digests in
    let a : Mbox = record { path = c.args.archive.path.now; bytes = bytes } in
    let begun = c.in_ok-begin_archive.ensures.gives.2 ∙ ap (draft_in_archive c.args.archive.path.now) is in
    one-added digests before a c.args.archive.number (number-is _ _ _ _ is c.requires.idle) c.in_ok-messages.field-0
    c.read_for_entry-read.new.builder c.read_for_entry-read.result.1 c.end_archive.new.self
    (rw (begun, c.in_ok-messages.was) at (c.read_for_entry-read.ensures.known bytes rest))
    ((rw c.in_ok-messages.was at c.read_for_entry-read.ensures.digest) bytes rest)
    c.in_ok-end_archive.ensures.gives.2 c.in_ok-end_archive.ensures.within
