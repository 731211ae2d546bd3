-- `push_raw` adds the line of a message, from its record and the path of its archive.
use Rattle.std.specs.String.{string_bytes}
use Rattle.mail_answer.proofs.Words.{◌≡◌, ◌∙◌, [], append_assoc, ap, arith, Raw, message_text, raw_line, record_at}
use Rattle.mail_answer.proofs.OutputLaws.SheetLemmas.{writes_nothing}
use Rattle.mail_answer.proofs.CursorLaws.TruthLists.{record_known}
use Rattle.mail_answer.proofs.output.raw_answer.push_raw.Goals as goal

pub returns-in_err-line-clause-writes : goal.returns-in_err-line-clause-writes
returns-in_err-line-clause-writes = grind (arith, writes_nothing)

pub returns-clause-writes : goal.returns-clause-writes
returns-clause-writes g c =
    let t = c.args.places.now.table in
    let m = c.message-message.result in
    let is : m ≡ record_at t.messages c.args.n =
    cc (c.message-message.ensures, c.index.ensures, record_known _ _ c.requires.below) in
    let line : string_bytes c.in_ok-line.line ≡ raw_line m.offset m.length c.path_of-path.result.now =
    simp append_assoc c.in_ok-line.ensures.ok in
    let text =
    c.as_bytes.ensures.value ∙ line ∙ ap (λ path. raw_line m.offset m.length path)
    c.path_of-path.ensures.path ∙ ap (λ r. message_text Raw t.archives [] r) is in
    rw text at c.push.ensures.writes
