-- `push_excerpt` adds the excerpt of a message, because the header that it read has the message's fields.
use Rattle.mail_answer.proofs.Words.{◌≡◌, arith, known_message, IsIfKnown, record_at, Excerpt}
use Rattle.mail_answer.proofs.OutputLaws.HeaderReading.{excerpt_told}
use Rattle.mail_answer.proofs.ArchiveLaws.IndexedLemmas.{message_inside}
use Rattle.mail_answer.proofs.OutputLaws.PartReads.{read_fresh}
use Rattle.mail_answer.proofs.OutputLaws.SheetLemmas.{writes_nothing, writes_less}
use Rattle.mail_answer.proofs.CursorLaws.TruthLists.{record_known}
use Rattle.mail_answer.proofs.output.excerpt.push_excerpt.Goals as goal

pub read_header-requires-clause-inside : goal.read_header-requires-clause-inside
read_header-requires-clause-inside g c =
    let t = c.args.places.now.table in
    let is : c.message-message.result ≡ record_at t.messages c.args.n =
    cc (c.message-message.ensures, c.index.ensures, record_known _ _ c.requires.below) in
    rw is (message_inside t _ _ _
    c.requires.table c.requires.below c.requires.indexed.number c.requires.indexed.fresh)

pub returns-in_err-header-clause-writes : goal.returns-in_err-header-clause-writes
returns-in_err-header-clause-writes = grind (arith, writes_nothing)

pub path_of-path-requires : goal.path_of-path-requires
path_of-path-requires g c =
    let t = c.args.places.now.table in
    let is : c.message-message.result ≡ record_at t.messages c.args.n =
    cc (c.message-message.ensures, c.index.ensures, record_known _ _ c.requires.below) in
    let number = c.requires.indexed.number in
    let exists =
    (message_inside t _ _ _
    c.requires.table c.requires.below c.requires.indexed.number c.requires.indexed.fresh).exists in
    rw is (omega (arith, number, exists))

pub returns-in_err-push_lines-clause-writes : goal.returns-in_err-push_lines-clause-writes
returns-in_err-push_lines-clause-writes = grind (arith, writes_nothing)

pub returns-clause-writes : goal.returns-clause-writes
returns-clause-writes g c =
    let t = c.args.places.now.table in
    let held = g.A.Archives.held c.read_header.new.archives in
    let is : c.message-message.result ≡ record_at t.messages c.args.n =
    cc (c.message-message.ensures, c.index.ensures, record_known _ _ c.requires.below) in
    let told : IsIfKnown (known_message Excerpt t held c.args.n) c.as_slice.result.now =
    rw c.as_slice.ensures.value (excerpt_told t _ _ _ _
    _ c.in_ok-header.header is c.path_of-path.ensures.path c.in_ok-header.ensures.fields
    (rw c.new-text.ensures.items at c.in_ok-push_lines.ensures)) in
    writes_less _ _ _ _
    _ _ _ told c.push.ensures.writes

pub returns-clause-read : goal.returns-clause-read
returns-clause-read g c =
    let t = c.args.places.now.table in
    let is : c.message-message.result ≡ record_at t.messages c.args.n =
    cc (c.message-message.ensures, c.index.ensures, record_known _ _ c.requires.below) in
    read_fresh _ Excerpt (record_at t.messages c.args.n) _ _
    _ c.push.ensures.own.1 (rw is at c.in_ok-header.ensures.read)
