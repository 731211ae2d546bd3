-- `read_lines` ends with the fields of all lines, because lines after an empty one don't count, and none is left after
-- the last byte.
use Rattle.mail_answer.proofs.Words.{ℕ, List, drop, lines, HeaderField, fields_of, known_bytes}
use Rattle.mail_answer.proofs.OutputLaws.HeaderReading.{first_passed, fewer_come, has_all, has_fields}
use Rattle.mail_answer.proofs.output.header_reads.read_lines.Goals as goal

pub lines-init : goal.lines-init
lines-init g c =
    let known = known_bytes g.S.Source.rest in
    let taken = c.in-Ok.ensures.line in
    record {
      reads = c.in-Ok.ensures.reads;
      few = fewer_come _ _ _ _ _ taken c.requires.few;
      fields = first_passed _ _ _ _ c.args.header.now taken
          c.requires.none;
    }

pub returns-clause-fields : goal.returns-clause-fields
returns-clause-fields g c =
    let known = known_bytes g.S.Source.rest in
    let now = c.lines.reader in
    let fields : List ℕ → List HeaderField = λ bytes. fields_of (drop 1 (lines bytes)) in
    has_fields (known c.args.reader.now) (g.S.Source.rest now.source.now) now.unread c.lines.header fields
    (has_all (known c.args.reader.now) (known now) c.lines.header fields c.lines.more c.lines-test.false
    c.lines.invariant.few c.lines.invariant.fields)
