-- With the lines to come, the header will have the fields of the source. The loop ends because each line uses one up.
use Rattle.mail_answer.proofs.Words.{◌≤◌, false, IfSome, length, drop, lines, fields_of, WillHaveFields, known_bytes}
use Rattle.mbox_cutter.specs.Sources.{ReadsSource}
use Rattle.mail_answer.proofs.output.header_reads.read_lines.Given as goal

abbrev pub invariant-lines : goal.invariant-lines
invariant-lines g l = record {
  reads : ReadsSource g.S.Source false l.fn.reader.source l.reader.source;
  few : IfSome (known_bytes g.S.Source.rest l.reader) (λ bytes. length bytes ≤ l.more);
  fields : IfSome (known_bytes g.S.Source.rest l.fn.reader)
      (λ bytes. WillHaveFields (known_bytes g.S.Source.rest l.reader) l.header (fields_of (drop 1 (lines bytes))));
}

abbrev pub decreases-lines : goal.decreases-lines
decreases-lines g l = l.more
