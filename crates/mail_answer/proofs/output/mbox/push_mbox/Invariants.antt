-- Some pieces were added to the answer; they and the rest are the span.
use Rattle.mail_answer.proofs.Words.{◌≡◌, ◌+◌, ℕ, List, ◌++◌, length, option_map, record_at, ending_of_bytes, bytes_left, span_reading, IsInsideArchive, AddsBytes, KeepsArchives}
use Rattle.mail_answer.specs.Inside.Readings.{ReadsUntil}
use Rattle.mail_answer.proofs.output.mbox.push_mbox.Given as goal

abbrev pub invariant-pieces : goal.invariant-pieces
invariant-pieces g l = record {
  keeps : KeepsArchives g.A.Archives l.fn.archives l.archives;
  inside : IsInsideArchive (g.A.Archives.number l.archives) (g.A.Archives.held l.archives) l.part;
  archive : l.part.archive ≡ (record_at l.fn.index.messages l.fn.n).archive;
  joins : (text : List ℕ)
      × (bytes_left (g.A.Archives.held l.archives) (span_reading (record_at l.fn.index.messages l.fn.n))
      ≡ option_map (λ bytes. text ++ bytes) (bytes_left (g.A.Archives.held l.archives) l.part))
      × (l.ending ≡ ending_of_bytes text) × AddsBytes (g.O.Out.taken l.fn.out) (g.O.Out.taken l.out) l.fn.sheet l.sheet
      text
      × ((record_at l.fn.index.messages l.fn.n).length ≡ length text + l.part.left);
  read : ReadsUntil g.A.Archives l.fn.archives l.archives (span_reading (record_at l.fn.index.messages l.fn.n)) l.part;
  kept : l.sheet.sent ≡ 0 → l.out ≡ l.fn.out;
  out_count : g.O.Out.failures l.out ≡ g.O.Out.failures l.fn.out;
  archives_count : g.A.Archives.failures l.archives ≡ g.A.Archives.failures l.fn.archives;
}

abbrev pub decreases-pieces : goal.decreases-pieces
decreases-pieces g l = l.part.left
