-- The messages so far were added to the answer and counted.
use Rattle.mail_answer.proofs.Words.{◌≡◌, ◌+◌, ◌++◌, ℕ, List, length, Option, flat_map, AreNumbers, known_answer, closed_text, AreSpansOf, joined_texts, IsIfKnown, AddsBytes, Raw, Mbox, KeepsArchives, IsSameAnswer}
use Rattle.mail_answer.specs.MessageReads.{ReadsEach}
use Rattle.mail_answer.proofs.output.answer_writer.AnswerWriter.push_all.Given as goal

abbrev pub invariant-loop-n : goal.invariant-loop-n
invariant-loop-n g l = record {
  same : IsSameAnswer l.fn.self l.self;
  keeps : KeepsArchives g.A.Archives l.fn.archives l.archives;
  numbers : AreNumbers (length l.fn.self.places.table.messages) l.numbers;
  counted : l.count + length l.numbers ≡ length l.fn.numbers;
  joins : (known : Option (List ℕ)) × (text : List ℕ)
      × (known_answer l.fn.self.format l.fn.self.places.table (g.A.Archives.held l.archives) l.fn.numbers
      ≡ joined_texts known (known_answer l.fn.self.format l.fn.self.places.table (g.A.Archives.held l.archives)
      l.numbers))
      × IsIfKnown known text × AddsBytes (g.O.Out.taken l.fn.out) (g.O.Out.taken l.out) l.fn.self.sheet l.self.sheet
      text;
  kept : l.self.sheet.sent ≡ 0 → l.out ≡ l.fn.out;
  out_count : g.O.Out.failures l.out ≡ g.O.Out.failures l.fn.out;
  passed : (done : List ℕ) × (l.fn.numbers ≡ done ++ l.numbers)
      × (l.fn.self.format ≡ Mbox → (spans : List (List ℕ)) × AreSpansOf l.fn.self.places.table done spans
      × AddsBytes (g.O.Out.taken l.fn.out) (g.O.Out.taken l.out) l.fn.self.sheet l.self.sheet
      (flat_map closed_text spans))
      × ReadsEach g.A.Archives l.fn.self.format l.fn.self.places.table.messages done l.fn.archives l.archives;
  unasked : l.fn.self.format ≡ Raw → l.archives ≡ l.fn.archives;
  archives_count : g.A.Archives.failures l.archives ≡ g.A.Archives.failures l.fn.archives;
}

abbrev pub decreases-loop-n : goal.decreases-loop-n
decreases-loop-n g l = length l.numbers
