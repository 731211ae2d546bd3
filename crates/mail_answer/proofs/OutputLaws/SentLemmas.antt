-- What was sent of an answer is what the table answers, or a front of it: by the result of each call.
use Rattle.mail_answer.proofs.Words.{◌≡◌, ℕ, List, [], Option, Result, Ok, Err, length, refl, sym, subst, arith, flat_map, appends-nil, Table, SendsKnown, SendsSpans, Search, AreChosen, known_answer, closed_text, mail_of_table, TableAnswer, IsTableAnswer, SendsTableAnswer, KeepsArchives, IsReadyToWrite, IsSameAnswer, OutOfMemory, Ghosts}
use Rattle.std.specs.Result.{IsErrAnd}
use Rattle.mail_answer.specs.Faults.{IfStale}
use Rattle.mail_answer.specs.MessageReads.{EndsAmong, ReadsChosen}
use Rattle.mail_answer.specs.declared.fault.AnswerFault.{AnswerFault}
use Rattle.mail_answer.specs.declared.output.answer_writer.AnswerWriter.{AnswerWriter}
use Rattle.mail_answer.proofs.ArchiveLaws.KnowledgeLemmas.{some_later}
use Rattle.mail_answer.proofs.OutputLaws.EveryAnswer.{one-choice, some-chosen}
use Rattle.mail_answer.proofs.OutputLaws.SheetLemmas.{some_text}
use Rattle.mail_answer.proofs.OutputLaws.SpanWrites.{some_spans}
use Rattle.mbox_cutter.specs.declared.device.Out.{Ghosts as OutGhosts}

-- a fault before anything was sent
pub nothing_sent : (taken known : Option (List ℕ)) (messages : ℕ) (r : Result ℕ AnswerFault)
    → IsErrAnd r (λ fault. fault.sent ≡ 0) → SendsKnown taken taken known messages r
nothing_sent taken known messages (Ok n) unsent = absurd unsent
nothing_sent taken known messages (Err fault) unsent =
    let text = some_text _ in (
      text.0,
      text.1,
      record {
        went = [];
        unsent = text.0;
        front = refl;
        appends = appends-nil _;
        counted =
            omega (arith, unsent);
      },
    )

-- what was written is what the table answers
pub answered_sent : (t : Table) (s : Search) (held : Option (List (List ℕ))) (taken taken' : Option (List ℕ))
    (r : Result ℕ AnswerFault) (xs : List ℕ) → AreChosen (mail_of_table t) s xs
    → SendsKnown taken taken' (known_answer s.format t held xs) (length xs) r → (a : TableAnswer)
    → IsTableAnswer t s held a → SendsTableAnswer taken taken' a r
answered_sent = grind (arith, one-choice)

-- the same of an mbox answer
pub no_spans_sent : (taken : Option (List ℕ)) (t : Table) (numbers : List ℕ) (r : Result ℕ AnswerFault)
    → IsErrAnd r (λ fault. fault.sent ≡ 0) → SendsSpans taken taken t numbers r
no_spans_sent taken t numbers (Ok n) unsent = absurd unsent
no_spans_sent taken t numbers (Err fault) unsent =
    let spans = some_spans t _ in (
      spans.0,
      spans.1,
      record {
        went = [];
        unsent = flat_map closed_text spans.0;
        front = refl;
        appends = appends-nil _;
        counted = omega (arith, unsent);
      },
    )

-- the spans that were written are those of the chosen numbers
pub spans_sent : (t : Table) (s : Search) (taken taken' : Option (List ℕ)) (r : Result ℕ AnswerFault) (xs : List ℕ)
    → AreChosen (mail_of_table t) s xs → SendsSpans taken taken' t xs r
    → (numbers : List ℕ) → AreChosen (mail_of_table t) s numbers → SendsSpans taken taken' t numbers r
spans_sent = grind (arith, one-choice)

-- after a message, the next one can be written
pub still_ready : {A O : Type 0} (g : Ghosts A) (h : OutGhosts O) (w w' : AnswerWriter) (a a' : A) (o o' : O)
    → IsReadyToWrite g h w a o → IsSameAnswer w w' → KeepsArchives g a a'
    → g.failures a' ≡ g.failures a → h.failures o' ≡ h.failures o → IsReadyToWrite g h w' a' o'
still_ready = grind (arith, some_later)

-- memory ran out before any message was read
pub none_read_yet : {A : Type 0} (g : Ghosts A) (t : Table) (s : Search) (a : A) (fault : AnswerFault)
    → fault.kind ≡ OutOfMemory → ReadsChosen g t s a a (Err fault)
none_read_yet g t s a fault is =
    let some = some-chosen t _ _ in (
      some.0,
      some.1,
      subst (λ kind. IfStale kind (λ archive. EndsAmong g s.format t.messages some.0 archive a a))
          (sym is)
          tt,
    )
