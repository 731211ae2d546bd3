-- The answer of a table to a search, over archives whose bytes may be known.
use Rattle.std.specs.Prelude.{◌≡◌, ℕ, ⊤, ◌==◌, ◌&&◌, not, Bool, false, List, length, Option, Result, Ok, Err, IfErr}
use Rattle.std.specs.Bool.{OnTrue}
use Rattle.mail_index.specs.Tables.{Table}
use Rattle.mail_query.specs.declared.query.Query as program
use Rattle.mail_query.specs.Meaning.{meaning}
use Rattle.mail_answer.specs.declared.fault.AnswerFault.{AnswerFault}
use Rattle.mail_answer.specs.declared.fault.AnswerFaultKind.{AnswerFaultKind}
use Rattle.mail_answer.specs.declared.fault.AnswerFaultKind.TheVariants.{Stale, Device, OutOfMemory, OutFailed}
use Rattle.mail_answer.specs.declared.format.Format.{Format}
use Rattle.mail_answer.specs.declared.format.Format.TheVariants.{Raw}
use Rattle.mail_answer.specs.Answers.{SendsAnswer}
use Rattle.mail_answer.specs.Faults.{is_of_output}
use Rattle.mail_answer.specs.Mail.{Mail, Search, AreChosen}
use Rattle.mail_answer.specs.Shapes.{known_answer}
use Rattle.mail_answer.specs.Sheets.{IsIfKnown}
use Rattle.mail_answer.specs.TableFacts.{facts_at}
use Rattle.mail_answer.specs.Threads.{are_linked}

-- the messages as the table describes them
abbrev pub mail_of_table : Table → Mail
mail_of_table t = record { count = length t.messages; facts = facts_at t; linked = are_linked t }

-- the search that a call is given
abbrev pub search_of : program.Query → Bool → Format → Search
search_of query threads format = record { query = meaning query; threads = threads; format = format }

-- the text of an answer, if it is known, and the number of its messages
pub record TableAnswer : Type 0 where
  pub text : Option (List ℕ)
  pub messages : ℕ

-- the answer with the messages of these numbers
abbrev pub answer_of_numbers : Table → Search → Option (List (List ℕ)) → List ℕ → TableAnswer
answer_of_numbers t s held numbers = record { text = known_answer s.format t held numbers; messages = length numbers }

-- the answer of the table: the text of the messages that the search chooses, and how many they are
abbrev pub IsTableAnswer : Table → Search → Option (List (List ℕ)) → TableAnswer → Type 0
IsTableAnswer t s held a = (numbers : List ℕ) × AreChosen (mail_of_table t) s numbers
    × (a ≡ answer_of_numbers t s held numbers)

-- The whole text was sent and the messages are counted; with a fault, a front of the text was sent, and the fault says
-- how much. If the text isn't known, this is true of some text.
abbrev pub SendsTableAnswer : Option (List ℕ) → Option (List ℕ) → TableAnswer → Result ℕ AnswerFault → Type 0
SendsTableAnswer taken taken' a result = (text : List ℕ) × IsIfKnown a.text text
    × SendsAnswer taken taken' text a.messages result

-- whether the call failed for another reason than its output, and no byte of the answer was sent
abbrev pub is_unwritten : Result ℕ AnswerFault → Bool
is_unwritten (Ok _) = false
is_unwritten (Err fault) = (fault.sent == 0) && not (is_of_output fault.kind)

-- If an archive is faulty, no byte had been sent.
abbrev pub IsBeforeText : AnswerFaultKind → ℕ → Type 0
IsBeforeText (Stale n) sent = sent ≡ 0
IsBeforeText Device sent = sent ≡ 0
IsBeforeText OutOfMemory sent = ⊤
IsBeforeText OutFailed sent = ⊤

-- When the output is as it was.
pub record LeavesOutput {O : Type 0} (s : Search) (old new : O) (result : Result ℕ AnswerFault) : Type 0 where
  -- a raw answer that fails because of an archive had sent no byte
  pub raw : s.format ≡ Raw → IfErr result (λ fault. IsBeforeText fault.kind fault.sent)
  -- if the output didn't fail, and no byte was sent, it is as it was
  pub unwritten : OnTrue (is_unwritten result) (new ≡ old)
