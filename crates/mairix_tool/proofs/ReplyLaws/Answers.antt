-- What a run replies is what its table says, by the result of the search.
use Rattle.mairix_tool.proofs.Words.{◌≡◌, ◌∙◌, ℕ, List, [], length, Option, None, Some, Result, Ok, Err, refl, sym, ap, subst, append-nil, arith, Appends, Keeps, Sends, Table, Format, Raw, Excerpt, AnswersStale, Search, answer_text, known_answer, stale_archive, TableAnswer, IsTableAnswer, SendsTableAnswer, answer_of_numbers, some-chosen, Fault, Answer, status_of_count, answer_of_text, IsStaleOr, IsAnswerFrom, IsAnswerOrStale, RepliesBy, reply_of, fault_of_answer_kind, IsCountedWhere}
use Rattle.std.specs.Result.{IsErrAnd, MatchResult}
use Rattle.mail_answer.specs.declared.format.Format.TheVariants.{Mbox}
use Rattle.mail_answer.specs.declared.fault.AnswerFault.{AnswerFault}
use Rattle.mail_answer.specs.declared.fault.AnswerFaultKind.{AnswerFaultKind}
use Rattle.mail_answer.specs.declared.fault.AnswerFaultKind.TheVariants as kind
use Rattle.mail_answer.specs.Sheets.{IsIfKnown}
use Rattle.mairix_tool.specs.Searching.{run_of_answer}

-- the known text is that of the answer
known-text : (format : Format) (t : Table) (h : List (List ℕ)) (ns : List ℕ) (text : List ℕ)
    → IsIfKnown (known_answer format t (Some h) ns) text → answer_text format t h ns ≡ text
known-text Raw t h ns text tells = tells
known-text Excerpt t h ns text tells = tells
known-text Mbox t h ns text tells = tells

keeps-appends : (a b : Option (List ℕ)) → Keeps a b → Appends a b []
keeps-appends = grind (arith, append-nil)

keeps-sends : (a b : Option (List ℕ)) (text : List ℕ) → Keeps a b → Sends a b text
keeps-sends a b text k = ([], text, refl, keeps-appends a b k)

pub told-so : (r : Result ℕ AnswerFault) (told : Result ℕ Fault)
    → MatchResult r (λ messages. told ≡ Ok messages) (λ fault. IsErrAnd told (λ e. e ≡ fault_of_answer_kind fault.kind))
    → told ≡ run_of_answer r
told-so (Ok messages) told h = h
told-so (Err fault) (Ok messages) h = absurd h
told-so (Err fault) (Err e) h = ap Err h

module _ (t : Table) (s : Search) (h : List (List ℕ)) (old new : Option (List ℕ)) where
  ok-told : (count : ℕ) → ((a : TableAnswer) → IsTableAnswer t s (Some h) a → SendsTableAnswer old new a (Ok count))
      → stale_archive t.archives h ≡ None
      → RepliesBy (IsAnswerOrStale t s h) (reply_of (Ok count)) old new
  ok-told count given fresh =
      let some = some-chosen t _ _ in
      let went = given (answer_of_numbers t s (Some h) some.0) (some.0, some.1, refl) in
      let text = answer_text s.format t h some.0 in
      let same = known-text _ t h _ _ went.1 in (
        answer_of_text text (length some.0),
        subst (λ o. IsStaleOr o (IsAnswerFrom t s h) (answer_of_text text (length some.0))) (sym fresh)
            (some.0, some.1, refl),
        ap (λ k. record { status = status_of_count k; messages = k; fault = None }) went.2.0,
        subst (Appends old new) (sym same) went.2.1,
      )

  -- with a fault, a front of what the table answers was sent
  front-sent : (fault : AnswerFault) → ((a : TableAnswer) → IsTableAnswer t s (Some h) a
      → SendsTableAnswer old new a (Err fault)) → (answer : Answer) → IsAnswerFrom t s h answer
      → Sends old new answer.text
  front-sent fault given answer (numbers, chosen, is) =
      let went = given (answer_of_numbers t s (Some h) numbers) (numbers, chosen, refl) in
      let text = ap (λ a. a.text) is ∙ known-text _ t h _ _ went.1
      in
      (went.2.went, went.2.unsent, text ∙ went.2.front, went.2.appends)

err-by : (F : Answer → Type 0) (o : Option ℕ) (k : AnswerFaultKind) (sent : ℕ) (old new : Option (List ℕ))
    → AnswersStale old new o (Err (record { kind = k; sent = sent }))
    → ((answer : Answer) → F answer → Sends old new answer.text)
    → RepliesBy (IsStaleOr o F) (reply_of (Err (fault_of_answer_kind k))) old new
err-by F None (kind.Stale n) sent old new stale sends = absurd (cc stale)
err-by F None kind.Device sent old new stale sends = sends
err-by F None kind.OutOfMemory sent old new stale sends = sends
err-by F None kind.OutFailed sent old new stale sends = sends
err-by F (Some m) (kind.Stale n) sent old new stale sends = grind (arith, keeps-appends)
err-by F (Some m) kind.Device sent old new stale sends = λ answer is. keeps-sends _ _ _ stale.1
err-by F (Some m) kind.OutOfMemory sent old new stale sends = let kinds =
    ap (λ f. f.kind) stale.0 in absurd cc
err-by F (Some m) kind.OutFailed sent old new stale sends = let kinds : kind.OutFailed ≡ kind.Stale m =
    ap (λ (f : AnswerFault). f.kind) stale.0 in absurd cc

pub told-by : (t : Table) (s : Search) (h : List (List ℕ)) (old new : Option (List ℕ)) (r : Result ℕ AnswerFault)
    → ((a : TableAnswer) → IsTableAnswer t s (Some h) a → SendsTableAnswer old new a r)
    → AnswersStale old new (stale_archive t.archives h) r
    → RepliesBy (IsAnswerOrStale t s h) (reply_of (run_of_answer r)) old new
told-by t s h old new (Ok count) given fresh = ok-told t s h _ _ _ given fresh
told-by t s h old new (Err fault) given stale =
    err-by _ _ _ _ _ _ stale
    (front-sent t s h _ _ fault given)

-- whatever the archives hold, the messages are counted
pub counted-by : (t : Table) (s : Search) (held : Option (List (List ℕ))) (old new : Option (List ℕ))
    (r : Result ℕ AnswerFault) → ((a : TableAnswer) → IsTableAnswer t s held a → SendsTableAnswer old new a r)
    → IsCountedWhere t s held (reply_of (run_of_answer r)).fault (reply_of (run_of_answer r)) old new
counted-by t s held old new (Err fault) given = tt
counted-by t s held old new (Ok count) given =
    let some = some-chosen t _ _ in
    let went = given (answer_of_numbers t s held some.0) (some.0, some.1, refl) in (
      some.0,
      some.1,
      ap (λ k. record { status = status_of_count k; messages = k; fault = None }) went.2.0,
      went.0,
      went.1,
      went.2.1,
    )
