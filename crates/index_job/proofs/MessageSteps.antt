-- What reading a whole message makes of a builder's draft.
use Rattle.index_job.proofs.Words.{◌≡◌, ◌∙◌, ◌+◌, ◌++◌, false, ℕ, nat_eq, if◌then◌else◌, List, [], ◌∷◌, Option, refl, sym, subst, arith, Result, Ok, Err, IfErr, OnOk, fields_of, Record, Draft, end_of, IsInArchive, Message, text, size, span_length, ComingEvents, Facts, MessageText, facts_of, texts_of_message, JobFault, Span, Awaited, HasReadAll, IsMessageFault, AddsMessage, HasGathered, IsGatherFault, with_texts, draft_with_terms, draft_with_messages, draft_in_message, HasTooMany, IsReadyForMessage, IsOpenAt, IsJobFault, IsArchiveFault, ended_with, Term, text_terms, message_terms}
use Rattle.index_job.proofs.Terms.{with_terms-append}
use Rattle.index_job.proofs.ReadingLines.{gather-own, gather-is-job}
use Rattle.std.specs.List.{flat_map}

-- the last message decides where messages end
end_of-last : (n : ℕ) (rs : List Record) (r : Record) → end_of n (rs ++ r ∷ [])
    ≡ (if nat_eq r.archive n then r.offset + r.length else 0)
end_of-last n [] r = refl
end_of-last n (s ∷ []) r = refl
end_of-last n (s ∷ t ∷ rs) r = end_of-last n (t ∷ rs) r

-- ---- faults

-- a fault of a message is that the draft would have too much
pub message-fault : (archive : ℕ) (d : Draft) (w : Awaited) (f : JobFault) → d.failed ≡ false
    → IsMessageFault (draft_in_message d) w f
    → IsJobFault w.refusal (HasTooMany (draft_with_messages archive (w.message ∷ []) d)) f
message-fault _ d w f kept h = grind arith

-- ---- the open message

pub opens : (archive place : ℕ) (d : Draft) → IsReadyForMessage archive place d
    → IsOpenAt archive place (draft_in_message d)
opens archive _ d h = grind arith

-- ---- its end

module _ (span : Span) (d : Draft) where
  -- the draft at the end of a message is ready for the next
  pub ended-ready : (facts : Facts) (ts : List Term) → IsReadyForMessage span.archive span.offset d
      → IsReadyForMessage span.archive (span.offset + span.length)
      (ended_with facts span (draft_with_terms ts (draft_in_message d)))
  ended-ready facts ts h = grind (arith, end_of-last)

  pub ready-after : {T : Type 0} (place : ℕ) (r : Result T JobFault) (gathered : MessageText)
      (builder new : Draft) (ls : List (List ℕ)) → HasGathered gathered builder (draft_in_message d) ls
      → IsReadyForMessage span.archive span.offset d → place ≡ span.offset + span.length
      → OnOk r ((ls : List (List ℕ)) (d : Draft) → HasGathered gathered builder d ls → new
      ≡ ended_with (facts_of (fields_of ls)) span (with_texts (texts_of_message ls) d))
      → OnOk r (IsReadyForMessage span.archive place new)
  ready-after place (Err f) gathered builder new ls g h at is = tt
  ready-after place (Ok x) gathered builder new ls g h at is =
      subst (IsReadyForMessage span.archive place) (sym (is ls (draft_in_message d) g))
      (rw at (ended-ready (facts_of (fields_of ls)) (flat_map text_terms (texts_of_message ls)) h))

  -- if the message is known, the draft is the one with that message
  ended-is : (m : Message) → d.failed ≡ false → IsInArchive d → m.offset ≡ span.offset → span.length ≡ span_length m
      → span.size ≡ size m → ended_with (facts_of (fields_of (text m))) span
      (draft_with_terms (flat_map text_terms (texts_of_message (text m))) (draft_in_message d))
      ≡ draft_with_messages span.archive (m ∷ []) d
  ended-is m kept phase offset length-is size-is = grind (arith, with_terms-append)

  pub adds-message : {T : Type 0} (w : Awaited) (coming : Option ComingEvents) (r : Result T JobFault)
      (gathered : MessageText) (builder new : Draft) → d.failed ≡ false → IsInArchive d → w.message.offset ≡ span.offset
      → HasReadAll (draft_in_message d) w (record { length = span.length; size = span.size }) gathered builder
      coming
      → OnOk r ((ls : List (List ℕ)) (d : Draft) → HasGathered gathered builder d ls → new
      ≡ ended_with (facts_of (fields_of ls)) span (with_texts (texts_of_message ls) d))
      → IfErr r (λ f. (ls : List (List ℕ)) (d : Draft) → HasGathered gathered builder d ls
      → IsGatherFault (draft_with_terms (message_terms ls) d) f)
      → AddsMessage span.archive d w r new coming
  adds-message w coming (Ok x) gathered builder new kept phase offset h is fails = (
    is (text w.message) (draft_in_message d) h.whole
        ∙ ended-is w.message kept phase offset h.length h.told_size,
    h.comes,
  )
  adds-message w coming (Err f) gathered builder new kept phase offset h is fails =
      message-fault span.archive d w f kept (gather-is-job
      (draft_with_terms (message_terms (text w.message)) (draft_in_message d)) w.refusal f
      (fails (text w.message) (draft_in_message d) h.whole))

-- a fault inside the message, whatever is to come
pub own-fault : {T : Type 0} (r : Result T JobFault) (gathered : MessageText) (builder d : Draft) (ls : List (List ℕ))
    → HasGathered gathered builder d ls
    → IfErr r (λ f. (ls : List (List ℕ)) (d : Draft) → HasGathered gathered builder d ls
    → IsGatherFault (draft_with_terms (message_terms ls) d) f) → IfErr r IsArchiveFault
own-fault (Ok x) _ _ d _ g _ = tt
own-fault (Err f) _ _ d ls g fails = gather-own (draft_with_terms (message_terms ls) d) f (fails ls d g)
