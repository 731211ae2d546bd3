-- What gathering one more line, or the end, makes of a builder's draft.
use Rattle.index_job.proofs.Words.{◌≡◌, false, ◌∙◌, ℕ, List, [], ◌∷◌, ◌++◌, flat_map, sym, ap, subst, append-nil, arith, ◌⊎◌, Result, Ok, Err, IfErr, flat_map-append, fields_of, Draft, TextKind, MessageText, Facts, facts_of, Pair, TakesAll, Breaks, texts_of_message, JobFault, with_texts, HasGathered, IsGatherFault, draft_with_terms, RefusesTerms, IsOpenAt, of_text, Term, text_terms, id_terms, message_terms, with_waiting, BuildFault, IsFaultOfAdding}
use Rattle.mime_text.specs.declared.fault.SinkFault.{SinkFault}
use Rattle.mime_text.specs.declared.fault.SinkFault.TheVariants as sink
use Rattle.mime_text.specs.declared.fault.TextFault.{TextFault}
use Rattle.mime_text.specs.declared.fault.TextFault.TheVariants as text
use Rattle.mime_text.specs.Fed.{Feeds, FeedsPart, FinishesTexts, FinishesPart, has_ended}
use Rattle.index_job.specs.JobFaults.{of_build}
use Rattle.index_job.specs.declared.job_fault.JobFault.TheVariants.{TooMany}
use Rattle.mail_index.specs.declared.build.build_fault.BuildFault.TheVariants as build
use Rattle.index_job.specs.declared.term_sink.TermSink.{TermSink}
use Rattle.index_job.proofs.Terms.{joined, still-refuses}

-- the draft with all that a sink was given
abbrev pub gathered_in : TermSink → Draft
gathered_in sink = with_waiting sink.room.now.waiting sink.builder.now

-- how a sink takes a text, and how it refuses one
abbrev pub Takes : TermSink → TextKind → List ℕ → TermSink → Type 0
Takes old kind text new = (new.builder.ghost_name ≡ old.builder.ghost_name)
    × (new.room.ghost_name ≡ old.room.ghost_name)
    × (gathered_in new ≡ draft_with_terms (text_terms (kind, text)) (gathered_in old))

abbrev pub Refuses : TermSink → TextKind → List ℕ → SinkFault → TermSink → Type 0
Refuses old kind text fault new =
    (fault ≡ sink.OutOfMemory) ⊎ ((fault ≡ sink.Refused)
    × RefusesTerms (draft_with_terms (text_terms (kind, text)) (gathered_in old)))

with_texts-append : (ps qs : List Pair) (d : Draft) → with_texts (ps ++ qs) d ≡ with_texts qs (with_texts ps d)
with_texts-append _ _ d = grind (arith, flat_map-append, joined, flat_map)

taken : (ps : List Pair) (old new : TermSink) → TakesAll Takes Refuses ps old new → gathered_in new
    ≡ with_texts ps (gathered_in old)
taken [] _ _ h = ap gathered_in h
taken (p ∷ ps) old new h = taken ps h.0 new h.2 ∙ ap (with_texts ps) h.1.2
    ∙ sym (joined (text_terms p) (flat_map text_terms ps) (gathered_in old))

-- the builder is the same one
same-builder : (ps : List Pair) (old new : TermSink) → TakesAll Takes Refuses ps old new → old.builder.ghost_name
    ≡ new.builder.ghost_name
same-builder [] _ _ h = cc
same-builder (p ∷ ps) _ new h = sym h.1.0 ∙ same-builder ps h.0 new h.2

-- and so is the room
same-room : (ps : List Pair) (old new : TermSink) → TakesAll Takes Refuses ps old new → old.room.ghost_name
    ≡ new.room.ghost_name
same-room [] _ _ h = cc
same-room (p ∷ ps) _ new h = sym h.1.1 ∙ same-room ps h.0 new h.2

-- This draft is left in the references of a sink, because they are the same ones.
abbrev pub Leaves : TermSink → TermSink → Draft → Type 0
Leaves old new left = old.builder.ghost_name ≡ new.builder.ghost_name → old.room.ghost_name ≡ new.room.ghost_name
    → left ≡ gathered_in new

left-all : (ps : List Pair) (old new : TermSink) (left : Draft) → TakesAll Takes Refuses ps old new
    → Leaves old new left → left ≡ with_texts ps (gathered_in old)
left-all ps old new _ h leaves = leaves (same-builder _ _ _ h) (same-room _ _ _ h) ∙ taken _ _ _ h

-- if a draft refuses the terms of some of the texts, it refuses those of all
more-refuse : (ps qs : List Pair) (d : Draft) → RefusesTerms (with_texts ps d)
    → RefusesTerms (with_texts (ps ++ qs) d)
more-refuse ps qs d h = subst RefusesTerms (sym (with_texts-append ps qs d))
    (still-refuses (flat_map text_terms qs) (with_texts ps d) h)

-- if the last of some texts was refused, so are all texts with others before and after them
last-refused : (front : List Pair) (last : Pair) (d o : Draft) (before later : List Pair)
    → o ≡ with_texts front (with_texts before d) → RefusesTerms (draft_with_terms (text_terms last) o)
    → RefusesTerms (with_texts ((before ++ (front ++ last ∷ [])) ++ later) d)
last-refused front last d o before later is h =
    let ps : List Pair = before ++ (front ++ last ∷ []) in
    let whole : with_texts ps d ≡ draft_with_terms (text_terms last) o =
    cc (
      with_texts-append before (front ++ last ∷ []) d,
      with_texts-append front (last ∷ []) (with_texts before d),
      append-nil (text_terms last),
    ) in
    more-refuse ps later d (subst RefusesTerms (sym whole) h)

-- these texts were given, and the next gave a fault
broken : (f : TextFault) (ps : List Pair) (old new : TermSink) (d : Draft) (before later : List Pair)
    → Breaks Takes Refuses f ps old new → gathered_in old ≡ with_texts before d
    → IsGatherFault (with_texts ((before ++ ps) ++ later) d) (of_text f)
broken text.OutOfMemory ps old new d before later h is = tt
broken text.Failed ps old new d _ _ h _ = h
broken (text.Sink fault) ps old _ d before later (front, last, reached, whole, takes, refuses) is =
    grind (arith, last-refused, taken, with_texts)

-- one more line is gathered
pub gathers-line : (text text' : MessageText) (old new : TermSink) (line : List ℕ) (left : Draft)
    → Feeds Takes Refuses text text' line old new → Leaves old new left
    → (ls : List (List ℕ)) (d : Draft) → HasGathered text (gathered_in old) d ls
    → HasGathered text' left d (ls ++ line ∷ [])
gathers-line _ _ old new _ left h leaves ls d g = record {
  pairs = g.pairs ++ h.pairs;
  fed = h.fed ls g.pairs g.fed;
  added = cc (left-all _ _ _ _ h.taken leaves, with_texts-append _ _ d);
}

-- a line that gives a fault
pub line-fails : {T : Type 0} (r : Result T TextFault) (text : MessageText) (old new : TermSink) (line : List ℕ)
    → (has_ended text ≡ false → IfErr r (λ f. FeedsPart Takes Refuses text line f old new))
    → IfErr r (λ f. (ls ms : List (List ℕ)) (d : Draft) → HasGathered text (gathered_in old) d ls
    → IsGatherFault (with_texts (texts_of_message (ls ++ line ∷ ms)) d) (of_text f))
line-fails (Ok x) _ _ _ _ h = tt
line-fails (Err f) _ old new _ h = λ ls ms d g.
    let part = h g.fed.live in
    let rest = part.front ls g.pairs g.fed ms in
    rw rest.1 (broken f _ _ _ d _ _ part.broken g.added)

-- the end of the text
pub gathers-end : (text : MessageText) (old new : TermSink) (left : Draft)
    → FinishesTexts Takes Refuses text old new → Leaves old new left
    → (ls : List (List ℕ)) (d : Draft) → HasGathered text (gathered_in old) d ls → left
    ≡ with_texts (texts_of_message ls) d
gathers-end _ old new left h leaves ls d g = left-all _ _ _ _ h.taken leaves ∙ ap (with_texts h.pairs) g.added
    ∙ sym (with_texts-append _ _ d) ∙ ap (λ ps. with_texts ps d) (sym (h.whole ls g.pairs g.fed))

-- an end that gives a fault
pub end-fails : {T : Type 0} (r : Result T TextFault) (text : MessageText) (old new : TermSink)
    → (has_ended text ≡ false → IfErr r (λ f. FinishesPart Takes Refuses text f old new))
    → IfErr r (λ f. (ls : List (List ℕ)) (d : Draft) → HasGathered text (gathered_in old) d ls
    → IsGatherFault (with_texts (texts_of_message ls) d) (of_text f))
end-fails (Ok x) _ _ _ h = tt
end-fails (Err f) _ old new h = λ ls d g.
    let part = h g.fed.live in
    let rest = part.front ls g.pairs g.fed in
    rw rest.1 (broken f _ _ _ d _ _ part.broken g.added)

-- ---- a whole message

-- the texts of a message, and then its ids
texts-and-ids : (ls : List (List ℕ)) (d : Draft)
    → draft_with_terms (message_terms ls) d
    ≡ draft_with_terms (id_terms (facts_of (fields_of ls))) (with_texts (texts_of_message ls) d)
texts-and-ids ls d = joined (flat_map text_terms (texts_of_message ls)) (id_terms (facts_of (fields_of ls))) d

still-gather-fails : (us : List Term) (o : Draft) (f : JobFault) → IsGatherFault o f
    → IsGatherFault (draft_with_terms us o) f
still-gather-fails _ o f h = grind (arith, still-refuses)

-- a fault of the texts is one of the message
pub texts-fail : (ls : List (List ℕ)) (d : Draft) (f : JobFault)
    → IsGatherFault (with_texts (texts_of_message ls) d) f
    → IsGatherFault (draft_with_terms (message_terms ls) d) f
texts-fail ls d f h = subst (λ o. IsGatherFault o f) (sym (texts-and-ids _ d))
    (still-gather-fails (id_terms (facts_of (fields_of ls))) (with_texts (texts_of_message ls) d) f h)

-- so is a fault of adding the waiting lines
pub waiting-fail : (ls : List (List ℕ)) (d whole : Draft) (f : BuildFault) → whole.failed ≡ false
    → whole ≡ with_texts (texts_of_message ls) d → IsFaultOfAdding whole f
    → IsGatherFault (draft_with_terms (message_terms ls) d) (of_build f)
waiting-fail ls d whole build.OutOfMemory kept is h = tt
waiting-fail ls d whole build.TooMany kept is h = texts-fail ls d TooMany (subst RefusesTerms is h)
waiting-fail _ d _ _ kept is h = absurd cc

-- the message is still open after its texts
pub open-after : (archive place : ℕ) (ls : List (List ℕ)) (d : Draft) (builder : Draft) → builder
    ≡ with_texts (texts_of_message ls) d → IsOpenAt archive place d → IsOpenAt archive place builder
open-after _ _ _ d _ is h = grind (arith, flat_map)

module _ (facts : Facts) (text : MessageText) (old mid : Draft)
    (facts-are : (ls : List (List ℕ)) (d : Draft) → HasGathered text old d ls → facts ≡ facts_of (fields_of ls))
    (texts-are : (ls : List (List ℕ)) (d : Draft) → HasGathered text old d ls → mid
    ≡ with_texts (texts_of_message ls) d) where
  ids-fail-of : (f : JobFault) → IsGatherFault (draft_with_terms (id_terms facts) mid) f
      → (ls : List (List ℕ)) (d : Draft) → HasGathered text old d ls
      → IsGatherFault (draft_with_terms (message_terms ls) d) f
  ids-fail-of f h ls d g =
      subst (λ o. IsGatherFault o f)
      (ap (λ (x : Facts). draft_with_terms (id_terms x) mid) (facts-are ls d g)
      ∙ ap (draft_with_terms (id_terms (facts_of (fields_of ls)))) (texts-are ls d g)
      ∙ sym (texts-and-ids ls d))
      h

-- a fault of the ids is one of the message
pub ids-fail : {T : Type 0} (r : Result T JobFault) (facts : Facts) (text : MessageText) (old mid : Draft)
    → ((ls : List (List ℕ)) (d : Draft) → HasGathered text old d ls → facts ≡ facts_of (fields_of ls))
    → ((ls : List (List ℕ)) (d : Draft) → HasGathered text old d ls → mid ≡ with_texts (texts_of_message ls) d)
    → IfErr r (IsGatherFault (draft_with_terms (id_terms facts) mid))
    → IfErr r (λ f. (ls : List (List ℕ)) (d : Draft) → HasGathered text old d ls
    → IsGatherFault (draft_with_terms (message_terms ls) d) f)
ids-fail (Ok x) _ _ _ _ _ _ h = tt
ids-fail (Err f) facts text old mid facts-are texts-are h = ids-fail-of facts text old mid facts-are texts-are f h
