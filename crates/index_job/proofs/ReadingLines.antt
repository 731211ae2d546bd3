-- The lines of a message, as its archive gives them and as they are gathered.
use Rattle.index_job.proofs.Words.{still_known, ◌≡◌, ◌∙◌, ◌++◌, ℕ, List, [], ◌∷◌, Option, Some, sym, ap, subst, append_assoc, append-nil, arith, Draft, text, size, span_length, CutFault, Line, End, ComingEvents, TakesKnown, MessageText, texts_of_message, Ended, JobFault, Awaited, coming_inside, coming_between, IsReading, HasReadAll, IsMessageFault, HasGathered, IsGatherFault, with_texts, draft_with_terms, RefusesTerms, IsJobFault, IsArchiveFault, message_terms}
use Rattle.index_job.proofs.Gatherings.{texts-fail}
use Rattle.contract_words.proofs.StillKnown.{still-other}

-- what is known to come agrees with the text that is left
after-line : (w : Awaited) (rest : List (List ℕ)) (l : List ℕ) (now' : Option ComingEvents)
    → TakesKnown (Line l) (Some (coming_inside w rest)) now'
    → (left : List (List ℕ)) × (rest ≡ l ∷ left) × (now' ≡ Some (coming_inside w left))
after-line w [] l _ (after, is, takes) = absurd cc
after-line w (l' ∷ left) l _ (after, is, (events, refusal)) = grind arith

after-end : (w : Awaited) (rest : List (List ℕ)) (span told_size : ℕ) (now' : Option ComingEvents)
    → TakesKnown (End span told_size) (Some (coming_inside w rest)) now'
    → (rest ≡ []) × (span ≡ span_length w.message) × (told_size ≡ size w.message)
    × (now' ≡ Some (coming_between w.all w.later w.refusal))
after-end w (l ∷ rest) _ _ _ (after, is, takes) = absurd cc
after-end w [] _ _ _ (after, is, (events, refusal)) = grind arith

-- a fault of gathering is a fault of the job
pub gather-is-job : (whole : Draft) (refusal : Option CutFault) (f : JobFault) → IsGatherFault whole f
    → IsJobFault refusal (RefusesTerms whole) f
gather-is-job _ _ f h = grind arith

pub gather-own : (whole : Draft) (f : JobFault) → IsGatherFault whole f → IsArchiveFault f
gather-own _ f h = grind arith

module _ (d : Draft) (w : Awaited) (ls rest : List (List ℕ)) (gathered : MessageText) (builder : Draft)
    (now now' : Option ComingEvents) (l : List ℕ) where
  -- one more line is read
  pub reads-line : (gathered' : MessageText) (builder' : Draft) → IsReading d w ls rest gathered builder now
      → TakesKnown (Line l) now now'
      → HasGathered gathered' builder' d (ls ++ l ∷ []) → (more left : List (List ℕ))
      × IsReading d w more left gathered' builder' now'
  reads-line gathered' builder' r takes more =
      let b = after-line w rest l now' (subst (λ o. TakesKnown (Line l) o now') r.comes takes) in (
        ls ++ l ∷ [],
        b.0,
        record {
          so_far = more;
          whole = r.whole ∙ ap (λ x. ls ++ x) b.1 ∙ sym (append_assoc ls (l ∷ []) b.0);
          comes = b.2;
        },
      )

  -- a line that gives a fault
  pub line-is-fault : (f : JobFault) → IsReading d w ls rest gathered builder now → TakesKnown (Line l) now now'
      → ((ms : List (List ℕ)) → IsGatherFault (with_texts (texts_of_message (ls ++ l ∷ ms)) d) f) → IsMessageFault d w f
  line-is-fault f r takes fails =
      let b = after-line w rest l now' (subst (λ o. TakesKnown (Line l) o now') r.comes takes) in
      let whole : ls ++ l ∷ b.0 ≡ text w.message = ap (λ x. ls ++ x) (sym b.1) ∙ sym r.whole in
      gather-is-job (draft_with_terms (message_terms (text w.message)) d) w.refusal f (texts-fail (text w.message) d f
      (subst (λ t. IsGatherFault (with_texts (texts_of_message t) d) f) whole (fails b.0)))

-- the end of the message is read
pub reads-end : (d : Draft) (w : Awaited) (ls rest : List (List ℕ)) (gathered : MessageText)
    (builder : Draft) (now now' : Option ComingEvents) (ended : Ended)
    → IsReading d w ls rest gathered builder now → TakesKnown (End ended.length ended.size) now now'
    → HasReadAll d w ended gathered builder now'
reads-end d w ls rest gathered builder _ now' ended r takes =
    let b = after-end w rest ended.length ended.size now'
    (subst (λ o. TakesKnown (End ended.length ended.size) o now') r.comes takes) in
    let all : ls ≡ text w.message = cc (append-nil _) in
    grind arith

-- what is read of a message's text, if it is still known what is to come
pub still-reading : {T C : Type 0} (d : Draft) (w : Awaited) (ls rest : List (List ℕ)) (gathered : MessageText)
    (builder : Draft) (first : Option T) (now : Option ComingEvents) (last : Option C) (x : T)
    → still_known first last ≡ Some x → IsReading d w ls rest gathered builder now
    → IsReading d w ls rest gathered builder (still_known now last)
still-reading d w ls rest gathered builder first now last x known r = rw (still-other _ _ _ x known) r
