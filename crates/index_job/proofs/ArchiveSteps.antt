-- What reading an archive's messages, one after another, makes of a builder's draft.
use Rattle.index_job.proofs.Words.{◌≡◌, ◌∙◌, ◌+◌, ◌≤◌, ◌++◌, ℕ, suc, List, [], ◌∷◌, length, Option, Some, option_map, unwrap_or, refl, sym, ap, subst, arith, append_assoc, append-nil, ⊎_elim, Ok, length-map, map-append, Draft, Key, Message, text, CutFault, ComingEvents, JobFault, coming_ahead, Heads, AddsMessages, HasDone, with_terms, with_messages, draft_with_messages, HasTooMany, IsJobFault, message_terms}
use Rattle.std.proofs.lemmas.List.{length-append}
use Rattle.index_job.specs.declared.archive_reading.Heading.TheVariants as heading
use Rattle.index_job.proofs.Terms.{with_terms-more}

-- ---- keys of messages

pub with_messages-append : (n : ℕ) (xs ys : List Message) (ks : List Key) → with_messages n (xs ++ ys) ks
    ≡ with_messages (n + length xs) ys (with_messages n xs ks)
with_messages-append n [] ys ks = ap (λ k. with_messages k ys ks) (omega arith)
with_messages-append n (m ∷ xs) ys ks = grind
    (arith, with_messages-append (suc n) xs ys (with_terms n (message_terms (text m)) ks))

pub with_messages-more : (n : ℕ) (ms : List Message) (ks : List Key) → length ks ≤ length (with_messages n ms ks)
with_messages-more n [] _ = omega arith
with_messages-more n (m ∷ ms) ks = grind
    (arith, with_terms-more, with_messages-more (suc n) ms (with_terms n (message_terms (text m)) ks))

-- ---- drafts

module _ (number : ℕ) where
  pub no-messages : (d : Draft) → draft_with_messages number [] d ≡ d
  no-messages d = ap (λ rs. record d { table = record d.table { messages = rs } }) (append-nil d.table.messages)

  -- adding messages in two steps is adding them at once
  pub then-messages : (xs ys : List Message) (d : Draft) → draft_with_messages number (xs ++ ys) d
      ≡ draft_with_messages number ys (draft_with_messages number xs d)
  then-messages xs ys d = grind (arith, length-append, length-map, map-append, append_assoc, with_messages-append)

  -- a draft with too much has too much with more messages, too
  still-too-many : (ys : List Message) (d : Draft) → HasTooMany d → HasTooMany (draft_with_messages number ys d)
  still-too-many ys d h = grind (arith, ⊎_elim, length-append, with_messages-more)

-- ---- faults

pub weaker : (refusal : Option CutFault) (A B : Type 0) → (A → B) → (f : JobFault) → IsJobFault refusal A f
    → IsJobFault refusal B f
weaker _ A B h f h2 = grind arith

-- ---- an archive, message by message

module _ (number : ℕ) (d : Draft) (all : ℕ) (ms : Option (List Message)) (refusal : Option CutFault) where
  abbrev pub whole_draft : Draft
  whole_draft = draft_with_messages number (unwrap_or ms []) d

  -- before the first message none is done
  pub done-none : (coming : Option ComingEvents) → coming ≡ Some (coming_ahead all ms refusal)
      → HasDone number d all ms refusal 0 d coming
  done-none coming comes = record {
    done = [];
    rest = ms;
    whole = same ms;
    counted = refl;
    added = sym (no-messages number d);
    comes = comes;
  }
    where
      same : (o : Option (List Message)) → o ≡ option_map (λ later. [] ++ later) o
      same o = grind arith

  module _ (count : ℕ) (builder : Draft) (coming : Option ComingEvents)
      (h : HasDone number d all ms refusal count builder coming) where
    -- a fault between two messages is a fault of the archive
    pub between-fault : (f : JobFault) → IsJobFault refusal ⊥ f → IsJobFault refusal (HasTooMany whole_draft) f
    between-fault f = weaker refusal ⊥ (HasTooMany whole_draft) (λ never. elim never [ ]) f

    module _ (start : ℕ) (next : Option ComingEvents) (m : Message) (later : List Message)
        (rest-is : h.rest ≡ Some (m ∷ later)) where
      ms-is : ms ≡ Some ((h.done ++ m ∷ []) ++ later)
      ms-is = h.whole ∙ ap (option_map (λ l. h.done ++ l)) rest-is ∙ ap Some (sym (append_assoc h.done (m ∷ []) later))

      -- a fault inside a message is a fault of the archive
      pub inside-fault : (f : JobFault) → IsJobFault refusal
          (HasTooMany (draft_with_messages number (m ∷ []) (draft_with_messages number h.done d))) f
          → IsJobFault refusal (HasTooMany whole_draft) f
      inside-fault f =
          weaker refusal _ (HasTooMany whole_draft)
          (λ much. subst HasTooMany
          (sym (then-messages number (h.done ++ m ∷ []) later d)
          ∙ ap (λ o. draft_with_messages number (unwrap_or o []) d) (sym ms-is))
          (still-too-many number later (draft_with_messages number (h.done ++ m ∷ []) d)
          (subst HasTooMany (sym (then-messages number h.done (m ∷ []) d)) much)))
          f

      -- after one more message, that one is done too
      pub done-more : (builder' : Draft) (coming' : Option ComingEvents) → builder'
          ≡ draft_with_messages number (m ∷ []) (draft_with_messages number h.done d)
          → coming' ≡ Some (coming_ahead all (Some later) refusal)
          → HasDone number d all ms refusal (count + 1) builder' coming'
      done-more builder' coming' is comes = record {
        done = h.done ++ m ∷ [];
        rest = Some later;
        whole = ms-is;
        counted = omega (arith, h.counted, length-append h.done (m ∷ []));
        added = is ∙ sym (then-messages number h.done (m ∷ []) d);
        comes = comes;
      }

    -- at the archive's end all messages are done
    pub archive-done : (bytes : ℕ) → Heads (heading.End bytes) all h.rest refusal coming
        → AddsMessages number d all ms refusal (Ok (record { messages = count; length = bytes })) builder
    archive-done bytes (none, same, sound) = grind (arith, unwrap_or, option_map, append-nil)
