-- Tables that differ only in their digests are searched in the same way, because nothing that a search does or finds
-- depends on a digest.
use Rattle.mairix_tool.proofs.Words.{◌≡◌, ◌∙◌, ℕ, ◌<◌, List, [], ◌∷◌, length, map, take, Option, None, Some, Result, Ok, Err, IfSome, IfErr, min, refl, sym, ap, subst, length-map, option_map, option_map_or, slice_get, Archive, Table, but_digests, without_digest, Search, AreChosen, mail_of_table, known_answer, stale_archive, Fault, Reply, IsCountedWhere, Format, Raw, Excerpt, TableAnswer, IsTableAnswer, AnswersStale, Mbox, table, entry_of_archive}
use Rattle.std.specs.Prelude.{◌≢◌}
use Rattle.std.proofs.lemmas.List.{take-map}
use Rattle.std.proofs.lemmas.Option.{slice_get-map}
use Rattle.index_job.specs.ArchiveTables.{entry_by, table_by}
use Rattle.mail_answer.specs.Asked.{Agree, AsksUpTo, FindsLengths, GoesOnWith, ReadsInOrder, TellLengths, indexed_lengths, IsArchiveOfChosen}
use Rattle.mail_answer.specs.Answers.{SendsSpans}
use Rattle.mail_answer.specs.Faults.{IfStale}
use Rattle.mail_answer.specs.MessageReads.{ReadsChosen}
use Rattle.mail_answer.specs.Sheets.{IsIfKnown}
use Rattle.mail_answer.specs.Stale.{length_in_table}
use Rattle.mail_answer.specs.declared.archives.Archives.{Ghosts}
use Rattle.mail_answer.specs.declared.fault.AnswerFault.{AnswerFault}
use Rattle.mail_answer.specs.declared.fault.AnswerFaultKind.{AnswerFaultKind}
use Rattle.mail_answer.specs.declared.fault.AnswerFaultKind.TheVariants.{Stale, Device, OutOfMemory, OutFailed}
use Rattle.mail_answer.specs.declared.format.Format.TheVariants.{Mbox as MboxFormat}
use Rattle.mail_index.specs.declared.digests.Digests.{Digests}
use Rattle.mbox_cutter.specs.declared.device.DeviceFault.{DeviceFault}
use Rattle.mbox_cutter.specs.declared.device.Out.{Ghosts as OutGhosts}
use Rattle.mairix_tool.specs.Searching.{Searches}
use Rattle.mairix_tool.proofs.TableLaws.OldTables.{stale-old, text-undigested}

-- ---- tables of the same archives

entries-same : (digests : Digests) (archives : List Mbox) → map without_digest (map (entry_by digests) archives)
    ≡ map without_digest (map entry_of_archive archives)
entries-same digests [] = refl
entries-same digests (a ∷ archives) =
    ap (λ l. without_digest (entry_of_archive a) ∷ l) (entries-same _ archives)

pub same-but-digests : (digests : Digests) (archives : List Mbox) → but_digests (table_by digests archives)
    ≡ but_digests (table archives)
same-but-digests digests archives = ap (λ l. record (table archives) { archives = l })
    (entries-same _ _)

-- ---- what is read of archives without digests

lengths-without : (named : List Archive) → indexed_lengths (map without_digest named) ≡ indexed_lengths named
lengths-without [] = refl
lengths-without (a ∷ named) = ap (λ l. a.length ∷ l) (lengths-without named)

front-without : (named : List Archive) (count : ℕ) → indexed_lengths (take count (map without_digest named))
    ≡ indexed_lengths (take count named)
front-without named count = ap indexed_lengths (take-map without_digest count named)
    ∙ lengths-without _

length-without : (named : List Archive) (n : ℕ) → length_in_table (map without_digest named) n
    ≡ length_in_table named n
length-without named n =
    ap (λ o. option_map_or (λ a. a.length) o 0) (slice_get-map without_digest named n)
    ∙ go (slice_get named n)
  where
    go : (o : Option Archive) → option_map_or (λ a. a.length) (option_map without_digest o) 0
        ≡ option_map_or (λ a. a.length) o 0
    go None = refl
    go (Some a) = refl

known-without : (format : Format) (t : Table) (held : Option (List (List ℕ))) (numbers : List ℕ)
    → known_answer format (but_digests t) held numbers ≡ known_answer format t held numbers
known-without Raw t held numbers = ap Some (text-undigested t Raw [] _)
known-without Excerpt t None numbers = refl
known-without Excerpt t (Some held) numbers = ap Some (text-undigested t Excerpt held _)
known-without MboxFormat t held numbers = refl

-- ---- two tables that differ only in their digests

module _ (t u : Table) (same : but_digests t ≡ but_digests u) where
  named-same : map without_digest t.archives ≡ map without_digest u.archives
  named-same = ap (λ v. v.archives) same

  many-same : length t.archives ≡ length u.archives
  many-same = sym (length-map t.archives without_digest) ∙ ap length named-same ∙ length-map u.archives without_digest

  front-same : (count : ℕ) → indexed_lengths (take count t.archives) ≡ indexed_lengths (take count u.archives)
  front-same count = sym (front-without _ _)
      ∙ ap (λ l. indexed_lengths (take count l)) named-same ∙ front-without _ _

  length-same : (n : ℕ) → length_in_table t.archives n ≡ length_in_table u.archives n
  length-same n = sym (length-without _ n) ∙ ap (λ l. length_in_table l n) named-same
      ∙ length-without _ n

  stale-same : (held : List (List ℕ)) → stale_archive t.archives held ≡ stale_archive u.archives held
  stale-same held = sym (stale-old t.archives _) ∙ ap (λ l. stale_archive l held) named-same
      ∙ stale-old u.archives _

  known-same : (format : Format) (held : Option (List (List ℕ))) (numbers : List ℕ) → known_answer format t held numbers
      ≡ known_answer format u held numbers
  known-same format held numbers = sym (known-without _ t _ _)
      ∙ ap (λ v. known_answer format v held numbers) same ∙ known-without _ u _ _

  chosen-same : (s : Search) (numbers : List ℕ) → AreChosen (mail_of_table t) s numbers
      → AreChosen (mail_of_table u) s numbers
  chosen-same s numbers chosen = subst (λ v. AreChosen (mail_of_table v) s numbers) same chosen

  chosen-back : (s : Search) (numbers : List ℕ) → AreChosen (mail_of_table u) s numbers
      → AreChosen (mail_of_table t) s numbers
  chosen-back s numbers chosen = subst (λ v. AreChosen (mail_of_table v) s numbers) (sym same) chosen

  pub counted-alike : (s : Search) (held : Option (List (List ℕ))) (fault : Option Fault) (reply : Reply)
      (old new : Option (List ℕ)) → IsCountedWhere t s held fault reply old new
      → IsCountedWhere u s held fault reply old new
  counted-alike s held (Some fault) reply old new counted = tt
  counted-alike s held None reply old new (numbers, chosen, replied, text, known, sent) =
      let same-text = subst (λ o. IsIfKnown o text) (known-same _ _ _) known in
      (numbers, chosen-same s _ chosen, replied, text, same-text, sent)

  module _ {A : Type 0} (g : Ghosts A) where
    agree-alike : (count : ℕ) (old new : A) → Agree g t.archives count old new → Agree g u.archives count old new
    agree-alike count old new agree = record {
      told = subst (λ l. TellLengths g 0 l old new) (front-same _) agree.told;
      known = subst (λ l. IfSome (g.held new) (λ archives. map length (take count archives) ≡ l))
          (front-same _) agree.known;
    }

    asks-alike : (n : ℕ) (answer : Result ℕ DeviceFault) (old new : A) → AsksUpTo g t.archives n answer old new
        → AsksUpTo g u.archives n answer old new
    asks-alike n answer old new asked = record {
      exists = subst (λ k. n < k) many-same asked.exists;
      before = asked.before;
      agree = agree-alike n _ _ asked.agree;
      last = asked.last;
      held = asked.held;
    }

    finds-alike : {T : Type 0} (old new : A) (told : Result T AnswerFaultKind) → FindsLengths g t.archives old new told
        → FindsLengths g u.archives old new told
    finds-alike old new (Ok x) agree = subst (λ k. Agree g u.archives k old new) many-same
        (agree-alike _ _ _ agree)
    finds-alike old new (Err (Stale n)) (other, differs, asked) =
        (other, subst (λ k. other ≢ k) (length-same n) differs, asks-alike n _ _ _ asked)
    finds-alike old new (Err Device) (n, fault, asked) = (n, fault, asks-alike n _ _ _ asked)
    finds-alike old new (Err OutOfMemory) never = never
    finds-alike old new (Err OutFailed) never = never

    goes-on-alike : (s : Search) (told : Result (Unit {0}) AnswerFaultKind) (found new : A)
        (result : Result ℕ AnswerFault) → GoesOnWith g t s told found new result
        → GoesOnWith g u s told found new result
    goes-on-alike s (Err kind) found new result goes = goes
    goes-on-alike s (Ok x) found new result goes = record {
      held = goes.held;
      once = goes.once;
      raw = goes.raw;
      stale = subst (λ v. IfErr result (λ fault. IfStale fault.kind (IsArchiveOfChosen v s))) same goes.stale;
      messages = subst (λ v. ReadsChosen g v s found new result) same goes.messages;
    }

    order-alike : (s : Search) (old new : A) (result : Result ℕ AnswerFault) → ReadsInOrder g t s old new result
        → ReadsInOrder g u s old new result
    order-alike s old new result order = record {
      other_count = λ other. subst
          (λ k. (result ≡ Err (record { kind = Stale (min (g.number old) k); sent = 0 })) × (new ≡ old)) many-same
          (order.other_count (λ e. other (e ∙ many-same)));
      same_count = λ e.
          let first = order.same_count (e ∙ sym many-same) in
          let asked = first.lengths in
          record {
            lengths = (
              asked.0,
              asked.1,
              finds-alike _ _ _ asked.2,
              goes-on-alike s _ _ _ _ asked.3,
            );
            below = subst (λ k. IfErr result (λ fault. IfStale fault.kind (λ n. n < k))) many-same first.below;
          };
    }

    answer-back : (s : Search) (held : Option (List (List ℕ))) (a : TableAnswer) → IsTableAnswer u s held a
        → IsTableAnswer t s held a
    answer-back s held a (numbers, chosen, is) = (
      numbers,
      chosen-back s _ chosen,
      is ∙ ap (λ o. record { text = o; messages = length numbers })
          (sym (known-same _ _ _)),
    )

    stale-alike : (before after : Option (List ℕ)) (held : Option (List (List ℕ))) (found : Result ℕ AnswerFault)
        → IfSome held (λ bytes. AnswersStale before after (stale_archive t.archives bytes) found)
        → IfSome held (λ bytes. AnswersStale before after (stale_archive u.archives bytes) found)
    stale-alike before after None found told = tt
    stale-alike before after (Some held) found told =
        subst (λ o. AnswersStale before after o found) (stale-same _) told

    pub searches-alike : {O : Type 0} (h : OutGhosts O) (s : Search) (old new : A) (before after : O) (reply : Reply)
        → Searches g h t s old new before after reply → Searches g h u s old new before after reply
    searches-alike h s old new before after reply searched = record {
      found = searched.found;
      replied = searched.replied;
      answered = λ a is. searched.answered a (answer-back s _ a is);
      spans = λ mbox numbers chosen.
          subst (λ v. SendsSpans (h.taken before) (h.taken after) v numbers searched.found) same
          (searched.spans mbox numbers (chosen-back s _ chosen));
      stale = stale-alike _ _ _ _ searched.stale;
      unsent = searched.unsent;
      order = order-alike s _ _ _ searched.order;
      keeps = searched.keeps;
    }
