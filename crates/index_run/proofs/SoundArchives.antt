-- Sound archives aren't refused, because the counts of a front of them are no larger.
use Rattle.index_run.proofs.Words.{◌≡◌, ◌∙◌, ◌+◌, ◌<◌, ◌≤◌, ◌++◌, List, [], ◌∷◌, length, All, get_or, None, Some, sym, ap, subst, arith, append_assoc, ⊎_elim, length-append, length-map, All-get_or, get_or-append_seam, CutFault, archive_refusal, Fault, most_in_archive, AreSound, IsTooMuch, IsWithinLimit, Mbox, table, all_messages, messages_in, with_messages, entry_of_archive, RefusesArchives}
use Rattle.std.proofs.lemmas.Grind.{flat_map-append}
use Rattle.run_faults.specs.declared.fault.Fault.TheVariants as of
use Rattle.index_job.proofs.ArchiveSteps.{with_messages-append, with_messages-more}
use Rattle.index_job.proofs.TableSteps.{records-count}

-- more archives make the counts of a table no smaller
messages-grow : (xs ys : List Mbox) → length (table xs).messages ≤ length (table (xs ++ ys)).messages
messages-grow xs ys =
    omega (
      arith,
      records-count 0 xs,
      records-count 0 (xs ++ ys),
      ap length (flat_map-append (λ (a : Mbox). messages_in a.bytes) xs ys),
      length-append (all_messages xs) (all_messages ys),
    )

keys-grow : (xs ys : List Mbox) → length (table xs).keys ≤ length (table (xs ++ ys)).keys
keys-grow xs ys =
    omega (
      arith,
      with_messages-more (0 + length (all_messages xs)) (all_messages ys) (with_messages 0 (all_messages xs) []),
      ap (λ ms. length (with_messages 0 ms [])) (flat_map-append (λ (a : Mbox). messages_in a.bytes) xs ys),
      ap length (with_messages-append 0 (all_messages xs) (all_messages ys) []),
    )

archives-grow : (xs ys : List Mbox) → length (table xs).archives ≤ length (table (xs ++ ys)).archives
archives-grow xs ys = omega (
  arith,
  length-map xs entry_of_archive,
  length-map (xs ++ ys) entry_of_archive,
  length-append xs ys,
)

never-too-much : (archives before after : List Mbox) (a : Mbox) → archives ≡ before ++ a ∷ after
    → IsWithinLimit (table archives) → IsTooMuch (table (before ++ a ∷ [])) → ⊥
never-too-much archives before after a whole few much =
    let same : archives ≡ (before ++ a ∷ []) ++ after = whole ∙ sym (append_assoc before (a ∷ []) after) in
    let limit : IsWithinLimit (table ((before ++ a ∷ []) ++ after)) = subst (λ l. IsWithinLimit (table l)) same few in
    ⊎_elim
    (λ m. omega (arith, m, archives-grow (before ++ a ∷ []) after, limit.archives))
    (λ rest. ⊎_elim
    (λ m. omega (arith, m, messages-grow (before ++ a ∷ []) after, limit.messages))
    (λ m. omega (arith, m, keys-grow (before ++ a ∷ []) after, limit.keys))
    rest)
    much

never-cut-off : (archives before after : List Mbox) (a : Mbox) (f : CutFault) → archives ≡ before ++ a ∷ after
    → AreSound archives → archive_refusal most_in_archive a.bytes ≡ Some f → ⊥
never-cut-off archives before after a f whole sound is =
    let all : All (λ (b : Mbox). archive_refusal most_in_archive b.bytes ≡ None) (before ++ a ∷ after) =
    subst (λ l. All (λ (b : Mbox). archive_refusal most_in_archive b.bytes ≡ None) l) whole sound.each in
    let inside : length before < length (before ++ a ∷ after) = omega (arith, length-append before (a ∷ after)) in
    let none : archive_refusal most_in_archive (get_or (before ++ a ∷ after) (length before) a).bytes ≡ None =
    All-get_or (λ (b : Mbox). archive_refusal most_in_archive b.bytes ≡ None) (before ++ a ∷ after) (length before) a
    inside all in
    let here : get_or (before ++ a ∷ after) (length before) a ≡ a = get_or-append_seam before a after a in
    let none-here : archive_refusal most_in_archive a.bytes ≡ None =
    subst (λ (b : Mbox). archive_refusal most_in_archive b.bytes ≡ None) here none in
    cc

pub sound-not-refused : (archives : List Mbox) (f : Fault) → AreSound archives → RefusesArchives archives f → ⊥
sound-not-refused archives (of.Archive number fault) sound (before, a, parted, same, h) =
    never-cut-off archives before parted.after a fault parted.whole sound h.refused
sound-not-refused archives of.TooMany sound (before, a, parted, h) =
    never-too-much archives before parted.after a parted.whole sound.few h.much
sound-not-refused archives (of.Usage f) sound h = h
sound-not-refused archives (of.Rc f) sound h = h
sound-not-refused archives (of.Query f) sound h = h
sound-not-refused archives (of.Index f) sound h = h
sound-not-refused archives of.OldIndex sound h = h
sound-not-refused archives (of.Stale n) sound h = h
sound-not-refused archives of.Device sound h = h
sound-not-refused archives of.Out sound h = h
sound-not-refused archives of.Memory sound h = h
