-- Two replies of one run are the same, unless an archive is refused twice, because the first faulty archive is
-- determined.
use Rattle.mairix_tool.proofs.Words.{◌≡◌, ◌∙◌, ◌^◌, ◌<◌, ◌++◌, ◌&&◌, ◌⊎◌, ℕ, Bool, true, false, cond, List, [], ◌∷◌, length, Some, None, Option, Result, Ok, Err, unwrap_or, refl, sym, ap, ap₂, subst, arith, inl, inr, append-nil, length-append, length-map, IndexFault, AreBytes, Table, Search, answer_text, AreSound, Mbox, table, all_messages, messages_in, with_messages, RefusesArchives, mboxes, Fault, Wanted, Answer, answer_of_fault, answer_of_text, IsAnswer, IsAnswerFrom, IsAnswerOrStale, IsStoredAnswer, IsVerifiedAnswer, IsStaleOr, IsOldOr, IsReply, IsOnceReply, IsStoredReply, stale_archive, renamed_archive, unproved_archive, is_too_old, sound-not-refused}
use Rattle.std.proofs.lemmas.Grind.{flat_map-append}
use Rattle.index_job.specs.ArchiveRefusals.{IsCutOff, IsOneTooMany}
use Rattle.index_job.proofs.TableSteps.{records-count}
use Rattle.index_run.specs.ArchivesIndexed.{Parted}
use Rattle.mail_answer.proofs.OutputLaws.EveryAnswer.{one-choice}
use Rattle.mail_index.proofs.FileLaws.Accepts.{no_fault}
use Rattle.mail_index.proofs.FileLaws.SameTable.{same-table}
use Rattle.mail_index.specs.Limits.{most_in_archive}
use Rattle.mbox_cutter.specs.Archives.{grouped_lines, marked_lines, messages, messages_from, total}
use Rattle.mbox_cutter.specs.Events.{archive_refusal}
use Rattle.mbox_cutter.specs.Lines.{lines}
use Rattle.mbox_cutter.specs.declared.event.CutFault.{CutFault}
use Rattle.mbox_cutter.specs.declared.event.CutFault.TheVariants.{ArchiveTooLong, NotAnMbox}
use Rattle.run_faults.specs.declared.fault.Fault.TheVariants as of
use Rattle.mairix_tool.specs.OneReply.{AreOfOneArchive, AreOneReply, IsEither, IsRefusedTwice}
use Rattle.mairix_tool.specs.Runs.{IsRefusedBy}
use Rattle.mairix_tool.proofs.ArchiveLaws.FirstFaults.{one-first-fault}
use Rattle.mairix_tool.proofs.ReplyLaws.Once.{answer-told}

-- ---- the answer is determined

one-stale : (o : Option ℕ) (IsFound : Answer → Type 0) (a b : Answer) → (IsFound a → IsFound b → a ≡ b)
    → IsStaleOr o IsFound a → IsStaleOr o IsFound b → a ≡ b
one-stale (Some n) IsFound a b same is other = is ∙ sym other
one-stale None IsFound a b same is other = same is other

module _ (t : Table) (s : Search) (held : List (List ℕ)) (a b : Answer) where
  one-found : IsAnswerFrom t s held a → IsAnswerFrom t s held b → a ≡ b
  one-found (xs, first, is) (ys, second, other) =
      is
      ∙ ap (λ ns. answer_of_text (answer_text s.format t held ns) (length ns))
      (one-choice t _ _ _ _ first second)
      ∙ sym other

  one-told : IsAnswerOrStale t s held a → IsAnswerOrStale t s held b → a ≡ b
  one-told = one-stale (stale_archive t.archives held) _ a b one-found

one-answer : (archives : List Mbox) (s : Search) (a b : Answer) → IsAnswer archives s a → IsAnswer archives s b → a ≡ b
one-answer archives s a b is other =
    one-told (table archives) s _ a b (answer-told _ s a is)
    (answer-told _ s b other)

-- ---- the first faulty archive

-- if a list is divided at two items, they are at the same place, or one is before the other
abbrev AreOrdered : List Mbox → Mbox → List Mbox → Mbox → Type 0
AreOrdered xs a ys b =
    ((xs ≡ ys) × (a ≡ b)) ⊎ ((m : List Mbox) × (ys ≡ xs ++ a ∷ m)) ⊎ ((m : List Mbox) × (xs ≡ ys ++ b ∷ m))

ordered : (xs ys r s : List Mbox) (a b : Mbox) → xs ++ a ∷ r ≡ ys ++ b ∷ s → AreOrdered xs a ys b
ordered [] [] r s a b same = inl (refl, cc)
ordered [] (y ∷ ys) r s a b same = inr (inl (ys, cc))
ordered (x ∷ xs) [] r s a b same = inr (inr (xs, cc))
ordered (x ∷ xs) (y ∷ ys) r s a b same = go (ordered xs ys r s a b cc)
  where
    go : AreOrdered xs a ys b → AreOrdered (x ∷ xs) a (y ∷ ys) b
    go (inl h) = inl (cc, h.1)
    go (inr (inl h)) = inr (inl (h.0, cc))
    go (inr (inr h)) = inr (inr (h.0, cc))

-- these archives are sound, and the next one is refused with this fault
abbrev IsRefusedAfter : List Mbox → Mbox → Fault → Type 0
IsRefusedAfter before a (of.Archive number fault) = (number ≡ length before) × IsCutOff before a fault
IsRefusedAfter before a of.TooMany = IsOneTooMany before a
IsRefusedAfter before a _ = ⊥

abbrev HasRefused : List Mbox → Fault → Type 0
HasRefused archives f = (before : List Mbox) × (a : Mbox) × Parted archives before a × IsRefusedAfter before a f

parted-so : (archives : List Mbox) (f : Fault) → RefusesArchives archives f → HasRefused archives f
parted-so = grind arith

refused-so : (archives before : List Mbox) (a : Mbox) (f : Fault) → Parted archives before a → IsRefusedAfter before a f
    → RefusesArchives archives f
refused-so = grind arith

sound-before : (before : List Mbox) (a : Mbox) (f : Fault) → IsRefusedAfter before a f → AreSound before
sound-before = grind arith

-- sound archives have no refused one among them
never-later : (before more ys : List Mbox) (a b : Mbox) (f g : Fault) → ys ≡ before ++ a ∷ more
    → IsRefusedAfter before a f → IsRefusedAfter ys b g → ⊥
never-later before more ys a b f g whole h k =
    sound-not-refused _ f (sound-before _ b g k)
    (refused-so _ _ a f (record { after = more; whole = whole }) h)

-- ---- an archive that isn't an mbox has no messages, so it doesn't have too many

abbrev by-bytes : Bool → Bool → Option CutFault
by-bytes no_mbox long = cond no_mbox (Some NotAnMbox) (cond long (Some ArchiveTooLong) None)

by-no-mbox : (no_mbox early long : Bool) → by-bytes (no_mbox && early) long ≡ Some NotAnMbox → no_mbox ≡ true
by-no-mbox true early long h = refl
by-no-mbox false early true h = cc
by-no-mbox false early false h = cc

cut-by : (no_mbox long : Bool) (f : CutFault) → by-bytes no_mbox long ≡ Some f → (f ≡ NotAnMbox) ⊎ (f ≡ ArchiveTooLong)
cut-by = grind arith

module _ (bytes : List ℕ) where
  none-in : archive_refusal most_in_archive bytes ≡ Some NotAnMbox → messages_in bytes ≡ []
  unfolding archive_refusal messages
  none-in h =
      let groups = grouped_lines (marked_lines true (lines bytes)) in
      ap (λ b. unwrap_or (cond b None (Some (messages_from (total groups.0) groups.1))) [])
      (by-no-mbox _ _ _ h)

  -- if an archive is refused by its bytes, there are two possible faults
  cut-so : (f : CutFault) → archive_refusal most_in_archive bytes ≡ Some f → (f ≡ NotAnMbox) ⊎ (f ≡ ArchiveTooLong)
  unfolding archive_refusal
  cut-so f h = cut-by _ _ f h

none-more : (before : List Mbox) (a : Mbox) → messages_in a.bytes ≡ [] → all_messages (before ++ a ∷ [])
    ≡ all_messages before
none-more = grind (arith, flat_map-append, append-nil)

no-mbox-few : (before : List Mbox) (a : Mbox) → IsCutOff before a NotAnMbox → IsOneTooMany before a → ⊥
no-mbox-few before a cut many =
    let same = none-more _ a (none-in _ cut.refused)
    in
    let keys : length (table (before ++ a ∷ [])).keys ≡ length (table before).keys =
    ap (λ ms. length (with_messages 0 ms [])) same in
    grind (arith, length-map, length-append, records-count, keys, same)

-- ---- two refusals

abbrev IsOneOf : ℕ → Fault → Type 0
IsOneOf number f = (f ≡ of.Archive number ArchiveTooLong) ⊎ (f ≡ of.TooMany)

abbrev AreAlike : List Mbox → Fault → Fault → Type 0
AreAlike archives f g = (f ≡ g) ⊎ ((number : ℕ) × IsRefusedTwice archives number × IsOneOf number f × IsOneOf number g)

module _ (archives before : List Mbox) (a : Mbox) (parted : Parted archives before a) where
  twice : (number : ℕ) (f : CutFault) → number ≡ length before → IsCutOff before a f → IsOneTooMany before a
      → IsRefusedTwice archives number × (f ≡ ArchiveTooLong)
  twice number f at cut many = go (cut-so _ f cut.refused)
    where
      go : (f ≡ NotAnMbox) ⊎ (f ≡ ArchiveTooLong) → IsRefusedTwice archives number × (f ≡ ArchiveTooLong)
      go (inl h) = absurd (no-mbox-few _ a (subst (IsCutOff before a) h cut) many)
      go (inr h) =
          let long = subst (IsCutOff before a) h cut in
          (record { before = before; last = a; parted = parted; numbered = at; long = long; many = many }, h)

  here : (f g : Fault) → IsRefusedAfter before a f → IsRefusedAfter before a g → AreAlike archives f g
  here (of.Archive n x) (of.Archive m y) h k = inl (ap₂ (λ i z. of.Archive i z) (h.0 ∙ sym k.0) cc)
  here of.TooMany of.TooMany h k = inl refl
  here (of.Archive n x) of.TooMany h k = let t = twice n x h.0 h.1 k
      in inr (n, t.0, inl (ap (of.Archive n) t.1), inr refl)
  here of.TooMany (of.Archive n x) h k = let t = twice n x k.0 k.1 h
      in inr (n, t.0, inr refl, inl (ap (of.Archive n) t.1))
  here f g h k = grind arith

alike : (archives : List Mbox) (f g : Fault) → RefusesArchives archives f → RefusesArchives archives g
    → AreAlike archives f g
alike archives f g h k = go (parted-so _ f h) (parted-so _ g k)
  where
    go : HasRefused archives f → HasRefused archives g → AreAlike archives f g
    go (xs, a, p, r) (ys, b, q, s) = by-order (ordered _ _ _ _ a b (sym p.whole ∙ q.whole))
      where
        by-order : AreOrdered xs a ys b → AreAlike archives f g
        by-order (inl same) =
            let s' = subst (λ m. IsRefusedAfter ys m g) (sym same.1) s in
            here _ _ a p f g r (subst (λ l. IsRefusedAfter l a g) (sym same.0) s')
        by-order (inr (inl later)) = absurd (never-later _ _ _ a b f g later.1 r s)
        by-order (inr (inr later)) = absurd (never-later _ _ _ b a g f later.1 s r)

-- ---- the replies

module _ (archives : List Mbox) (a b : Answer) where
  one-refusal : IsRefusedBy archives a → IsRefusedBy archives b → (a ≡ b) ⊎ AreOfOneArchive archives a b
  one-refusal (f, h, is) (g, k, other) = go (alike _ f g h k)
    where
      go : AreAlike archives f g → (a ≡ b) ⊎ AreOfOneArchive archives a b
      go (inl same) = inl (is ∙ ap answer_of_fault same ∙ sym other)
      go (inr (n, t, x, y)) = grind arith

  -- the archives are sound and there is an answer, or they are refused
  one-of : (IsFound : Answer → Type 0) → (IsFound a → IsFound b → a ≡ b) → (AreSound archives × IsFound a)
      ⊎ IsRefusedBy archives a
      → (AreSound archives × IsFound b) ⊎ IsRefusedBy archives b → (a ≡ b) ⊎ AreOfOneArchive archives a b
  one-of IsFound same (inl h) (inl k) = inl (same h.1 k.1)
  one-of IsFound same (inl h) (inr k) = absurd (sound-not-refused _ _ h.0 k.1)
  one-of IsFound same (inr h) (inl k) = absurd (sound-not-refused _ _ k.0 h.1)
  one-of IsFound same (inr h) (inr k) = one-refusal h k

pub one-reply : (asked : Result Wanted Fault) (bytes : List (List ℕ)) (a b : Answer) → IsReply asked bytes a
    → IsReply asked bytes b
    → AreOneReply asked bytes a b
one-reply (Err fault) bytes a b h k = h ∙ sym k
one-reply (Ok w) bytes a b h k =
    let archives = mboxes w.paths bytes in
    one-of archives a b (IsAnswer archives w.search) (one-answer archives w.search a b) h k

pub one-once : (asked : Result Wanted Fault) (bytes held : List (List ℕ)) (a b : Answer)
    → IsOnceReply asked bytes held a
    → IsOnceReply asked bytes held b → AreOneReply asked bytes a b
one-once (Err fault) bytes held a b h k = h ∙ sym k
one-once (Ok w) bytes held a b h k =
    let archives = mboxes w.paths bytes in
    one-of archives a b (IsAnswerOrStale (table archives) w.search held)
    (one-told (table archives) w.search held a b) h k

-- if an archive is refused twice, each of the two refusals is allowed
either-refuses : (archives : List Mbox) (number : ℕ) (answer : Answer) → IsRefusedTwice archives number
    → IsEither number answer
    → IsRefusedBy archives answer
either-refuses archives number answer t (inl is) =
    (of.Archive number ArchiveTooLong, (t.before, t.last, t.parted, t.numbered, t.long), is)
either-refuses archives number answer t (inr is) = (of.TooMany, (t.before, t.last, t.parted, t.many), is)

pub either-replied : (w : Wanted) (bytes held : List (List ℕ)) (number : ℕ) (answer : Answer)
    → IsRefusedTwice (mboxes w.paths bytes) number → IsEither number answer
    → IsReply (Ok w) bytes answer × IsOnceReply (Ok w) bytes held answer
either-replied w bytes held number answer t is =
    let bad = either-refuses _ _ _ t is in (inr bad, inr bad)

-- ---- a stored index

one-old : (old : Bool) (IsFound : Answer → Type 0) (a b : Answer) → (IsFound a → IsFound b → a ≡ b)
    → IsOldOr old IsFound a → IsOldOr old IsFound b → a ≡ b
one-old true IsFound a b same h k = h ∙ sym k
one-old false IsFound a b same h k = same h k

one-told-of : (w : Wanted) (t : Table) (held : List (List ℕ)) (a b : Answer) → IsStoredAnswer w t held a
    → IsStoredAnswer w t held b
    → a ≡ b
one-told-of w t held a b =
    let named = renamed_archive t.archives w.paths in
    one-old (is_too_old t w) (IsStaleOr named (IsVerifiedAnswer w t held)) a b
    (one-stale named (IsVerifiedAnswer w t held) a b
    (one-stale (unproved_archive w.verify t.archives held) (IsAnswerOrStale t w.search held) a b
    (one-told t w.search held a b)))

module _ (index : List ℕ) (are : AreBytes index) (few : length index < 2 ^ 64) (held : List (List ℕ)) (a b : Answer)
  where
    pub one-stored : (asked : Result Wanted Fault) → IsStoredReply asked index held a → IsStoredReply asked index held b
        → a ≡ b
    one-stored (Err fault) h k = h ∙ sym k
    one-stored (Ok w) (inl (f, h, is)) (inl (g, k, other)) =
        is ∙ ap (λ (e : IndexFault). answer_of_fault (of.Index e)) (one-first-fault index are f g h k) ∙ sym other
    one-stored (Ok w) (inl (f, h, is)) (inr (t, file, told)) = absurd (no_fault index t few file f h)
    one-stored (Ok w) (inr (t, file, told)) (inl (f, h, is)) = absurd (no_fault index t few file f h)
    one-stored (Ok w) (inr (t, file, told)) (inr (u, other, so)) =
        one-told-of w t held a b told
        (subst (λ (v : Table). IsStoredAnswer w v held b) (same-table index t u few file other)
        so)
