-- A run that searches the archives that it indexed replies what their own messages say, because its table says the
-- same.
use Rattle.mairix_tool.proofs.Words.{◌≡◌, ℕ, false, append-nil, List, [], ◌∷◌, map, length, None, Some, Option, Result, Ok, Err, IfOk, IfSome, refl, ap, subst, arith, inl, inr, Appends, Sends, Table, Search, answer_text, some-chosen, Fault, Reply, Mbox, table, AreSound, mboxes, RefusesArchives, IsArchivesFault, Wanted, is_failure, refusal_of_fault, Answer, answer_of_fault, IsAnswer, IsAnswerOrStale, IsStaleOr, IsAnswerFrom, IsReply, IsOnceReply, IsThisOrMemory, IsUnindexed, RepliesBy, reply_of, answer_of_text, sound-not-refused}
use Rattle.run_faults.specs.Faults.{IsEarly}
use Rattle.run_faults.specs.declared.fault.Fault.TheVariants.{Stale}
use Rattle.mairix_tool.proofs.Words.{but_digests}
use Rattle.mairix_tool.proofs.TableLaws.OldTables.{told-same, same-told}
use Rattle.mairix_tool.proofs.TableLaws.MailSame.{chosen-same, chosen-back, shape-same, not-stale}
use Rattle.index_run.proofs.ArchivesDecided.{decided, none-sound}

-- the table's answer over the archives' own bytes is that of their messages
pub told-answer : (archives : List Mbox) (s : Search) (answer : Answer)
    → IsAnswerOrStale (table archives) s (map (λ (a : Mbox). a.bytes) archives) answer → IsAnswer archives s answer
told-answer = grind (arith, not-stale, chosen-same, shape-same)

-- and the reverse
pub answer-told : (archives : List Mbox) (s : Search) (answer : Answer) → IsAnswer archives s answer
    → IsAnswerOrStale (table archives) s (map (λ (a : Mbox). a.bytes) archives) answer
answer-told = grind (arith, not-stale, chosen-back, shape-same)

pub bytes-of-mboxes : (paths bytes : List (List ℕ)) → length paths ≡ length bytes
    → map (λ (a : Mbox). a.bytes) (mboxes paths bytes) ≡ bytes
bytes-of-mboxes [] [] same = refl
bytes-of-mboxes [] (b ∷ bytes) same = absurd (omega (arith, same))
bytes-of-mboxes (p ∷ paths) [] same = absurd (omega (arith, same))
bytes-of-mboxes (p ∷ paths) (b ∷ bytes) same = let rest : length paths ≡ length bytes = omega (arith, same)
    in ap (λ l. b ∷ l) (bytes-of-mboxes paths bytes rest)

pub once-reply : (asked : Result Wanted Fault) (bytes : List (List ℕ)) (answer : Answer)
    → IfOk asked (λ w. length w.paths ≡ length bytes) → IsOnceReply asked bytes bytes answer
    → IsReply asked bytes answer
once-reply = grind (arith, told-answer, bytes-of-mboxes)

pub reply-once : (asked : Result Wanted Fault) (bytes : List (List ℕ)) (answer : Answer)
    → IfOk asked (λ w. length w.paths ≡ length bytes) → IsReply asked bytes answer
    → IsOnceReply asked bytes bytes answer
reply-once (Err fault) bytes answer many is = is
reply-once (Ok w) bytes answer many (inl sound) =
    inl (
      sound.0,
      subst (λ held. IsAnswerOrStale (table (mboxes w.paths bytes)) w.search held answer)
          (bytes-of-mboxes _ _ many)
          (answer-told _ _ _ sound.1),
    )
reply-once (Ok w) bytes answer many (inr bad) = inr bad

-- ---- every run has a reply

pub some-told : (t : Table) (s : Search) (held : List (List ℕ)) (o : Option ℕ) → (answer : Answer)
    × IsStaleOr o (IsAnswerFrom t s held) answer
some-told t s held (Some n) = (answer_of_fault (Stale n), refl)
some-told t s held None = let some = some-chosen t _ _
    in (answer_of_text (answer_text s.format t held some.0) (length some.0), (some.0, some.1, refl))

pub some-once-reply : (asked : Result Wanted Fault) (bytes held : List (List ℕ)) → (answer : Answer)
    × IsOnceReply asked bytes held answer
some-once-reply (Err fault) bytes held = (answer_of_fault fault, refl)
some-once-reply (Ok w) bytes held =
    elim (decided _ _ _ refl none-sound) [
      | inl sound ↦ let some = some-told (table (mboxes w.paths bytes)) _ _
          _ in (some.0, inl (sound, some.1))
      | inr bad ↦ (answer_of_fault bad.0, inr (bad.0, bad.1, refl))
    ]

-- ---- what a run returned

module _ (Is Other : Answer → Type 0) (forth : (answer : Answer) → Is answer → Other answer)
    (back : (answer : Answer) → Other answer → Is answer) where
  pub replies-as : (reply : Reply) (old new : Option (List ℕ)) → RepliesBy Is reply old new
      → RepliesBy Other reply old new
  replies-as = grind arith

pub nothing-more : (o : Option (List ℕ)) → Appends o o []
nothing-more = grind (arith, append-nil)

pub nothing-sent : (o : Option (List ℕ)) (text : List ℕ) → Sends o o text
nothing-sent o text = ([], text, refl, nothing-more o)

-- a fault that the definition gives as an answer, or one of a device or of memory; nothing was sent
pub unanswered : (Is : Answer → Type 0) (f : Fault) (old : Option (List ℕ))
    → (is_failure (Some f) ≡ false → Is (answer_of_fault f)) → RepliesBy Is (reply_of (Err f)) old old
unanswered Is = grind (arith, nothing-sent, nothing-more)

-- ---- nothing was indexed

-- the refusal of words, rcfile or query
pub this-fault : (refusal f : Fault) → IsThisOrMemory refusal (Some f) → is_failure (Some f) ≡ false → f ≡ refusal
this-fault = grind arith

-- the refusal of an archive
this-archive : (archives : List Mbox) (f : Fault) → IsArchivesFault archives f → is_failure (Some f) ≡ false
    → RefusesArchives archives f
this-archive = grind arith

unindexed-reply : (asked : Result Wanted Fault) (bytes held : List (List ℕ)) (f : Fault) → IsUnindexed asked bytes f
    → is_failure (Some f) ≡ false → IsOnceReply asked bytes held (answer_of_fault f)
unindexed-reply = grind (arith, this-fault, this-archive)

pub refused-once : (asked : Result Wanted Fault) (bytes held : List (List ℕ)) (f : Fault) (old : Option (List ℕ))
    → IsUnindexed asked bytes f
    → RepliesBy (IsOnceReply asked bytes held) (reply_of (Err f)) old old
refused-once asked bytes held f old is =
    unanswered _ f _ (unindexed-reply _ _ _ f is)

-- the refusal of words, rcfile or query, or lack of memory before it was found
early-reply : (asked : Result Wanted Fault) (bytes held : List (List ℕ)) (f : Fault)
    → IfSome (refusal_of_fault f) (λ r. asked ≡ Err r) → IsEarly f
    → is_failure (Some f) ≡ false → IsOnceReply asked bytes held (answer_of_fault f)
early-reply = grind arith

pub early-once : (asked : Result Wanted Fault) (bytes held : List (List ℕ)) (f : Fault) (old : Option (List ℕ))
    → IfSome (refusal_of_fault f) (λ r. asked ≡ Err r) → IsEarly f
    → RepliesBy (IsOnceReply asked bytes held) (reply_of (Err f)) old old
early-once asked bytes held f old h early =
    unanswered _ f _ (early-reply _ _ _ f h early)

-- ---- the archives are indexed

-- if the archives are sound, what their table says
pub sound-once : (w : Wanted) (bytes held : List (List ℕ)) (t : Table) (reply : Reply) (old new : Option (List ℕ))
    → AreSound (mboxes w.paths bytes)
    → t ≡ table (mboxes w.paths bytes) → RepliesBy (IsAnswerOrStale t w.search held) reply old new
    → RepliesBy (IsOnceReply (Ok w) bytes held) reply old new
sound-once = grind (arith, replies-as, sound-not-refused)

-- the same of a table that differs only in its digests
pub alike-once : (w : Wanted) (bytes held : List (List ℕ)) (t : Table) (reply : Reply) (old new : Option (List ℕ))
    → AreSound (mboxes w.paths bytes) → but_digests t ≡ but_digests (table (mboxes w.paths bytes))
    → RepliesBy (IsAnswerOrStale t w.search held) reply old new
    → RepliesBy (IsOnceReply (Ok w) bytes held) reply old new
alike-once w bytes held t reply old new sound same given =
    let whole = table (mboxes w.paths bytes) in
    sound-once w _ _ _ _ _ _ sound refl
    (replies-as _ _
    (told-same t _ same _ _) (same-told t _ same _ _) _ _ _ given)

-- by the messages themselves
pub same-bytes : (asked : Result Wanted Fault) (bytes : List (List ℕ)) (reply : Reply) (old new : Option (List ℕ))
    → IfOk asked (λ w. length w.paths ≡ length bytes)
    → RepliesBy (IsOnceReply asked bytes bytes) reply old new → RepliesBy (IsReply asked bytes) reply old new
same-bytes = grind (arith, replies-as, once-reply, reply-once)
