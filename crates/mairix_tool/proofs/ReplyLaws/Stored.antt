-- A run over a stored index replies what its table says; over the indexed archives this is what their own messages say.
use Rattle.mairix_tool.proofs.Words.{◌≡◌, ◌∙◌, ◌<◌, ◌^◌, ◌+◌, ◌++◌, ℕ, Bool, true, false, cond, All, IfSome, IfOk, IfErr, List, [], ◌∷◌, map, length, None, Some, Option, Result, Ok, Err, refl, sym, ap, subst, arith, inl, inr, eq-eqb, ◌||◌, false≢true, length-map, bytes_eq-Decides, option_map, option_or, stale_archive, unverified_archive, IndexFault, IsFileOfTable, IsFirstFaultOfFile, AreBytes, Archive, IsPath, Table, IsVersion, uses_names, AreSound, Mbox, table, entry_of_archive, Fault, Reply, mboxes, Wanted, refusal_of_fault, is_failure, IsOfAnswer, HaveDistinctDigests, altered_archive, ServesFor, but_digests, old_table, Answer, answer_of_fault, IsAnswerOrStale, IsStoredAnswer, IsVerifiedAnswer, unproved_archive, ReportsProved, IsStaleOr, IsOldOr, is_too_old, IsReply, IsStoredReply, IsForNoOtherCause, IsIndexRefusal, IsRefusedAs, RepliesBy, reply_of, renamed_archive, first_renamed, WereVerified, sound-not-refused}
use Rattle.mairix_tool.specs.StoredRuns.{CountsVerified, RepliesByMessages}
use Rattle.mail_index.proofs.FileLaws.Accepts.{no_fault}
use Rattle.mail_index.proofs.FileLaws.SameTable.{same-table}
use Rattle.run_faults.specs.Faults.{fault_in}
use Rattle.run_faults.specs.declared.fault.Fault.TheVariants as of
use Rattle.std.specs.Result.{IsErrAnd, MatchResult}
use Rattle.index_run.proofs.ArchiveLists.{mboxes-length}
use Rattle.mairix_tool.proofs.TableLaws.Formed.{before-file, indexed-file, otherwise-file, whole-file}
use Rattle.mairix_tool.proofs.TableLaws.OldTables.{told-old, old-told, told-same, same-told, renamed-old}
use Rattle.mairix_tool.proofs.ArchiveLaws.Unaltered.{own-verified, the-same}
use Rattle.mairix_tool.proofs.ArchiveLaws.FirstFaults.{one-first-fault}
use Rattle.mairix_tool.proofs.ReplyLaws.Once.{replies-as, some-told, unanswered, once-reply, reply-once, bytes-of-mboxes}

-- ---- the table of archives has their paths

first-named : (n : ℕ) (paths bytes : List (List ℕ)) → length paths ≡ length bytes
    → first_renamed n (map entry_of_archive (mboxes paths bytes)) paths ≡ None
first-named n [] bytes same = refl
first-named n (p ∷ paths) [] same = absurd (omega (arith, same))
first-named n (p ∷ paths) (b ∷ bytes) same =
    let rest : length paths ≡ length bytes = omega (arith, same) in
    ap (λ t. cond t (first_renamed (n + 1) (map entry_of_archive (mboxes paths bytes)) paths) (Some n))
    ((bytes_eq-Decides p p).1 refl) ∙ first-named (n + 1) paths bytes rest

named-as : (paths bytes : List (List ℕ)) → length paths ≡ length bytes
    → renamed_archive (table (mboxes paths bytes)).archives paths ≡ None
named-as = grind (arith, length-map, mboxes-length, eq-eqb, first-named)

-- and their bytes have its digests
proved-as : (verify : Bool) (paths bytes : List (List ℕ)) → length paths ≡ length bytes
    → unproved_archive verify (table (mboxes paths bytes)).archives bytes ≡ None
proved-as false paths bytes same = refl
proved-as true paths bytes same =
    subst (λ held. unverified_archive (table (mboxes paths bytes)).archives held ≡ None)
    (bytes-of-mboxes _ _ same) (own-verified (mboxes paths bytes))

-- ---- what the table says

-- of two archives that aren't as they were indexed, the first is reported
join : (o p : Option ℕ) (IsFound : Answer → Type 0) (answer : Answer) → IsStaleOr o (IsStaleOr p IsFound) answer
    → IsStaleOr (option_or o p) IsFound answer
join o p IsFound = grind arith

part : (o p : Option ℕ) (IsFound : Answer → Type 0) (answer : Answer) → IsStaleOr (option_or o p) IsFound answer
    → IsStaleOr o (IsStaleOr p IsFound) answer
part o p IsFound = grind arith

neither : {o p : Option ℕ} → o ≡ None → p ≡ None → option_or o p ≡ None
neither {o} {p} first second = ap (λ q. option_or q p) first ∙ second

-- archives that are as they were indexed
pub none-altered : (paths bytes : List (List ℕ)) → length paths ≡ length bytes
    → altered_archive (mboxes paths bytes) paths bytes ≡ None
none-altered paths bytes same = neither (named-as _ _ same) (proved-as true _ _ same)

-- an index that isn't too old has the digests that a run needs
pub has-digests : (w : Wanted) (t : Table) → IsVersion t.version → is_too_old t w ≡ false → w.verify ≡ true → t.version
    ≡ 2
has-digests = grind (arith, false≢true)

module _ (w : Wanted) (index : List ℕ) (few : length index < 2 ^ 64) (t : Table) (file : IsFileOfTable index t) where
  pub one-table : (u : Table) → IsFileOfTable index u → t ≡ u
  one-table u f = same-table _ u t few f file

  -- an index that isn't too old
  module _ (held : List (List ℕ)) (fresh : is_too_old t w ≡ false) where
    -- the first archive that isn't as it was indexed
    abbrev altered : Option ℕ
    altered = option_or (renamed_archive t.archives w.paths) (unproved_archive w.verify t.archives held)

    stored-by : (answer : Answer) → IsStaleOr altered (IsAnswerOrStale t w.search held) answer
        → IsStoredReply (Ok w) index held answer
    stored-by = grind (arith, part)

    told-by : (answer : Answer) → IsStoredReply (Ok w) index held answer
        → IsStaleOr altered (IsAnswerOrStale t w.search held) answer
    told-by answer (inl bad) = absurd (no_fault _ t few file _ bad.1)
    told-by answer (inr (u, f, told)) =
        let here = subst (λ v. IsStoredAnswer w v held answer) (sym (one-table u f)) told in
        let both = subst (λ b. IsOldOr b
        (IsStaleOr (renamed_archive t.archives w.paths) (IsVerifiedAnswer w t held)) answer) fresh here in
        join (renamed_archive t.archives w.paths) _
        _
        _ both

    -- the index has these paths
    pub stored-told : renamed_archive t.archives w.paths ≡ None → (reply : Reply) (old new : Option (List ℕ))
        → RepliesBy (IsVerifiedAnswer w t held) reply old new
        → RepliesBy (IsStoredReply (Ok w) index held) reply old new
    stored-told none reply old new given =
        replies-as _ _
        (λ answer is. stored-by _ (subst
        (λ o. IsStaleOr (option_or o (unproved_archive w.verify t.archives held))
        (IsAnswerOrStale t w.search held) answer) (sym none) is))
        (λ answer is. subst (λ o. IsStaleOr (option_or o (unproved_archive w.verify t.archives held))
        (IsAnswerOrStale t w.search held) answer) none (told-by _ is))
        _ _ _ given

  pub stored-counted : (u : Table) (held : Option (List (List ℕ))) (reply : Reply) (old new : Option (List ℕ))
      → IsFileOfTable index u → CountsVerified t w held reply old new → CountsVerified u w held reply old new
  stored-counted u held reply old new f given =
      subst (λ v. CountsVerified v w held reply old new) (one-table u f) given

-- archives that were verified before an answer were verified, whatever its result
pub still-verified : (named : List Archive) (verify : Bool) (fault : Option Fault) → WereVerified named verify None
    → WereVerified named verify fault
still-verified named verify fault given =
    elim fault as (λ o. WereVerified named verify o) [ None ↦ given | Some _ ↦ tt ]

-- over the archives that were indexed
module _ (w : Wanted) (index : List ℕ) (few : length index < 2 ^ 64) (bytes : List (List ℕ))
    (many : length w.paths ≡ length bytes) (sound : AreSound (mboxes w.paths bytes)) where
  abbrev whole : Table
  whole = table (mboxes w.paths bytes)

  pub once-told : (answer : Answer) → IsAnswerOrStale whole w.search bytes answer → IsReply (Ok w) bytes answer
  once-told answer told = once-reply (Ok w) bytes answer many (inl (sound, told))

  pub told-once : (answer : Answer) → IsReply (Ok w) bytes answer → IsAnswerOrStale whole w.search bytes answer
  told-once answer is =
      elim (reply-once (Ok w) _ _ many is) [
        | inl told ↦ told.1
        | inr bad ↦ absurd (sound-not-refused _ _ sound bad.1)
      ]

  -- through a table that says the same
  stored-alike : (t : Table) → IsFileOfTable index t → is_too_old t w ≡ false → renamed_archive t.archives w.paths
      ≡ None
      → unproved_archive w.verify t.archives bytes ≡ None
      → ((answer : Answer) → IsAnswerOrStale t w.search bytes answer → IsAnswerOrStale whole w.search bytes answer)
      → ((answer : Answer) → IsAnswerOrStale whole w.search bytes answer → IsAnswerOrStale t w.search bytes answer)
      → (reply : Reply) (old new : Option (List ℕ)) → RepliesBy (IsStoredReply (Ok w) index bytes) reply old new
      → RepliesBy (IsReply (Ok w) bytes) reply old new
  stored-alike t file fresh named proved forth back reply old new given =
      let none =
      neither named proved in
      replies-as _ _
      (λ answer is. once-told _ (forth answer
      (subst (λ o. IsStaleOr o (IsAnswerOrStale t w.search bytes) answer) none
      (told-by w _ few t file _ fresh _ is))))
      (λ answer is. stored-by w _ few t file _ fresh _
      (subst (λ o. IsStaleOr o (IsAnswerOrStale t w.search bytes) answer) (sym none)
      (back answer (told-once _ is))))
      _ _ _ given

  -- with an index of the newest version
  stored-indexed : IsFileOfTable index whole → (reply : Reply) (old new : Option (List ℕ))
      → RepliesBy (IsStoredReply (Ok w) index bytes) reply old new → RepliesBy (IsReply (Ok w) bytes) reply old new
  stored-indexed file =
      stored-alike _ file refl (named-as _ _ many) (proved-as _ _ _ many)
      (λ answer told. told) (λ answer told. told)

  -- with an index that has other digests
  stored-otherwise : (t : Table) → w.verify ≡ false → but_digests t ≡ but_digests whole → IsFileOfTable index t
      → (reply : Reply) (old new : Option (List ℕ)) → RepliesBy (IsStoredReply (Ok w) index bytes) reply old new
      → RepliesBy (IsReply (Ok w) bytes) reply old new
  stored-otherwise t off same file =
      let fresh : is_too_old t w ≡ false = ap (λ (u : Table). is_too_old u w) same in
      let named : renamed_archive t.archives w.paths ≡ None =
      sym (renamed-old t.archives w.paths) ∙ ap (λ (u : Table). renamed_archive u.archives w.paths) same
      ∙ renamed-old whole.archives w.paths ∙ named-as w.paths bytes many in
      stored-alike t file fresh named (ap (λ (b : Bool). unproved_archive b t.archives bytes) off)
      (λ answer. told-same t whole same w.search bytes answer)
      (λ answer. same-told t whole same w.search bytes answer)

  -- with an index of version 1
  stored-before : w.verify ≡ false → IsFileOfTable index (old_table whole) → uses_names w.search.query ≡ false
      → (reply : Reply) (old new : Option (List ℕ)) → RepliesBy (IsStoredReply (Ok w) index bytes) reply old new
      → RepliesBy (IsReply (Ok w) bytes) reply old new
  stored-before off file none =
      let fresh : is_too_old (old_table whole) w ≡ false = ap (λ (b : Bool). b || uses_names w.search.query) off ∙ none
      in
      stored-alike (old_table whole) file fresh (renamed-old whole.archives w.paths ∙ named-as w.paths bytes many)
      (ap (λ (b : Bool). unproved_archive b (old_table whole).archives bytes) off)
      (λ answer told. told-old whole w.search bytes answer none told)
      (λ answer told. old-told whole w.search bytes answer none told)

  -- with an index that serves for these archives
  stored-serving : All IsPath w.paths → ServesFor w whole index → (reply : Reply) (old new : Option (List ℕ))
      → RepliesBy (IsStoredReply (Ok w) index bytes) reply old new
      → RepliesBy (IsReply (Ok w) bytes) reply old new
  stored-serving = grind (
    arith,
    stored-indexed,
    indexed-file,
    stored-otherwise,
    otherwise-file,
    stored-before,
    before-file,
  )

-- if they are verified, with the index of any archives
module _ (w : Wanted) (index : List ℕ) (few : length index < 2 ^ 64) (before : List Mbox) (bytes : List (List ℕ))
    (verify : w.verify ≡ true) (sound : AreSound before) (file : IsFileOfTable index (table before))
    (apart : HaveDistinctDigests (map (λ a. a.bytes) before ++ bytes)) where
  stale-or : (o : Option ℕ) (IsFound IsOther : Answer → Type 0)
      → (o ≡ None → (answer : Answer) → IsFound answer → IsOther answer) → (answer : Answer)
      → IsStaleOr o IsFound answer → IsStaleOr o IsOther answer
  stale-or o IsFound IsOther = grind arith

  -- the bytes of archives that are verified are those that were indexed
  unaltered : altered_archive before w.paths bytes ≡ None → (length w.paths ≡ length bytes)
      × (before ≡ mboxes w.paths bytes)
  unaltered none = the-same _ _ _ apart none

  replied : altered_archive before w.paths bytes ≡ None → (answer : Answer)
      → IsAnswerOrStale (table before) w.search bytes answer → IsReply (Ok w) bytes answer
  replied = grind (arith, unaltered, once-told)

  told-again : altered_archive before w.paths bytes ≡ None → (answer : Answer) → IsReply (Ok w) bytes answer
      → IsAnswerOrStale (table before) w.search bytes answer
  told-again = grind (arith, unaltered, told-once)

  abbrev by-tables : Bool → Option ℕ
  by-tables b = option_or (renamed_archive (table before).archives w.paths)
      (unproved_archive b (table before).archives bytes)

  stored-verified : (reply : Reply) (old new : Option (List ℕ))
      → RepliesBy (IsStoredReply (Ok w) index bytes) reply old new
      → RepliesBy (IsStaleOr (altered_archive before w.paths bytes) (IsReply (Ok w) bytes)) reply old new
  stored-verified reply old new given =
      replies-as _
      _
      (λ answer is.
      stale-or _ _
      _
      replied _
      (subst (λ b. IsStaleOr (by-tables b) (IsAnswerOrStale (table before) w.search bytes) answer) verify
      (told-by w _ few _ file _ refl _ is)))
      (λ answer is.
      stored-by w _ few (table before) file _ refl _
      (subst (λ b. IsStaleOr (by-tables b) (IsAnswerOrStale (table before) w.search bytes) answer) (sym verify)
      (stale-or _ _
      _
      told-again _ is)))
      _ _ _ given

-- words, rcfile and query that are accepted have paths
pub replies-by-messages : (asked : Result Wanted Fault) (index : List ℕ) → length index < 2 ^ 64
    → (bytes : List (List ℕ)) → ((w : Wanted) → asked ≡ Ok w → All IsPath w.paths) → (reply : Reply)
    (old new : Option (List ℕ)) → RepliesBy (IsStoredReply asked index bytes) reply old new
    → RepliesByMessages asked index bytes reply old new
replies-by-messages asked index few bytes paths reply old new given = record {
  indexed = λ w is many sound serves.
      stored-serving w index few bytes many sound (paths w is) serves reply old new (rw is at given);
  verified = λ w before is verify are sound whole apart.
      stored-verified w index few before bytes verify sound (whole-file before index are sound whole) apart reply old
      new (rw is at given);
}

-- ---- each run has a reply

some-stale : (o : Option ℕ) (IsFound : Answer → Type 0) → (answer : Answer) × IsFound answer → (answer : Answer)
    × IsStaleOr o IsFound answer
some-stale (Some n) IsFound found = (answer_of_fault (of.Stale n), refl)
some-stale None IsFound found = found

-- an index that is too old is refused, and any other one answers
some-old : (old : Bool) (IsFound : Answer → Type 0) → (answer : Answer) × IsFound answer → (answer : Answer)
    × IsOldOr old IsFound answer
some-old true IsFound found = (answer_of_fault of.OldIndex, refl)
some-old false IsFound found = found

-- by the result of reading the index
pub some-stored-reply : (index : List ℕ) (read : Result Table IndexFault) → IfOk read (IsFileOfTable index)
    → IfErr read (IsFirstFaultOfFile index)
    → (asked : Result Wanted Fault) (held : List (List ℕ)) → (answer : Answer) × IsStoredReply asked index held answer
some-stored-reply index read file bad (Err fault) held = (answer_of_fault fault, refl)
some-stored-reply index (Ok t) file bad (Ok w) held =
    let told = some-told t w.search held (stale_archive t.archives held) in
    let proved = some-stale _ _ told in
    let named = some-stale _ _ proved in
    let some = some-old _ _
    named in
    (some.0, inr (t, file, some.1))
some-stored-reply index (Err f) file bad (Ok w) held = (answer_of_fault (of.Index f), inl (f, bad, refl))

-- ---- refusals

-- a fault that isn't of a device or of memory is a refusal
refusal-known : (f : Fault) → is_failure (Some f) ≡ false → refusal_of_fault f ≡ Some f
refusal-known = grind arith

stored-refusal : (asked : Result Wanted Fault) (index : List ℕ) (held : List (List ℕ)) (f : Fault)
    → IsRefusedAs asked index f → IsStoredReply asked index held (answer_of_fault f)
stored-refusal = grind arith

pub refused-stored : (asked : Result Wanted Fault) (index : List ℕ) (held : List (List ℕ)) (f : Fault)
    (old : Option (List ℕ)) → IfSome (refusal_of_fault f) (IsRefusedAs asked index)
    → RepliesBy (IsStoredReply asked index held) (reply_of (Err f)) old old
refused-stored = grind (arith, unanswered, stored-refusal, refusal-known)

-- the reply if an archive isn't the indexed one, or couldn't be read to find out
pub unproved-replied : (unproved : Option ℕ) (IsFound : Answer → Type 0) (f : Fault) (old : Option (List ℕ))
    → ReportsProved {T = Unit {0}} unproved (Err f)
    → RepliesBy (IsStaleOr unproved IsFound) (reply_of (Err f)) old old
unproved-replied unproved IsFound = grind (arith, unanswered)

-- ---- a refusal has no other cause

pub refused-for : (asked : Result Wanted Fault) (index : List ℕ) (f : Fault)
    → IfSome (refusal_of_fault f) (IsRefusedAs asked index) → IsForNoOtherCause asked index f
refused-for = grind arith

-- a fault of an answer isn't one of these
pub answered-for : (asked : Result Wanted Fault) (index : List ℕ) (r : Result ℕ Fault) → IfErr r IsOfAnswer
    → IfSome (reply_of r).fault (IsForNoOtherCause asked index)
answered-for = grind arith

-- ---- an index is refused in one way

module _ (w : Wanted) (index : List ℕ) (few : length index < 2 ^ 64) where
  pub one-bad-index : {V U : Type 0} → (told : Result U Fault) (r : Result V IndexFault)
      → MatchResult r (λ _. ⊥) (λ f. IsErrAnd told (λ e. e ≡ of.Index f))
      → AreBytes index → IfErr r (IsFirstFaultOfFile index) → (fault : Fault) → IsIndexRefusal w index fault
      → fault_in told
      ≡ Some fault
  one-bad-index told (Ok v) same h h2 fault h3 = absurd same
  one-bad-index (Ok u) (Err f) same h h2 fault h3 = absurd same
  one-bad-index (Err e) (Err f) same h h2 fault h3 = grind (arith, one-first-fault, no_fault)

  module _ (t : Table) (file : IsFileOfTable index t) where
    -- if one file is that of two tables, both are too old or neither is
    one-age : (u : Table) → IsFileOfTable index u → is_too_old t w ≡ is_too_old u w
    one-age u f = ap (λ v. is_too_old v w) (same-table _ u t few f file)

    pub one-too-old : is_too_old t w ≡ true → (fault : Fault) → IsIndexRefusal w index fault → Some of.OldIndex
        ≡ Some fault
    one-too-old = grind (arith, no_fault, false≢true, one-age)

    pub one-renamed : is_too_old t w ≡ false → (o : Option ℕ) → renamed_archive t.archives w.paths ≡ o → (fault : Fault)
        → IsIndexRefusal w index fault
        → option_map (λ n. of.Stale n) o ≡ Some fault
    one-renamed = grind (arith, no_fault, false≢true, one-age, same-table)
