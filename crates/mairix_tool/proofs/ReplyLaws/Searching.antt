-- A run verifies and then searches, so what it does to archives and output is what these two steps do.
use Rattle.mairix_tool.proofs.Words.{AreStillKnown, ◌≡◌, ◌^◌, ◌<◌, ℕ, Bool, true, false, List, Option, None, Result, Ok, Err, IfSome, refl, sym, ap, subst, arith, inr, length, IsFileOfTable, Table, table, mboxes, Fault, Reply, Wanted, IsIndexRefusal, is_too_old, renamed_archive, refusal_of_fault, reply_of, Search, false≢true, IsWellFormed, All, IsPath, AreSound, All-nil, All-cons, All-head, All-tail, Some, map, [], ◌∷◌, ◌∙◌, ◌⊎◌, inl, but_digests}
use Rattle.std.specs.Prelude.{IsSome}
use Rattle.index_job.proofs.SoundTables.Whole.{sound-table}
use Rattle.index_job.specs.ArchiveTables.{table_by}
use Rattle.mail_index.specs.declared.digests.Digests.TheVariants.{LeftOut}
use Rattle.mail_answer.specs.declared.archives.Archives.{Ghosts}
use Rattle.mbox_cutter.specs.declared.device.Out.{Ghosts as OutGhosts}
use Rattle.mail_index.proofs.FileLaws.Accepts.{no_fault}
use Rattle.mail_index.proofs.FileLaws.SameTable.{same-table}
use Rattle.run_faults.specs.Faults.{IsEarly}
use Rattle.run_faults.specs.declared.fault.Fault.TheVariants as of
use Rattle.mairix_tool.specs.Searching.{AsksNothing, IsIndexedTable, Searches, SearchesFor, SearchesStored, VerifiesAndSearches, VerifiesWhere}
use Rattle.std.specs.Bool.{MatchBool}
use Rattle.mairix_tool.proofs.TableLaws.Alike.{same-but-digests}
use Rattle.mairix_tool.proofs.TableLaws.Formed.{named-paths}

-- the reply to a fault of the verification
abbrev verified-reply : Result (Unit {0}) Fault → Reply
verified-reply (Ok x) = reply_of (Ok 0)
verified-reply (Err fault) = reply_of (Err fault)

module _ {A O : Type 0} (g : Ghosts A) (h : OutGhosts O) (t : Table) (s : Search) (old read : A) where
  -- archives that aren't those that were indexed, or can't be verified
  pub unverified-searched : (verify : Bool) (fault : Fault) (out : O)
      → VerifiesWhere g verify t.archives old read (Err fault)
      → MatchBool verify (VerifiesAndSearches g h t s old read out out (reply_of (Err fault)))
      (Searches g h t s old read out out (reply_of (Err fault)))
  unverified-searched true fault out (Ok x, verifies, same) = absurd cc
  unverified-searched true fault out (Err e, verifies, same) =
      (read, Err e, verifies, (ap verified-reply same, refl, refl))
  unverified-searched false fault out asked = absurd (cc asked.1)

  pub verified-searched : (verify : Bool) (x : Unit {0}) (new : A) (before after : O) (reply : Reply)
      → VerifiesWhere g verify t.archives old read (Ok x)
      → Searches g h t s read new before after reply
      → MatchBool verify (VerifiesAndSearches g h t s old new before after reply)
      (Searches g h t s old new before after reply)
  verified-searched true x new before after reply (Err e, verifies, same) searched = absurd cc
  verified-searched true x new before after reply (Ok y, verifies, same) searched = (read, Ok y, verifies, searched)
  verified-searched false x new before after reply asked searched =
      subst (λ a. Searches g h t s a new before after reply) asked.0 searched

-- an index that is refused can't be searched
refused-index : (w : Wanted) (index : List ℕ) (few : length index < 2 ^ 64) (t : Table) (file : IsFileOfTable index t)
    (fault : Fault) → IsIndexRefusal w index fault
    → is_too_old t w ≡ false → renamed_archive t.archives w.paths ≡ None → ⊥
refused-index = grind (arith, no_fault, same-table, false≢true)

module _ {A O : Type 0} (g : Ghosts A) (h : OutGhosts O) (w : Wanted) (index : List ℕ) (few : length index < 2 ^ 64)
    (t : Table) (file : IsFileOfTable index t) (old new : A) (before after : O) (reply : Reply) where
  pub refused-searched : (fault : Fault) → IsIndexRefusal w index fault
      → SearchesStored g h w t old new before after reply
  refused-searched fault is fresh named = absurd (refused-index w _ few t file _ is fresh named)

  pub opened-searched : (u : Table) → IsFileOfTable index u → SearchesFor g h w u old new before after reply
      → SearchesStored g h w t old new before after reply
  opened-searched u f searched fresh named =
      inr (subst (λ v. SearchesFor g h w v old new before after reply) (same-table _ t u few file f)
      searched)

-- if words, rcfile and query are accepted, only lack of memory is left
pub wants-memory : (asked : Result Wanted Fault) (w : Wanted) (fault : Fault) → asked ≡ Ok w
    → IfSome (refusal_of_fault fault) (λ r. asked ≡ Err r) → IsEarly fault → fault ≡ of.Memory
wants-memory = grind arith

pub asks-nothing : {A O : Type 0} (IsCause : Fault → Type 0) (fault : Fault) (archives : A) (out : O) → IsCause fault
    → AsksNothing IsCause archives archives out out (reply_of (Err fault))
asks-nothing IsCause fault archives out cause =
    record { fault = fault; cause = cause; replied = refl; archives = refl; out = refl }

-- words, rcfile and query have one meaning
pub same-asked : (asked : Result Wanted Fault) (v w : Wanted) → asked ≡ Ok v → asked ≡ Ok w → v ≡ w
same-asked = grind arith

-- ---- the table that was indexed

-- what is known of all sources before they are read
all-known : (old : List (Option (List ℕ))) → ((bytes : List (List ℕ)) × (old ≡ map Some bytes))
    ⊎ ((bytes : List (List ℕ)) → old ≡ map Some bytes → ⊥)
all-known [] = inl ([], refl)
all-known (None ∷ old) = inr unknown
  where
    unknown : (bytes : List (List ℕ)) → None ∷ old ≡ map Some bytes → ⊥
    unknown [] e = cc
    unknown (b ∷ bytes) e = cc
all-known (Some b ∷ old) = go (all-known old)
  where
    later : ((bytes : List (List ℕ)) → old ≡ map Some bytes → ⊥) → (bytes : List (List ℕ))
        → Some b ∷ old ≡ map Some bytes → ⊥
    later none [] e = cc
    later none (c ∷ bytes) e = let rest : old ≡ map Some bytes = cc in none bytes rest

    go : ((bytes : List (List ℕ)) × (old ≡ map Some bytes)) ⊎ ((bytes : List (List ℕ)) → old ≡ map Some bytes → ⊥)
        → ((bytes : List (List ℕ)) × (Some b ∷ old ≡ map Some bytes))
        ⊎ ((bytes : List (List ℕ)) → Some b ∷ old ≡ map Some bytes → ⊥)
    go (inl (bytes, is)) = inl (b ∷ bytes, ap (λ l. Some b ∷ l) is)
    go (inr none) = inr (later none)

-- whether something is still known of each source
each-known : (new : List (Option (List ℕ))) → All IsSome new ⊎ (All IsSome new → ⊥)
each-known [] = inl (All-nil _)
each-known (None ∷ new) = inr (λ all. false≢true (All-head IsSome None new all))
each-known (Some b ∷ new) =
    elim (each-known new) [
      | inl all ↦ inl (All-cons IsSome (Some b) _ refl all)
      | inr none ↦ inr (λ all. none (All-tail IsSome (Some b) _ all))
    ]

known-or-not : (old new : List (Option (List ℕ))) → ((bytes : List (List ℕ)) × AreStillKnown old new bytes)
    ⊎ ((bytes : List (List ℕ)) → AreStillKnown old new bytes → ⊥)
known-or-not old new = go (all-known _) (each-known _)
  where
    go : ((bytes : List (List ℕ)) × (old ≡ map Some bytes)) ⊎ ((bytes : List (List ℕ)) → old ≡ map Some bytes → ⊥)
        → All IsSome new ⊎ (All IsSome new → ⊥)
        → ((bytes : List (List ℕ)) × AreStillKnown old new bytes)
        ⊎ ((bytes : List (List ℕ)) → AreStillKnown old new bytes → ⊥)
    go (inl (bytes, is)) (inl all) = inl (bytes, (is, all))
    go (inr none) each = inr (λ bytes known. none bytes known.0)
    go (inl (bytes, is)) (inr none) = inr (λ more known. none known.1)

same-known : (xs ys : List (List ℕ)) → map Some xs ≡ map Some ys → xs ≡ ys
same-known [] [] e = refl
same-known [] (y ∷ ys) e = absurd cc
same-known (x ∷ xs) [] e = absurd cc
same-known (x ∷ xs) (y ∷ ys) e =
    let first : x ≡ y = cc in
    let rest : map Some xs ≡ map Some ys = cc in
    λ i. first i ∷ same-known xs ys rest i

-- A view of what was indexed without digests has the table of the sources' archives, if their bytes are known, but for
-- its digests.
module _ (paths : List (List ℕ)) (unread read : List (Option (List ℕ))) (are : All IsPath paths) (view : Table)
    (formed : IsWellFormed view)
    (known : (bytes : List (List ℕ)) → AreStillKnown unread read bytes
    → AreSound (mboxes paths bytes) × (view ≡ table_by LeftOut (mboxes paths bytes))) where
  abbrev IsIndexed : Type 0
  IsIndexed = (t : Table) × IsIndexedTable paths unread read t × (but_digests view ≡ but_digests t)

  by-bytes : (bytes : List (List ℕ)) → AreStillKnown unread read bytes → IsIndexed
  by-bytes bytes still =
      let archives = mboxes paths bytes in
      let found = known bytes still in (
        table archives,
        record {
          formed = sound-table _ (named-paths _ _ are) found.0;
          known = λ others again. ap (λ b. table (mboxes paths b))
              (same-known _ _ (sym still.0 ∙ again.0));
        },
        ap but_digests found.1 ∙ same-but-digests LeftOut _,
      )

  unknown-bytes : ((bytes : List (List ℕ)) → AreStillKnown unread read bytes → ⊥) → IsIndexed
  unknown-bytes none =
      (view, record { formed = formed; known = λ bytes still. absurd (none bytes still) }, refl)

  pub indexed-table : (t : Table) × IsIndexedTable paths unread read t × (but_digests view ≡ but_digests t)
  indexed-table = elim (known-or-not unread read) [
    | inl still ↦ by-bytes still.0 still.1
    | inr none ↦ unknown-bytes none
  ]
