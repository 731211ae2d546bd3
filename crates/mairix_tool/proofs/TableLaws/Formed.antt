-- The tables that an index of sound archives may have are well-formed: theirs, one with other digests, and that of
-- version 1.
use Rattle.mairix_tool.proofs.Words.{◌≡◌, ◌∙◌, ℕ, zero, suc, ◌+◌, ◌<◌, ◌≤◌, Bool, true, false, not, cond, All, List, [], ◌∷◌, length, map, refl, sym, ap, subst, arith, inl, inr, AllByRecursion, nat_tests, length-map, All-nil, All-cons, All-head, All-tail, recursion_from_All, Name, Text, Record, IsFileOfTable, index_file, is_of_kind, Archive, Key, Table, archive_length, IsPath, IsArchive, IsMessage, IsKey, IsWellFormed, Follows, KeyBefore, AllNext, newest, IsDigest, AreSound, Mbox, table, mboxes, without_digest, keys_but_names, but_digests, old_table, HasDigests}
use Rattle.mail_index.specs.Limits.{most_in_archive}
use Rattle.mail_index.proofs.BuildLaws.DraftLemmas.{all-weaker}
use Rattle.index_job.proofs.SoundTables.Whole.{sound-table}
use Rattle.mairix_tool.proofs.TableLaws.ThreadLinks.{BeforeAll, below-all, rest-sorted}

-- ---- archives without digests

named-old : (archives : List Archive) → AllByRecursion (IsArchive newest) archives
    → AllByRecursion (IsArchive 1) (map without_digest archives)
named-old [] all = tt
named-old (a ∷ archives) all = ((all.0.0, all.0.1, refl), named-old archives all.1)

length-old : (archives : List Archive) (n : ℕ) → archive_length (map without_digest archives) n
    ≡ archive_length archives n
length-old [] n = refl
length-old (a ∷ archives) zero = refl
length-old (a ∷ archives) (suc n) = length-old archives n

-- messages of archives are also messages of archives that differ only in their digests
placed-same : (xs ys : List Archive) → map without_digest xs ≡ map without_digest ys → (m : Record) → IsMessage xs m
    → IsMessage ys m
placed-same xs ys same m is =
    let many = sym (length-map xs without_digest) ∙ ap length same
    ∙ length-map ys without_digest in
    let long =
    sym (length-old xs _) ∙ ap (λ l. archive_length l m.archive) same ∙ length-old ys _
    in
    record {
      exists = subst (λ n. m.archive < n) many is.exists;
      within = subst (λ n. m.offset + m.length ≤ n) long is.within;
      size = is.size;
      date = is.date;
    }

without-twice : (archives : List Archive) → map without_digest archives
    ≡ map without_digest (map without_digest archives)
without-twice [] = refl
without-twice (a ∷ archives) = ap (λ l. without_digest a ∷ l) (without-twice archives)

-- archives with digests that differ from valid ones only in these are valid too
named-otherwise : (xs ys : List Archive) → map without_digest xs ≡ map without_digest ys
    → AllByRecursion (IsArchive newest) xs → AllByRecursion (λ (a : Archive). IsDigest newest a.digest) ys
    → AllByRecursion (IsArchive newest) ys
named-otherwise [] [] same all digests = tt
named-otherwise [] (y ∷ ys) same all digests = absurd cc
named-otherwise (x ∷ xs) [] same all digests = absurd cc
named-otherwise (x ∷ xs) (y ∷ ys) same all digests =
    let first : without_digest x ≡ without_digest y = cc in
    let rest : map without_digest xs ≡ map without_digest ys = cc in
    let path = ap (λ a. a.path) first in
    let long = ap (λ a. a.length) first in (
      (subst IsPath path all.0.0, subst (λ n. n ≤ most_in_archive) long all.0.1, digests.0),
      named-otherwise xs ys rest all.1 digests.1,
    )

-- ---- keys without names

few-kept : (ks : List Key) → length (keys_but_names ks) ≤ length ks
few-kept [] = omega arith
few-kept (k ∷ ks) = go _ (few-kept ks)
  where
    go : (named : Bool) → length (keys_but_names ks) ≤ length ks
        → length (cond (not named) (k ∷ keys_but_names ks) (keys_but_names ks)) ≤ length (k ∷ ks)
    go named h = grind arith

keys-old : (count : ℕ) (ks : List Key) → AllByRecursion (IsKey newest count) ks
    → AllByRecursion (IsKey 1 count) (keys_but_names ks)
keys-old count [] all = tt
keys-old count (k ∷ ks) all = go _ refl (keys-old _ ks all.1)
  where
    go : (named : Bool) → is_of_kind (Text Name) k ≡ named → AllByRecursion (IsKey 1 count) (keys_but_names ks)
        → AllByRecursion (IsKey 1 count) (cond (not named) (k ∷ keys_but_names ks) (keys_but_names ks))
    go named h h2 = grind (arith, nat_tests)

before-kept : (a : Key) (ks : List Key) → BeforeAll a ks → BeforeAll a (keys_but_names ks)
before-kept a [] before = tt
before-kept a (k ∷ ks) before = go _ (before-kept a ks before.1)
  where
    go : (named : Bool) → BeforeAll a (keys_but_names ks)
        → BeforeAll a (cond (not named) (k ∷ keys_but_names ks) (keys_but_names ks))
    go named h = grind arith

next-sorted : (a : Key) (ks : List Key) → BeforeAll a ks → AllNext KeyBefore ks → AllNext KeyBefore (a ∷ ks)
next-sorted = grind arith

sorted-old : (ks : List Key) → AllNext KeyBefore ks → AllNext KeyBefore (keys_but_names ks)
sorted-old [] sorted = tt
sorted-old (k ∷ ks) sorted = go _ (sorted-old ks (rest-sorted k _ sorted))
  where
    go : (named : Bool) → AllNext KeyBefore (keys_but_names ks)
        → AllNext KeyBefore (cond (not named) (k ∷ keys_but_names ks) (keys_but_names ks))
    go true rest = rest
    go false rest = next-sorted k _ (before-kept k _ (below-all k _ sorted)) rest

-- ---- the tables

module _ (archives : List Mbox) (paths : All (λ (a : Mbox). IsPath a.path) archives) (sound : AreSound archives) where
  abbrev whole : Table
  whole = table archives

  formed : IsWellFormed whole
  formed = sound-table _ paths sound

  pub old-formed : IsWellFormed (old_table whole)
  old-formed = record {
    version = inl refl;
    archive_count = omega (arith, length-map whole.archives without_digest, formed.archive_count);
    message_count = formed.message_count;
    key_count = omega (arith, few-kept whole.keys, formed.key_count);
    archives = named-old _ formed.archives;
    messages = all-weaker _ _
        (placed-same _ _ (without-twice _)) _
        formed.messages;
    in_order = formed.in_order;
    keys = keys-old _ _ formed.keys;
    sorted = sorted-old _ formed.sorted;
  }

  -- a table that differs only in its digests
  pub otherwise-formed : (t : Table) → but_digests t ≡ but_digests whole → HasDigests t → IsWellFormed t
  otherwise-formed t same digests =
      let back = sym same in
      let version = ap (λ u. u.version) back in
      let named =
      ap (λ u. u.archives) back in
      let messages = ap (λ u. u.messages) back in
      let keys = ap (λ u. u.keys) back in
      let listed =
      subst (λ ms. AllByRecursion (IsKey newest (length ms)) whole.keys) messages formed.keys in
      let placed =
      all-weaker _ _ (placed-same _ _ named)
      _ formed.messages in
      record {
        version = inr (sym version);
        archive_count = omega (
          arith,
          length-map whole.archives without_digest,
          length-map t.archives without_digest,
          ap length named,
          formed.archive_count,
        );
        message_count = omega (arith, ap length messages, formed.message_count);
        key_count = omega (arith, ap length keys, formed.key_count);
        archives = subst (λ v. AllByRecursion (IsArchive v) t.archives) version
            (named-otherwise _ _ named formed.archives
            (recursion_from_All _ _ digests));
        messages = subst (λ ms. AllByRecursion (IsMessage t.archives) ms) messages placed;
        in_order = subst (λ ms. AllNext Follows ms) messages formed.in_order;
        keys = subst (λ v. AllByRecursion (IsKey v (length t.messages)) t.keys) version
            (subst (λ ks. AllByRecursion (IsKey newest (length t.messages)) ks) keys listed);
        sorted = subst (λ ks. AllNext KeyBefore ks) keys formed.sorted;
      }

-- ---- the files

-- archives that were indexed by paths have these paths
pub named-paths : (paths bytes : List (List ℕ)) → All IsPath paths
    → All (λ (a : Mbox). IsPath a.path) (mboxes paths bytes)
named-paths [] bytes all = All-nil _
named-paths (p ∷ paths) [] all = All-nil _
named-paths (p ∷ paths) (b ∷ bytes) all =
    All-cons (λ a. IsPath a.path) _ _
    (All-head IsPath p paths all) (named-paths paths bytes (All-tail IsPath p _ all))

pub whole-file : (archives : List Mbox) (index : List ℕ) → All (λ (a : Mbox). IsPath a.path) archives
    → AreSound archives → index ≡ index_file (table archives) → IsFileOfTable index (table archives)
whole-file archives index paths sound is = (sound-table _ paths sound, is)

module _ (paths bytes : List (List ℕ)) (index : List ℕ) (are : All IsPath paths) (sound : AreSound (mboxes paths bytes))
  where
    abbrev indexed : Table
    indexed = table (mboxes paths bytes)

    pub indexed-file : index ≡ index_file indexed → IsFileOfTable index indexed
    indexed-file is = whole-file _ _ (named-paths _ _ are) sound is

    pub otherwise-file : (t : Table) → but_digests t ≡ but_digests indexed → HasDigests t → index ≡ index_file t
        → IsFileOfTable index t
    otherwise-file t same digests is = (
      otherwise-formed (mboxes paths bytes) (named-paths paths bytes are) sound t same
          digests,
      is,
    )

    pub before-file : index ≡ index_file (old_table indexed) → IsFileOfTable index (old_table indexed)
    before-file is = (old-formed (mboxes paths bytes) (named-paths paths bytes are) sound, is)
