-- Archives are verified exactly if they are those that were indexed, because each digest is compared with the indexed
-- one.
use Rattle.mail_answer.proofs.Words.{◌≡◌, ℕ, zero, suc, ◌+◌, ◌<◌, Bool, true, false, cond, List, [], ◌∷◌, ◌++◌, map, length, length-take, take, take-add, take_all, drop, drop-cons, Option, None, Some, IfSome, bytes_eq, refl, ap, ap₂, sym, ◌∙◌, subst, inl, add-one, Result, Ok, Err, OnOk, arith, length-map, map-append, bytes_eq-Decides, AllByRecursion, option_map_or, option_or, sha256, WasKnown, Archive, IsArchive, archive_length, archive_at, front_digest, ReadsDigest, ReadsFront, first_changed, stale_archive, ReportsStale, has_digest, first_altered, unverified_archive, AreVerified, ReportsVerified, ReadEach, AreReadOnce, FindsDigests, Ghosts, AnswerFaultKind, Stale, Device, OutOfMemory, OutFailed}
use Rattle.std.proofs.lemmas.Bool.{eq-eqb}
use Rattle.std.specs.Option.{option_eq}
use Rattle.std.specs.Prelude.{IfErr}
use Rattle.std.specs.Result.{MatchResult, IsErrAnd}
use Rattle.mail_answer.specs.Answers.{fails_by, kind_of}
use Rattle.mail_answer.specs.Faults.{has_fault, is_of_output}
use Rattle.mail_answer.specs.Verified.{ReadsOther}
use Rattle.mail_answer.specs.declared.fault.AnswerFault.{AnswerFault}
use Rattle.mail_index.specs.Versions.{IsDigest}
use Rattle.mail_answer.proofs.ArchiveLaws.DigestLemmas.{whole_digest}
use Rattle.mail_answer.proofs.ArchiveLaws.IndexedLemmas.{same_number, unchanged_length}
use Rattle.mail_answer.proofs.ArchiveLaws.KnowledgeLemmas.{some_later}

-- what follows from a test that succeeded
tested : (b : Bool) (next : Option ℕ) (n : ℕ) → cond b next (Some n) ≡ None → (b ≡ true) × (next ≡ None)
tested = grind arith

neither : (first second : Option ℕ) → option_or first second ≡ None → (first ≡ None) × (second ≡ None)
neither = grind arith

digest_told : (digest : Option (List ℕ)) (bytes : List ℕ) → option_map_or (λ d. bytes_eq d (sha256 bytes)) digest false
    ≡ true → digest ≡ Some (sha256 bytes)
digest_told = grind (arith, bytes_eq-Decides)

told_digest : (digest : Option (List ℕ)) (bytes : List ℕ) → digest ≡ Some (sha256 bytes)
    → option_map_or (λ d. bytes_eq d (sha256 bytes)) digest false ≡ true
told_digest = grind (arith, bytes_eq-Decides)

-- ---- none is unverified exactly if each is as it was indexed

lengths_from : (n : ℕ) (named : List Archive) (archives : List (List ℕ)) → length archives ≡ length named
    → first_changed n named archives ≡ None → map (λ a. a.length) named ≡ map length archives
lengths_from n [] [] e h = refl
lengths_from n [] (bytes ∷ archives) e h = absurd (omega arith)
lengths_from n (a ∷ named) [] e h = absurd (omega arith)
lengths_from n (a ∷ named) (bytes ∷ archives) e h = grind (arith, tested, lengths_from (n + 1) named archives)

digests_from : (n : ℕ) (named : List Archive) (archives : List (List ℕ)) → length archives ≡ length named
    → first_altered n named archives ≡ None
    → map (λ a. a.digest) named ≡ map (λ bytes. Some (sha256 bytes)) archives
digests_from n [] [] e h = refl
digests_from n [] (bytes ∷ archives) e h = absurd (omega arith)
digests_from n (a ∷ named) [] e h = absurd (omega arith)
digests_from n (a ∷ named) (bytes ∷ archives) e h =
    grind (arith, tested, digest_told, digests_from (n + 1) named archives)

from_lengths : (n : ℕ) (named : List Archive) (archives : List (List ℕ)) → map (λ a. a.length) named
    ≡ map length archives → first_changed n named archives ≡ None
from_lengths n [] archives h = refl
from_lengths n (a ∷ named) [] h = refl
from_lengths n (a ∷ named) (bytes ∷ archives) h = grind (arith, from_lengths (n + 1) named archives)

from_digests : (n : ℕ) (named : List Archive) (archives : List (List ℕ)) → map (λ a. a.digest) named
    ≡ map (λ bytes. Some (sha256 bytes)) archives → first_altered n named archives ≡ None
from_digests n [] archives h = refl
from_digests n (a ∷ named) [] h = refl
from_digests n (a ∷ named) (bytes ∷ archives) h = grind (arith, told_digest, from_digests (n + 1) named archives)

-- archives that are verified are those that were indexed
pub verified_are : (named : List Archive) (archives : List (List ℕ)) → unverified_archive named archives ≡ None
    → AreVerified named archives
verified_are = grind (arith, neither, same_number, lengths_from, digests_from)

-- archives that were indexed are verified
pub are_verified : (named : List Archive) (archives : List (List ℕ)) → AreVerified named archives
    → unverified_archive named archives ≡ None
are_verified = grind (arith, length-map, eq-eqb, from_lengths, from_digests)

-- ---- archive after archive

-- no archive before this one was found to be altered
abbrev pub UnalteredTo : List Archive → Option (List (List ℕ)) → ℕ → List Archive → Type 0
UnalteredTo named held n rest = IfSome held
    (λ archives. first_altered 0 named archives ≡ first_altered n rest (drop n archives))

-- the result at an archive, and at those after it
altered_next : (n : ℕ) (a : Archive) (rest : List Archive) (archives : List (List ℕ)) → n < length archives
    → first_altered n (a ∷ rest) (drop n archives)
    ≡ cond (has_digest a (archive_at archives n)) (first_altered (n + 1) rest (drop (n + 1) archives)) (Some n)
altered_next n a rest archives h =
    ap (λ bs. first_altered n (a ∷ rest) bs) (drop-cons archives n [] h)
    ∙ ap (λ k. cond (has_digest a (archive_at archives n)) (first_altered (n + 1) rest (drop k archives)) (Some n))
    (sym (add-one n))

named_length : (named : List Archive) (n : ℕ) (a : Archive) (rest : List Archive) → drop n named ≡ a ∷ rest
    → archive_length named n ≡ a.length
named_length [] zero a rest e = absurd cc
named_length [] (suc n) a rest e = absurd cc
named_length (b ∷ named) zero a rest e = let first : b ≡ a = cc in ap (λ t. t.length) first
named_length (b ∷ named) (suc n) a rest e = named_length named n a _ e

-- an archive that isn't stale is as long as it was indexed
fresh_length : (named : List Archive) (archives : List (List ℕ)) (n : ℕ) (a : Archive) (rest : List Archive)
    → stale_archive named archives ≡ None → n < length named → drop n named ≡ a ∷ rest
    → (length archives ≡ length named) × (length (archive_at archives n) ≡ a.length)
fresh_length = grind (arith, same_number, unchanged_length, named_length)

has_is : (digest : Option (List ℕ)) (d : List ℕ)
    → option_map_or (λ x. bytes_eq x d) digest false ≡ option_eq bytes_eq digest (Some d)
has_is None d = refl
has_is (Some x) d = refl

-- so the bytes that were read of its front decide whether the digest is the indexed one
pub told_next : (named : List Archive) (held : Option (List (List ℕ))) (n : ℕ) (a : Archive) (rest : List Archive)
    (read : Option (List ℕ)) → n < length named → drop n named ≡ a ∷ rest
    → IfSome held (λ archives. stale_archive named archives ≡ None) → UnalteredTo named held n (drop n named)
    → IfSome held (λ archives. read ≡ front_digest a.length (archive_at archives n))
    → IfSome held (λ archives. first_altered 0 named archives
    ≡ cond (option_eq bytes_eq a.digest read) (first_altered (n + 1) rest (drop (n + 1) archives)) (Some n))
told_next named None n a rest read h e fresh so_far told = tt
told_next named (Some archives) n a rest read h e fresh so_far told =
    let as_long = fresh_length _ _ n a _ fresh h e in
    so_far ∙ ap (λ t. first_altered n t (drop n archives)) e
    ∙ altered_next n a _ _ (omega (arith, as_long.0, h))
    ∙ ap (λ b. cond b (first_altered (n + 1) rest (drop (n + 1) archives)) (Some n))
    (has_is a.digest _
    ∙ ap (option_eq bytes_eq a.digest) (sym (told ∙ whole_digest _ _ as_long.1)))

-- the archive that was read isn't the one that was indexed
pub other_read : {A : Type 0} (g : Ghosts A) (n : ℕ) (a : Archive) (read : Option (List ℕ)) (before new : A)
    → option_eq bytes_eq a.digest read ≡ false → ReadsDigest g n a.length before new read → ReadsOther g n a before new
other_read g n a None before new other told = inl told
other_read g n a (Some d) before new other told = grind (arith, has_is)

-- the result is decided by digests if no archive is stale
pub told_by_digests : {T : Type 0} (named : List Archive) (held : Option (List (List ℕ))) (r : Result T AnswerFaultKind)
    → IfSome held (λ archives. stale_archive named archives ≡ None)
    → IfSome held (λ archives. ReportsStale (first_altered 0 named archives) r)
    → IfSome held (λ archives. ReportsVerified named archives r)
told_by_digests {T} named None r fresh h = tt
told_by_digests {T} named (Some archives) (Ok x) fresh h = grind arith
told_by_digests {T} named (Some archives) (Err (Stale n)) fresh h = grind arith
told_by_digests {T} named (Some archives) (Err Device) fresh h = tt
told_by_digests {T} named (Some archives) (Err OutOfMemory) fresh h = absurd h
told_by_digests {T} named (Some archives) (Err OutFailed) fresh h = absurd h

-- ---- what was read of each archive, also if no bytes are known

-- one more archive was read
more_each : {A : Type 0} (g : Ghosts A) (n : ℕ) (archives : List (List ℕ)) (bytes : List ℕ) (old before new : A)
    → ReadEach g n archives old before → ReadsFront g (n + length archives) bytes before new
    → ReadEach g n (archives ++ bytes ∷ []) old new
more_each {A} g n [] bytes old before new e front = grind arith
more_each {A} g n (first ∷ archives) bytes old before new so_far front = (
  so_far.0,
  so_far.1,
  more_each g (n + 1) archives _ _ _ _ so_far.2
      (grind arith),
)

whole_known : (named : List Archive) (held : Option (List (List ℕ))) (n : ℕ) (a : Archive) (rest : List Archive)
    (bytes : List ℕ) (archives : List (List ℕ)) → IfSome held (λ archives. stale_archive named archives ≡ None)
    → n < length named → drop n named ≡ a ∷ rest → length bytes ≡ a.length
    → IfSome held (λ archives. bytes ≡ take (length bytes) (archive_at archives n))
    → IfSome held (λ known. take n known ≡ archives)
    → IfSome held (λ known. take (n + 1) known ≡ archives ++ bytes ∷ [])
whole_known named None n a rest bytes archives fresh h e long front so_far = tt
whole_known named (Some known) n a rest bytes archives fresh h e long front so_far =
    let as_long = fresh_length named known n a rest fresh h e in
    let whole : bytes ≡ archive_at known n = front
    ∙ take_all (length bytes) (archive_at known n) (omega (arith, as_long.1, long)) in
    take-add n 1 known ∙ ap (λ xs. take n known ++ take 1 xs) (drop-cons known n [] (omega (arith, as_long.0, h)))
    ∙ ap₂ (λ xs x. xs ++ x ∷ []) so_far (sym whole)

-- each archive of version 2 has a digest
named_archive : (version : ℕ) (named : List Archive) (n : ℕ) (a : Archive) (rest : List Archive)
    → AllByRecursion (IsArchive version) named → drop n named ≡ a ∷ rest → IsArchive version a
named_archive version [] zero a rest all e = absurd cc
named_archive version [] (suc n) a rest all e = absurd cc
named_archive version (b ∷ named) zero a rest all e = grind arith
named_archive version (b ∷ named) (suc n) a rest all e = named_archive _ named n a _ all.1 e

-- what was read is the digest that was indexed
same_read : {A : Type 0} (g : Ghosts A) (n count : ℕ) (indexed read : Option (List ℕ)) (before new : A)
    → (indexed ≡ None → ⊥) → option_eq bytes_eq indexed read ≡ true → ReadsDigest g n count before new read
    → (bytes : List ℕ) × ReadsFront g n bytes before new × (length bytes ≡ count) × (indexed ≡ Some (sha256 bytes))
same_read g n count None read before new some same told = absurd (some refl)
same_read g n count (Some d) None before new some same told = absurd cc
same_read g n count (Some d) (Some e) before new some same told = grind (arith, bytes_eq-Decides)

-- one more archive has the indexed digest
pub more_read : {A : Type 0} (g : Ghosts A) (named : List Archive) (n : ℕ) (a : Archive) (rest : List Archive)
    (read : Option (List ℕ)) (old before new : A) → n < length named → drop n named ≡ a ∷ rest
    → AllByRecursion (IsArchive 2) named → IfSome (g.held new) (λ archives. stale_archive named archives ≡ None)
    → WasKnown (g.held before) (g.held new) → option_eq bytes_eq a.digest read ≡ true
    → ReadsDigest g n a.length before new read → AreReadOnce g named n old before → AreReadOnce g named (n + 1) old new
more_read {A} g named n a rest read old before new h e each fresh was same told so_far =
    let one = same_read g n _ _ _ _ _
    (λ none. omega (arith, subst (IsDigest 2) none (named_archive 2 _ n a _ each e).2)) same told in
    let bytes = one.0 in
    let archives = so_far.archives in
    let more = take-add n 1 named ∙ ap (λ xs. take n named ++ take 1 xs) e
    in
    let as_many = sym (length-map archives length)
    ∙ ap length (sym so_far.verified.lengths) ∙ length-map (take n named) (λ t. t.length) in
    let many : n ≡ 0 + length archives = omega (arith, as_many, length-take n named, h) in
    record {
      archives = archives ++ bytes ∷ [];
      each = more_each g 0 _ _ _ _ _ so_far.each
          (subst (λ k. ReadsFront g k bytes before new) many one.1);
      verified = record {
        lengths = ap (map (λ t. t.length)) more
            ∙ map-append _ _ _
            ∙ ap₂ (λ xs ys. xs ++ ys) so_far.verified.lengths (ap (λ k. k ∷ []) (sym one.2))
            ∙ sym (map-append _ _ _);
        digests = ap (map (λ t. t.digest)) more
            ∙ map-append _ _ _
            ∙ ap₂ (λ xs ys. xs ++ ys) so_far.verified.digests (ap (λ d. d ∷ []) one.3)
            ∙ sym (map-append _ _ _);
      };
      known = whole_known _ _ n a _ _ _ fresh h e one.2 one.1.known
          (some_later _ _ _ was so_far.known);
    }

pub all_read : {A : Type 0} (g : Ghosts A) (named : List Archive) (n : ℕ) (old new : A) → n ≡ length named
    → AreReadOnce g named n old new → AreReadOnce g named (length named) old new
all_read {A} g named n old new e so_far = subst (λ k. AreReadOnce g named k old new) e so_far

-- what was read of all of them
pub read_of_all : {A T : Type 0} (g : Ghosts A) (named : List Archive) (old new : A) (r : Result T AnswerFaultKind)
    → FindsDigests g named old new r → OnOk r ((read : List (List ℕ)) × AreVerified named read)
read_of_all {A} {T} g named old new (Ok x) found = (
  found.archives,
  subst (λ front. AreVerified front found.archives)
      (take_all (length named) named (omega arith)) found.verified,
)
read_of_all {A} {T} g named old new (Err kind) found = tt

-- ---- faults before any byte was sent

-- the result of a call as a result with the number of bytes sent: with a fault this is 0
abbrev pub IsUnsent : {T : Type 0} → Result T AnswerFaultKind → Result T AnswerFault → Type 0
IsUnsent r told = MatchResult r (λ x. told ≡ Ok x)
    (λ kind. IsErrAnd told (λ fault. fault ≡ record { kind = kind; sent = 0 }))

pub unsent_kind : {T : Type 0} (r : Result T AnswerFaultKind) (told : Result T AnswerFault) → IsUnsent r told → r
    ≡ kind_of told
unsent_kind = grind arith

pub always_ok : {T E : Type 0} (P : Type 0) (r : Result T E) → P → OnOk r P
always_ok P = grind arith

pub unsent_ok : {T : Type 0} (P : Type 0) (told : Result T AnswerFault) → OnOk (kind_of told) P → OnOk told P
unsent_ok P = grind arith

pub unsent_err : {T : Type 0} (P : AnswerFaultKind → Type 0) (told : Result T AnswerFault) → IfErr (kind_of told) P
    → IfErr told (λ fault. P fault.kind)
unsent_err P = grind arith

pub unsent_written : {T : Type 0} (r : Result T AnswerFaultKind) (told : Result T AnswerFault) → IsUnsent r told
    → has_fault is_of_output r ≡ false → IfErr told (λ fault. (fault.sent ≡ 0) × (is_of_output fault.kind ≡ false))
unsent_written = grind arith

pub unsent_fails : {T : Type 0} (kinds : AnswerFaultKind → Bool) (told : Result T AnswerFault)
    → has_fault kinds (kind_of told) ≡ fails_by kinds told
unsent_fails = grind arith
