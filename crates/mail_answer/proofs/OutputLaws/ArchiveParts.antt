-- A part of an archive gives the archive's bytes, and its reads leave of the archives what reads of these leave.
use Rattle.mail_answer.proofs.Words.{◌≡◌, ℕ, zero, suc, ◌+◌, ◌-◌, ◌<◌, ◌≤◌, Bool, true, false, List, ◌++◌, Option, None, Some, IfSome, Result, Err, length, take, drop, refl, ap, sym, ◌∙◌, arith, take-append-le, length-drop, length-take-le, WasKnown, archive_at, span, IsReadFromArchive, Reading, IsInsideArchive, bytes_left, span_reading, Record, Ghosts, AnswerFaultKind, Stale, reading}
use Rattle.std.specs.Io.KnownBytes.{Consumes}
use Rattle.contract_words.specs.Devices.{Counted}
use Rattle.contract_words.specs.Knowledge.{still_known}
use Rattle.mail_answer.specs.Faults.{has_fault, is_of_archives, is_stale}
use Rattle.mail_answer.specs.Inside.ArchiveParts.{ReadsPart}
use Rattle.mail_answer.specs.Inside.Calls.{ReadsArchives}
use Rattle.mail_answer.specs.Inside.Readings.{ReadsUntil}
use Rattle.mail_answer.specs.Pieces.{EndsWithin}
use Rattle.mail_answer.specs.declared.output.archive_part.ArchivePart.{ArchivePart}
use Rattle.mail_answer.proofs.ArchiveLaws.CallLemmas.{keeps_self}
use Rattle.mail_answer.proofs.OutputLaws.PartReads.{until_self}
use Rattle.mail_answer.proofs.OutputLaws.ReadingLemmas.{piece_first}

-- an archive whose bytes are known doesn't end before its part does
pub ends_early : (held : Option (List (List ℕ))) (archive next left : ℕ) (bytes : List ℕ) → 0 < left
    → length bytes ≡ 0 → IsReadFromArchive archive next bytes held
    → IfSome held (λ archives. next + left ≤ length (archive_at archives archive)) → held ≡ None
ends_early None archive next left bytes some none read within = refl
ends_early (Some archives) archive next left bytes some none read within =
    absurd (omega (arith, ap length (read.1 none), length-drop next (archive_at archives archive)))

-- where a part is within an archive, so is no byte of it
pub none_inside : (number : ℕ) (held : Option (List (List ℕ))) (archive next left : ℕ)
    → IsInsideArchive number held (reading archive next left) → IsInsideArchive number held (reading archive next 0)
none_inside number None = grind arith
none_inside number (Some archives) = grind arith

-- while bytes are left, the archive hasn't ended early since the first read
pub fresh_yet : (now first left : ℕ) → 0 < left → first ≤ now → (0 < now → left ≡ 0) → now ≡ first
fresh_yet zero first left some since ended = omega (arith, since)
fresh_yet (suc now) first left some since ended = absurd (omega (arith, ended (omega arith), some))

-- a read gives the bytes that come first, and leaves those after them
pub gives_part : (old new : Option (List (List ℕ))) (archive next left n : ℕ) (into more : List ℕ) → 0 < n → n ≤ left
    → n ≤ length into → WasKnown old new → IsReadFromArchive archive next (take n into) new
    → Consumes (still_known (bytes_left old (reading archive next left))
    (bytes_left new (reading archive (next + n) (left - n))))
    (bytes_left new (reading archive (next + n) (left - n))) (take n (into ++ more))
gives_part old None archive next left n into more some le within was read = tt
gives_part None (Some archives) archive next left n into more some le within was read = absurd (cc was)
gives_part (Some before) (Some archives) archive next left n into more some le within was read =
    ap (λ held. take left (drop next (archive_at held archive))) same
    ∙ piece_first bytes next _ n le ∙ ap (λ l. l ++ take (left - n) (drop (next + n) bytes)) front
  where
    bytes : List ℕ
    bytes = archive_at archives archive

    same : before ≡ archives
    same = cc was

    front : take n (drop next bytes) ≡ take n (into ++ more)
    front = sym (take-append-le n into more within ∙ read.0
        ∙ ap (λ k. take k (drop next bytes)) (length-take-le n into within))

-- what holds of the bytes of a part, if something is still known of it, holds of the archive's bytes
pub part_told : (old new : Option (List (List ℕ))) (m : Record) (after : Reading) (P : List ℕ → Type 0)
    → WasKnown old new
    → IfSome (still_known (bytes_left old (span_reading m)) (bytes_left new after)) P
    → IfSome new (λ archives. P (span archives m))
part_told old None m after P was holds = tt
part_told old (Some archives) m after P was holds = grind arith

counted_same : (failed : Bool) (f f' e e' : ℕ) → e ≡ 0 → e' ≡ 0 → Counted failed (f + e) (f' + e') → Counted failed f f'
counted_same true f f' e e' none none' count = omega (arith, none, none', count)
counted_same false f f' e e' none none' count = omega (arith, none, none', count)

counted_early : (failed : Bool) (f f' e e' : ℕ) → e ≡ 0 → 0 < e' → f ≤ f' → Counted failed (f + e) (f' + e') → f' ≡ f
counted_early true f f' e e' none some rises count = omega (arith, none, some, rises, count)
counted_early false f f' e e' none some rises count = absurd (omega (arith, none, some, rises, count))

module _ {A : Type 0} (g : Ghosts A) where
  pub part_self : (part : ArchivePart A g) → ReadsPart g part part
  part_self = grind (arith, keeps_self, until_self)

  module _ (first now : ArchivePart A g) (reads : ReadsPart g first now) (none : first.early_ends ≡ 0) (failed : Bool)
      (count : Counted failed (g.failures first.archives.now + first.early_ends)
      (g.failures now.archives.now + now.early_ends)) where
    -- the archive ended early, and nothing was read after that
    pub part_ended : 0 < now.early_ends
        → EndsWithin g first.archive first.next first.left first.archives.now now.archives.now
    part_ended = grind (arith, counted_early)

    -- no archive ended early
    pub part_reads : {T : Type 0} (result : Result T AnswerFaultKind) → now.early_ends ≡ 0
        → has_fault is_of_archives result ≡ failed → has_fault is_stale result ≡ false
        → ReadsArchives g first.archives.now now.archives.now result
    part_reads = grind (arith, counted_same)

    -- the archive ended early
    pub part_ends_early : (T : Type 0) (n : ℕ) → 0 < now.early_ends
        → ReadsArchives {A = A} {T = T} g first.archives.now now.archives.now (Err (Stale n))
    part_ends_early T = grind (arith, counted_early)

  -- no read failed
  pub part_read : (first now : ArchivePart A g) → ReadsPart g first now → first.early_ends ≡ 0
      → Counted false (g.failures first.archives.now + first.early_ends) (g.failures now.archives.now + now.early_ends)
      → now.early_ends ≡ 0
      → ReadsUntil g first.archives.now now.archives.now (reading first.archive first.next first.left)
      (reading now.archive now.next now.left)
  part_read = grind (arith, counted_same)
