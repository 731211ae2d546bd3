-- What is known of a source after one more read: the bytes that it gave were the first of those that were left, or
-- nothing is known any more.
use Rattle.std.proofs.Common.{◌≡◌, ◌≤◌, ◌<◌, ◌∙◌, ℕ, ◌++◌, Bool, true, false, List, [], Option, None, Some, Result, Ok, Err, IfOk, length, take, drop, refl, sym, ap, arith, take-append-drop, length-take-le, if◌then◌else◌, ◌⊎◌}
use Rattle.std.proofs.lemmas.Bool.Decides.{nat_tests}
use Rattle.std.proofs.lemmas.Slice.Eq.{bytes_eq-Decides}
use Rattle.std.proofs.Math.Seq.{drop-nil}
use Rattle.std.proofs.lemmas.Grind.{common_steps}
use Rattle.std.specs.Prelude.{IsSome}
use Rattle.std.specs.Io.KnownBytes.{Consumes, IsAtEnd, ReadConsumes}
use Rattle.contract_words.specs.Archives.{archive_at}
use Rattle.contract_words.specs.Knowledge.{still_known}
use Rattle.call_record.specs.declared.record.Record.{Record}
use Rattle.call_record.specs.Calls.{read_next, left_by, is_front}
use Rattle.call_record.specs.Noted.{Notes, left_of, call_of_read}
use Rattle.call_record.proofs.Agreeing.{honest}

-- the bytes of a read are the first of these, and none only if none are left
front : (got bytes : List ℕ) → is_front got bytes ≡ true
    → (take (length got) bytes ≡ got) × (length got ≡ 0 → bytes ≡ [])
unfolding is_front
front got bytes h = grind (arith, nat_tests, bytes_eq-Decides, common_steps)

-- what a read does to the bytes that were left
abbrev Gave : Option (List ℕ) → Option (List ℕ) → List ℕ → Type 0
Gave old new got = Consumes (still_known old new) new got × (length got ≡ 0 → IsAtEnd new) × (IsSome new → IsSome old)

given-at : (got bytes : List ℕ) (is : Bool)
    → (is ≡ true → (take (length got) bytes ≡ got) × (length got ≡ 0 → bytes ≡ []))
    → Gave (Some bytes) (if is then Some (drop (length got) bytes) else None) got
given-at got bytes true h = (
  sym (take-append-drop (length got) bytes) ∙ ap (λ (l : List ℕ). l ++ drop (length got) bytes) (h refl).0,
  λ none. ap (drop (length got)) ((h refl).1 none) ∙ drop-nil (length got),
  λ s. refl,
)
given-at got bytes false h = (tt, λ none. tt, λ s. refl)

given : (old : Option (List ℕ)) (got : List ℕ) → Gave old (left_by (read_next (Some got)) old) got
given None got = (tt, λ none. tt, λ s. s)
given (Some bytes) got = given-at got bytes (is_front got bytes) (front got bytes)

-- a read that failed leaves what was left
failed : (old : Option (List ℕ)) → left_by (read_next None) old ≡ old
failed None = refl
failed (Some bytes) = refl

-- what a noted read says of the bytes that it gave, and of those that are left
pub noted-read : {E : Type 0} (archive : ℕ) (old new : Record) (result : Result ℕ E) (into : List ℕ)
    → IfOk result (λ n. n ≤ length into) → Notes (call_of_read result into) old new
    → ReadConsumes (still_known (left_of archive old) (left_of archive new)) (left_of archive new) result into
    × (IsSome (left_of archive new) → IsSome (left_of archive old))
noted-read archive old new (Ok n) into bound notes =
    let g = given (left_of archive old) (take n into) in
    let short : length (take n into) ≡ n = length-take-le n into bound in
    rw (notes.0, notes.1) ((g.0, λ none room. g.1 (short ∙ none)), g.2)
noted-read archive old new (Err e) into bound notes =
    rw (notes.0, notes.1, failed (left_of archive old)) (grind arith, λ s. s)

-- ---- a reader that gives what was supposed

-- a read whose bytes were the first of those that were left
gives-front : (old new : Record) (archive : ℕ) (bytes got left : List ℕ) → left_of archive old ≡ Some bytes
    → bytes ≡ got ++ left → (0 < length got) ⊎ (bytes ≡ []) → Notes (read_next (Some got)) old new
    → left_of archive new ≡ Some left
gives-front old new archive bytes got left known is some notes =
    let first : take (length got) bytes ≡ got = grind (arith, is, common_steps) in
    let rest : drop (length got) bytes ≡ left = grind (arith, is, common_steps) in
    rw (notes.0, notes.1) (honest (archive_at old.supposed archive) bytes got old.calls known first some ∙ ap Some rest)

-- After a read of such a reader the bytes that are left are those that the reader still has.
pub honest-read : {E : Type 0} (archive : ℕ) (old new : Record) (was now : Option (List ℕ)) (bytes : List ℕ)
    (result : Result ℕ E) (into : List ℕ) → 0 < length into → IfOk result (λ n. n ≤ length into)
    → was ≡ Some bytes → left_of archive old ≡ Some bytes → ReadConsumes was now result into
    → Notes (call_of_read result into) old new → left_of archive new ≡ now
honest-read archive old new was None bytes (Ok n) into room bound e known reads notes = grind (arith, e, reads)
honest-read archive old new was (Some left) bytes (Ok n) into room bound e known reads notes =
    grind (arith, gives-front, length-take-le)
honest-read archive old new was now bytes (Err x) into room bound e known reads notes = grind (arith, failed)
