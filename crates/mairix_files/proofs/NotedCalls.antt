-- What a noted call says of the archives' bytes: those that are supposed agree with it, as long as any are known.
use Rattle.std.proofs.Common.{◌≡◌, ℕ, Bool, true, false, List, [], ◌∷◌, Option, None, Some, IfSome, Result, Ok, Err, IfOk, length, take, drop, refl, sym, subst, arith, if◌then◌else◌}
use Rattle.std.specs.Option.{ForSome}
use Rattle.std.proofs.lemmas.Bool.Decides.{nat_tests}
use Rattle.std.proofs.lemmas.Slice.Eq.{bytes_eq-Decides}
use Rattle.std.proofs.lemmas.Grind.{common_steps}
use Rattle.contract_words.specs.Archives.{IsLength, IsReadFromArchive, archive_at}
use Rattle.call_record.specs.declared.record.Record.{Record}
use Rattle.call_record.specs.Calls.{Call, read_at, measured, is_front, agrees_with, held_after}
use Rattle.call_record.specs.Noted.{Notes, held_by, call_of_read_at, call_of_length}

-- ---- what a call says of archives that agree with it

same-at : (is : Bool) (earlier : Option (List (List ℕ))) (held : List (List ℕ))
    → (if is then earlier else None) ≡ Some held → (is ≡ true) × (earlier ≡ Some held)
same-at true earlier held h = (refl, h)
same-at false earlier held h = cc

-- what is known of archives is what was supposed
known-is-supposed : (archives : List (List ℕ)) (calls : List Call) (held : List (List ℕ))
    → held_after archives calls ≡ Some held → held ≡ archives
known-is-supposed archives [] held h = grind arith
known-is-supposed archives (call ∷ earlier) held h =
    known-is-supposed archives earlier held (same-at (agrees_with call archives) _ held h).1

if-some : {A : Type 0} (o : Option A) (P : A → Type 0) → ForSome o P → IfSome o P
if-some None P h = tt
if-some (Some x) P h = h x refl

-- what follows if archives agree with the newest call
says : (archives : List (List ℕ)) (call : Call) (earlier : List Call) (P : List (List ℕ) → Type 0)
    → (agrees_with call archives ≡ true → P archives) → IfSome (held_after archives (call ∷ earlier)) P
says archives call earlier P h = if-some _ P (λ held e.
    let both = same-at (agrees_with call archives) (held_after archives earlier) held e in
    subst P (sym (known-is-supposed archives earlier held both.1)) (h both.0))

front : (got bytes : List ℕ) → is_front got bytes ≡ true
    → (got ≡ take (length got) bytes) × (length got ≡ 0 → bytes ≡ [])
unfolding is_front
front got bytes h = grind (arith, nat_tests, bytes_eq-Decides, common_steps)

measured-agrees : (n bytes : ℕ) (archives : List (List ℕ)) → agrees_with (measured n (Some bytes)) archives ≡ true
    → bytes ≡ length (archive_at archives n)
measured-agrees n bytes archives h = grind (arith, nat_tests)

-- the bytes of a noted read are in its archive
pub is-read : {E : Type 0} (old new : Record) (n offset : ℕ) (told : Result ℕ E) (into : List ℕ)
    → Notes (call_of_read_at n offset told into) old new
    → IfOk told (λ count. IsReadFromArchive n offset (take count into) (held_by new))
is-read old new n offset (Ok count) into notes =
    rw (notes.0, notes.1) (says old.supposed (read_at n offset (Some (take count into))) old.calls _
    (front (take count into) (drop offset (archive_at old.supposed n))))
is-read old new n offset (Err e) into notes = tt

-- a noted length is its archive's
pub is-length : {E : Type 0} (old new : Record) (n : ℕ) (told : Result ℕ E) → Notes (call_of_length n told) old new
    → IfOk told (λ bytes. IsLength n bytes (held_by new))
is-length old new n (Ok bytes) notes =
    rw (notes.0, notes.1)
    (says old.supposed (measured n (Some bytes)) old.calls _ (measured-agrees n bytes old.supposed))
is-length old new n (Err e) notes = tt
