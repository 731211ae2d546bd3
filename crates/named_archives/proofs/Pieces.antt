-- What a piece of a file gives, and that it stays a piece as long as the file's bytes are known.
use Rattle.std.proofs.Common.{◌≡◌, ◌≤◌, ℕ, ◌+◌, ◌-◌, min, List, Option, IfSome, length, take, drop, slice_range, sym, ap, ◌∙◌, arith, length-drop, length-take-le}
use Rattle.std.specs.Option.{ForSome}
use Rattle.std.proofs.lemmas.List.{take-take, drop-drop, drop-take}
use Rattle.named_files.specs.Entries.{IsReadFromFile}
use Rattle.named_archives.specs.Ahead.{IsPiece}

pub if-some : {A : Type 0} (o : Option A) (P : A → Type 0) → ForSome o P → IfSome o P
if-some o P h = grind arith

for-some : {A : Type 0} (o : Option A) (P : A → Type 0) → IfSome o P → ForSome o P
for-some o P h = grind arith

pub is-piece : (offset : ℕ) (bytes : List ℕ) (known : Option (List ℕ)) → IsReadFromFile offset bytes known
    → IsPiece offset bytes known
is-piece offset bytes known h = λ all e. (for-some known _ h all e).0

-- what is copied from a place in a piece is in the file at that place
copied : (file room got : List ℕ) (at front held count : ℕ) → held ≤ length room → front + count ≤ held
    → take held room ≡ take (length (take held room)) (drop at file)
    → take count got ≡ take count (slice_range room front held)
    → take count got ≡ take count (drop (at + front) file)
copied file room got at front held count within fits piece same =
    let long : length (take held room) ≡ held = length-take-le held room within in
    let more : front + (held - front) ≡ held = omega arith in
    let part : slice_range room front held ≡ take (held - front) (drop (at + front) file) =
    sym (drop-take front (held - front) room)
    ∙ ap (drop front) (ap (λ k. take k room) more ∙ piece ∙ ap (λ k. take k (drop at file)) (long ∙ sym more))
    ∙ drop-take front (held - front) (drop at file) ∙ ap (take (held - front)) (drop-drop front at file) in
    same ∙ ap (take count) part ∙ take-take count (held - front) (drop (at + front) file) (omega arith)

pub given : (offset at front held count : ℕ) (room got : List ℕ) (known : Option (List ℕ)) → held ≤ length room
    → front + count ≤ held → offset ≡ at + front → IsPiece at (take held room) known
    → take count got ≡ take count (slice_range room front held)
    → IfSome known (λ all. take count got ≡ take count (drop offset all))
given offset at front held count room got known within fits here piece same = grind (arith, if-some, copied)

-- the bytes that fit are in the piece
pub within-piece : (room : List ℕ) (front held into count : ℕ) → front ≤ held → held ≤ length room
    → count ≡ min (length (slice_range room front held)) into → front + count ≤ held
within-piece room front held into count order within e =
    let long : length (slice_range room front held) ≡ held - front =
    length-take-le (held - front) (drop front room) (omega (arith, length-drop front room)) in
    omega (arith, e, long)
