-- What was read of a file, a piece at a time: each piece comes after the bytes before it.
use Rattle.std.proofs.Common.{◌≡◌, ◌∙◌, ap, sym, List, [], ℕ, ◌≤◌, ◌-◌, ◌+◌, ◌++◌, append_assoc, Option, Some, IfSome, IsSome, length, take, arith, Bool, true, if◌then◌else◌, replicate}
use Rattle.std.proofs.lemmas.List.{length-take-le, take-append-drop, take-append-le, take_all, take_at, take-take}
use Rattle.std.proofs.Math.Seq.{take-append-add}
use Rattle.std.specs.Io.KnownBytes.{Consumes}
use Rattle.contract_words.specs.Knowledge.{still_known}
use Rattle.mairix_run.specs.FileFronts.{GivesFront}
use borrow.Rule.Slice.PartMut.{put_mid}

-- what was read so far is after the old bytes, and what is left comes after it
abbrev pub HasRead : Option (List ℕ) → Option (List ℕ) → List ℕ → List ℕ → Type 0
HasRead before now old new = IfSome now (λ left. (read : List ℕ) × (new ≡ old ++ read) × (before ≡ Some (read ++ left)))

-- what was read so far is at the front of a slice, and what is left comes after it
abbrev pub HasFilled : Option (List ℕ) → Option (List ℕ) → ℕ → List ℕ → Type 0
HasFilled before now at into = IfSome now (λ left. before ≡ Some (take at into ++ left))

-- one piece more
pub reads_on : (before now next : Option (List ℕ)) (most : ℕ) (old new more : List ℕ) → HasRead before now old new
    → GivesFront most now next new more → HasRead before next old more
reads_on before now next most old new more h front = grind (arith, append_assoc, take-append-drop)

-- after a slice in the middle was filled
take-mid : (at n : ℕ) (into part : List ℕ) → at ≤ length into → n ≤ length part
    → take (at + n) (put_mid at (length into - at) into part) ≡ take at into ++ take n part
take-mid at n into part within bound = grind (arith, take-append-add, take-append-le, length-take-le)

-- one read more
pub fills_on : (before now next : Option (List ℕ)) (at n : ℕ) (into part : List ℕ) → HasFilled before now at into
    → (IsSome next → IsSome now) → Consumes (still_known now next) next (take n part) → at ≤ length into
    → n ≤ length part → HasFilled before next (at + n) (put_mid at (length into - at) into part)
fills_on before now next at n into part h known c within bound = grind (arith, append_assoc, take-mid)

-- a vector that was resized has zeros after the old bytes
pub grows : (ok : Bool) (start most end : ℕ) (old long : List ℕ) → ok ≡ true → start ≡ length old → end ≡ start + most
    → long ≡ (if ok then take end old ++ replicate (end - start) 0 else old) → long ≡ old ++ replicate most 0
grows ok start most end old long done at sum is = grind (arith, take_all)

-- what was read comes after the old bytes
pub put_after : (start n room : ℕ) (old zeros long part post rest : List ℕ) → start ≡ length old → long ≡ old ++ zeros
    → n ≤ length part → start + n ≤ room
    → take (start + n) (take room ((take start long ++ (part ++ post)) ++ rest)) ≡ old ++ take n part
put_after start n room old zeros long part post rest at grown bound within =
    let before : take start long ≡ old = ap (take start) grown ∙ take_at old zeros start (sym at) in
    let after = part ++ (post ++ rest) in
    let whole : (take start long ++ (part ++ post)) ++ rest ≡ old ++ after =
    ap (λ l. (l ++ (part ++ post)) ++ rest) before ∙ append_assoc old (part ++ post) rest
    ∙ ap (λ l. old ++ l) (append_assoc part post rest) in
    take-take (start + n) room ((take start long ++ (part ++ post)) ++ rest) within
    ∙ ap (take (start + n)) whole ∙ ap (λ k. take (k + n) (old ++ after)) at ∙ take-append-add old after n
    ∙ ap (λ l. old ++ l) (take-append-le n part (post ++ rest) bound)

pub gives_after : (before after : Option (List ℕ)) (room most n : ℕ) (old part new : List ℕ)
    → GivesFront room before after [] (take n part) → room ≡ most → new ≡ old ++ take n part
    → GivesFront most before after old new
gives_after before after room most n old part new front same is = grind arith
