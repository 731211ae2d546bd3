-- If a file that is there can't be opened, the system refuses that, or memory ran out.
use Rattle.std.proofs.Common.{◌≡◌, ◌⊎◌, inl, inr, ℕ, zero, suc, ◌<◌, false, true, List, [], ◌∷◌, length, All, None, Some, IsSome, Result, is_err, OnErr, slice_index_or, sym, subst, arith}
use Rattle.std.proofs.lemmas.List.Elements.{All-head, All-tail}
use Rattle.named_files.specs.Entries.{Entry, bytes_of}
use Rattle.named_files.specs.Refusals.{HasCause}
use Rattle.named_files.specs.declared.refusal.Refusal.{Refusal}
use Rattle.named_files.specs.declared.refusal.Refusal.TheVariants.{Memory, Refused}
use Rattle.named_archives.specs.Names.{files_of}
use Rattle.named_archives.specs.Progress.{CannotRead, is_for_memory}

-- if all files are there, the one of this name is
name-there : {N : Type 0} (text : N → List ℕ) (holds : List ℕ → Entry) (names : List N) (n : ℕ) (name : N)
    → n < length names
    → name ≡ slice_index_or names n name → All IsSome (files_of text holds names)
    → IsSome (bytes_of (holds (text name)))
name-there text holds [] n name below is there = absurd (omega (arith, below))
name-there text holds (here ∷ names) zero name below is there =
    subst (λ x. IsSome (bytes_of (holds (text x)))) (sym is)
    (All-head IsSome (bytes_of (holds (text here))) (files_of text holds names) there)
name-there text holds (here ∷ names) (suc n) name below is there =
    name-there text holds names n name (omega (arith, below)) is
    (All-tail IsSome (bytes_of (holds (text here))) (files_of text holds names) there)

pub cannot-open : {N : Type 0} (text : N → List ℕ) (CanRefuse ReadsCanFail : Type 0) (holds : List ℕ → Entry)
    (names : List N)
    (n : ℕ) (name : N) → n < length names → name ≡ slice_index_or names n name
    → All IsSome (files_of text holds names) → (why : Refusal) → is_for_memory (Some why) ≡ false
    → HasCause why ((bytes_of (holds (text name)) ≡ None) ⊎ CanRefuse) → CannotRead CanRefuse ReadsCanFail
cannot-open text CanRefuse ReadsCanFail holds names n name below is there Memory not cause = absurd cc
cannot-open text CanRefuse ReadsCanFail holds names n name below is there Refused not (inr can) = ∣ inl can ∣₁
cannot-open text CanRefuse ReadsCanFail holds names n name below is there Refused not (inl none) =
    let some : false ≡ true = subst IsSome none (name-there text holds names n name below is there) in absurd cc

-- what is so after an error
pub on-err : {T E : Type 0} (r : Result T E) (P : Type 0) → is_err r ≡ true → OnErr r P → P
on-err r P failed h = grind arith
