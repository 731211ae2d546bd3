-- Sources of names whose reports agree are still known after they are indexed. One that has failed has a cause.
use Rattle.std.proofs.Common.{◌≡◌, ◌∙◌, ◌<◌, ℕ, zero, suc, Bool, false, List, [], ◌∷◌, map, All, Option, None, Some, IsSome, refl, sym, subst, arith, slice_index}
use Rattle.std.proofs.lemmas.List.Elements.{All-cons, All-head, All-nil, All-tail}
use Rattle.std.specs.List.{AllZip, list_any}
use Rattle.contract_words.specs.Devices.{Counted}
use Rattle.mbox_cutter.specs.Sources.{Stays}
use Rattle.mbox_cutter.specs.declared.device.Source.{Ghosts}
use Rattle.named_archives.specs.Progress.{bytes_left_in}
use Rattle.named_archives.specs.declared.named_source.Progress.{Progress}

-- what is left of a file that was opened, or all of one that wasn't
left-some : {F : Type 0} (rest : F → Option (List ℕ)) (all : Option (List ℕ)) (file : Option F) (progress : Progress)
    → (IsSome file → IsSome (bytes_left_in rest all file progress)) → IsSome all
    → IsSome (bytes_left_in rest all file progress)
left-some rest all file progress h some = grind arith

-- of a file that wasn't opened all is left
not-opened : {F : Type 0} (rest : F → Option (List ℕ)) (all : Option (List ℕ)) (file : Option F) (progress : Progress)
    → file ≡ None → bytes_left_in rest all file progress ≡ all
not-opened rest all file progress is = grind arith

module _ {S F : Type 0} (rest : F → Option (List ℕ)) (all : S → Option (List ℕ)) (file : S → Option F)
    (progress : S → Progress) (failures : S → ℕ) where
  abbrev left : S → Option (List ℕ)
  left s = bytes_left_in rest (all s) (file s) (progress s)

  -- no call has failed, and the file wasn't opened
  abbrev IsNew : S → Type 0
  IsNew s = (failures s ≡ 0) × (file s ≡ None)

  -- if all reports agree, the bytes of a source without a failure stayed known
  abbrev IsReported : S → Type 0
  IsReported s = failures s ≡ 0 → IsSome (file s) → IsSome (left s)

  module _ (g : Ghosts S)
      (same : (old new : S) → Stays g old new → (bytes : List ℕ) → all old ≡ Some bytes → all new ≡ Some bytes) where
    -- of a source that was new all is known
    whole : (old new : S) (bytes : List ℕ) → Stays g old new → IsNew old → left old ≡ Some bytes → IsSome (all new)
    whole old new bytes stay fresh here = subst IsSome
        (sym (same old new stay bytes (sym (not-opened rest (all old) (file old) (progress old) fresh.1) ∙ here))) refl

    -- sources that were new, of these files, are known now if none has failed
    pub known-now : (olds news : List S) (files : List (List ℕ)) → AllZip (Stays g) olds news → All IsNew olds
        → map left olds ≡ map Some files → ((n : ℕ) → slice_index (map failures news) n ≡ 0) → All IsReported news
        → All IsSome (map left news)
    known-now [] [] files stay fresh are zeros told = All-nil IsSome
    known-now [] (new ∷ news) files stay fresh are zeros told = absurd stay
    known-now (old ∷ olds) [] files stay fresh are zeros told = absurd stay
    known-now (old ∷ olds) (new ∷ news) [] stay fresh are zeros told = absurd cc
    known-now (old ∷ olds) (new ∷ news) (bytes ∷ files) stay fresh are zeros told =
        All-cons IsSome (left new) (map left news) (left-some rest (all new) (file new) (progress new)
        (All-head IsReported new news told (zeros 0))
        (whole old new bytes stay.0 (All-head IsNew old olds fresh) (grind arith)))
        (known-now olds news files stay.1 (All-tail IsNew old olds fresh) (grind arith) (λ n. zeros (suc n))
        (All-tail IsReported new news told))

    -- If each source that has failed has a cause, unless its file isn't there or memory ran out: so has the source with
    -- number n, which was new, and whose file is there.
    pub has-cause : (lacks : S → Bool) (Cause : Type 0)
        → ((s : S) → 0 < failures s → lacks s ≡ false → IsSome (all s) → Cause)
        → (olds news : List S) (files : List (List ℕ)) → AllZip (Stays g) olds news → All IsNew olds
        → map left olds ≡ map Some files → list_any lacks news ≡ false
        → (n : ℕ) → 0 < slice_index (map failures news) n → Cause
    has-cause lacks Cause failed [] [] files stay fresh are none n rose = absurd (omega (arith, rose))
    has-cause lacks Cause failed [] (new ∷ news) files stay fresh are none n rose = absurd stay
    has-cause lacks Cause failed (old ∷ olds) [] files stay fresh are none n rose = absurd stay
    has-cause lacks Cause failed (old ∷ olds) (new ∷ news) [] stay fresh are none n rose = absurd cc
    has-cause lacks Cause failed (old ∷ olds) (new ∷ news) (bytes ∷ files) stay fresh are none zero rose =
        failed new rose (grind arith) (whole old new bytes stay.0 (All-head IsNew old olds fresh) (grind arith))
    has-cause lacks Cause failed (old ∷ olds) (new ∷ news) (bytes ∷ files) stay fresh are none (suc n) rose =
        has-cause lacks Cause failed olds news files stay.1 (All-tail IsNew old olds fresh) (grind arith) (grind arith)
        n rose

  counts-new : (sources : List S) → All IsNew sources → (n : ℕ) → slice_index (map failures sources) n ≡ 0
  counts-new [] fresh n = refl
  counts-new (s ∷ sources) fresh zero = (All-head IsNew s sources fresh).0
  counts-new (s ∷ sources) fresh (suc n) = counts-new sources (All-tail IsNew s sources fresh) n

  -- the counts of sources that were new begin at 0
  pub counted-new : (sources : List S) → All IsNew sources → (failed : ℕ → Bool) (counts : List ℕ)
      → ((n : ℕ) → Counted (failed n) (slice_index (map failures sources) n) (slice_index counts n)) → (n : ℕ)
      → Counted (failed n) 0 (slice_index counts n)
  counted-new sources fresh failed counts h n = grind (arith, counts-new)
