-- Files that were found in one of the states of the first look were found in a first state.
use Rattle.std.proofs.Common.{◌≡◌, ◌∙◌, ◌++◌, ◌<◌, ◌+◌, ℕ, zero, suc, Bool, false, List, [], ◌∷◌, All, Option, None, Some, IsSome, Result, Ok, Err, OnOk, length, map, slice_get, slice_index, refl, sym, subst, ap, arith}
use mathlib.Core.Logic.{∥∥₁_map}
use Rattle.std.proofs.lemmas.List.{length-map, reverse-append}
use Rattle.std.proofs.lemmas.List.FromFn.{length-map-range_with_len}
use Rattle.std.proofs.lemmas.List.Elements.{All-cons, All-head, All-nil, All-tail, Contains-append_left, Contains-append_right}
use Rattle.std.specs.List.{AllZip, Contains, range_with_len}
use Rattle.std.specs.Option.{ForSome}
use Rattle.mbox_cutter.specs.Sources.{Stays}
use Rattle.mbox_cutter.specs.declared.device.Source.{Ghosts}
use Rattle.named_archives.specs.Progress.{IsFoundInState}
use Rattle.named_archives.specs.States.{IsInOneOf, noted_states}
use Rattle.named_files.proofs.FoundStates.{found-earlier, found-later, only-weaker}
use Rattle.named_files.specs.FoundStates.{AreFoundOnly, AreReadInFirstStates, AddsFiles, IsFoundSince}
use Rattle.run_faults.specs.declared.fault.Fault.{Fault}
use Rattle.mairix_options.specs.declared.command_line.Plan.{Plan}
use Rattle.mbox_cutter.specs.declared.device.Out.{Ghosts as OutGhosts}
use Rattle.mairix_run.specs.Answered.{result_by, result_with_memory}
use Rattle.mairix_run.specs.FirstStates.{OnAnswer}
use Rattle.mairix_run.specs.LastFlush.{IsFlushed}
use Rattle.mairix_run.specs.MadeFiles.{IsSettled}
use Rattle.mairix_run.specs.Stops.{ending_by, ending_of_result, ending_of_stopped}
use Rattle.mairix_run.specs.Tasks.{is_index_run}
use Rattle.mairix_run.specs.declared.stopped.Stopped.{Stopped}
use Rattle.mairix_run.specs.declared.stopped.Stopped.TheVariants.{CannotOpen, Fault as Because}

-- ---- states that were found first

module _ {S : Type 0} where
  -- a state that was found first is noted
  contained-noted : (states : List S) (state : S) → Contains states state
      → Contains (noted_states states) (Some state)
  contained-noted [] state (k, below, is) = absurd (omega (arith, below))
  contained-noted (x ∷ states) state (zero, below, is) =
      subst (λ l. Contains l (Some state)) (sym (reverse-append (Some x ∷ []) (map Some states)))
      (Contains-append_right (noted_states states) (Some x ∷ []) (Some state) (0, omega arith, ap Some is))
  contained-noted (x ∷ states) state (suc k, below, is) =
      subst (λ l. Contains l (Some state)) (sym (reverse-append (Some x ∷ []) (map Some states)))
      (Contains-append_left (noted_states states) (Some x ∷ []) (Some state)
      (contained-noted states state (k, omega (arith, below), is)))

  one-first : (states : List S) (old mid new : List (Option S)) → mid ≡ noted_states states ++ old → AddsFiles mid new
      → (found : Option S) → IsInOneOf states found → IsSome found × ∥ IsFoundSince old new found ∥₁
  one-first states old mid new is ext None among = absurd among
  one-first states old mid new is ext (Some state) among = (
    refl,
    ∥∥₁_map among (λ contained.
        found-later old mid new (Some state) ext
        (record { more = noted_states states; added = is; contained = contained-noted states state contained })),
  )

  -- files that were found in these states were found in first ones
  pub in-first-states : (states : List S) (old mid new reads reads' : List (Option S))
      → mid ≡ noted_states states ++ old → AddsFiles mid new → AreFoundOnly (IsInOneOf states) reads reads'
      → AreReadInFirstStates old new reads reads'
  in-first-states states old mid new reads reads' is ext only =
      only-weaker (IsInOneOf states) (λ found. IsSome found × ∥ IsFoundSince old new found ∥₁) reads reads'
      (one-first states old mid new is ext) only

  -- first states since a later moment are first states since an earlier one
  pub first-earlier : (old mid new reads reads' : List (Option S)) → AddsFiles old mid
      → AreReadInFirstStates mid new reads reads' → AreReadInFirstStates old new reads reads'
  first-earlier old mid new reads reads' ext only =
      only-weaker (λ found. IsSome found × ∥ IsFoundSince mid new found ∥₁)
      (λ found. IsSome found × ∥ IsFoundSince old new found ∥₁) reads reads'
      (λ found is. (is.0, ∥∥₁_map is.1 (found-earlier old mid new found ext))) only

-- ---- results that are no fault

module _ (P : Type 0) where
  -- what holds without a fault holds of a reply that is no fault
  pub ok-without-fault : (status : ℕ) (fault : Option Fault) → (fault ≡ None → P) → OnOk (result_by status fault) P
  ok-without-fault status None h = h refl
  ok-without-fault status (Some fault) h = cc

  -- lack of memory in place of a fault is a fault
  pub ok-memory : (lacks : Bool) (result : Result ℕ Fault) → OnOk result P → OnOk (result_with_memory lacks result) P
  ok-memory lacks (Ok status) h = h
  ok-memory lacks (Err fault) h = cc

  -- a file that was settled was written
  pub ok-settled : (written result : Result ℕ Fault) → IsSettled written result → OnOk written P → OnOk result P
  ok-settled (Ok own) (Ok status) is h = h
  ok-settled (Err fault) (Ok status) is h = absurd cc
  ok-settled written (Err fault) is h = cc

  -- what was flushed was written
  pub ok-flushed : {O : Type 0} (g : OutGhosts O) (handed_on : O → Option (List ℕ)) (written : Result ℕ Fault)
      (old new : O) (result : Result ℕ Fault) → IsFlushed g handed_on written old new result → OnOk written P
      → OnOk result P
  ok-flushed g handed_on (Ok own) old new (Ok status) is h = h
  ok-flushed g handed_on (Err fault) old new (Ok status) is h = absurd (let same = is.0 in cc)
  ok-flushed g handed_on written old new (Err fault) is h = cc

  -- a run that wasn't stopped has a status by what was written
  pub ok-ended : (written : Result ℕ Fault) (result : Result ℕ Stopped)
      → ending_of_result result ≡ ending_by written → OnOk written P → OnOk result P
  ok-ended (Ok own) (Ok status) is h = h
  ok-ended (Err fault) (Ok status) is h = absurd cc
  ok-ended written (Err stopped) is h = cc

  -- a search has an answer if it wasn't stopped
  pub ok-answered : (E : Type 0) (plan : Plan) (result : Result ℕ Stopped) → (is_index_run plan ≡ false → OnOk result P)
      → OnAnswer {E = E} (Ok plan) (ending_of_result result) P
  ok-answered E plan (Ok status) h = h
  ok-answered E plan (Err (CannotOpen path)) h = cc
  ok-answered E plan (Err (Because fault)) h = cc

  -- a run that was stopped has no answer
  pub none-answered : {E : Type 0} (plan : Result Plan E) (stopped : Stopped)
      → OnAnswer plan (ending_of_stopped stopped) P
  none-answered (Ok plan) (CannotOpen path) = cc
  none-answered (Ok plan) (Because fault) = cc
  none-answered (Err given) stopped = cc

-- what follows
pub ok-then : {T E : Type 0} (P Q : Type 0) (result : Result T E) → OnOk result P → (P → Q) → OnOk result Q
ok-then P Q (Ok x) h f = f h
ok-then P Q (Err e) h f = cc

pub ok-both : {T E : Type 0} (P Q : Type 0) (result : Result T E) → OnOk result P → OnOk result Q → OnOk result (P × Q)
ok-both P Q (Ok x) h k = (h, k)
ok-both P Q (Err e) h k = cc

-- ---- sources

-- each number below the count is that of one of the states
state-at : {S : Type 0} (states : List S) (n : ℕ) → n < length states
    → (state : S) × (slice_get states n ≡ Some state) × Contains states state
state-at [] n below = absurd (omega (arith, below))
state-at (x ∷ states) zero below = (x, refl, (0, omega arith, refl))
state-at (x ∷ states) (suc n) below =
    let at = state-at states n (omega (arith, below)) in
    (at.0, at.1, (suc at.2.0, omega (arith, at.2.1), at.2.2))

-- sources that have to be in the states with their numbers have to be in one of all states
pub are-asked : {A S : Type 0} (state : A → Option S) (states : List S) (sources : List A) (n : ℕ)
    → n + length sources ≡ length states
    → map state sources ≡ map (slice_get states) (range_with_len n (length sources))
    → All (λ s. (asked : S) × (state s ≡ Some asked) × Contains states asked) sources
are-asked {S = S} state states [] n long is =
    All-nil (λ s. (asked : S) × (state s ≡ Some asked) × Contains states asked)
are-asked {S = S} state states (s ∷ sources) n long is =
    let first : state s ≡ slice_get states n = grind arith in
    let others : map state sources ≡ map (slice_get states) (range_with_len (n + 1) (length sources)) = grind arith in
    let at = state-at states n (omega (arith, long)) in
    All-cons (λ s. (asked : S) × (state s ≡ Some asked) × Contains states asked) s sources
    (at.0, first ∙ at.1, at.2) (are-asked state states sources (n + 1) (omega (arith, long)) others)

-- all sources, one for each state
pub all-asked : {A S : Type 0} (state : A → Option S) (states : List S) (sources : List A) (count : ℕ)
    → length states ≡ count → map state sources ≡ map (slice_get states) (range_with_len 0 count)
    → All (λ s. (asked : S) × (state s ≡ Some asked) × Contains states asked) sources
all-asked state states sources count many is =
    let long : length sources ≡ count = sym (length-map sources state) ∙ ap length is
    ∙ length-map-range_with_len (slice_get states) 0 count in
    are-asked state states sources 0 (omega (arith, long, many))
    (is ∙ ap (λ n. map (slice_get states) (range_with_len 0 n)) (sym long))

-- the states in which they are found
module _ {A F S : Type 0} (g : Ghosts A) (state : A → Option S) (file : A → Option F) (found : F → Option S)
    (failures : A → ℕ) (states : List S) where
  abbrev IsAsked : A → Type 0
  IsAsked s = (asked : S) × (state s ≡ Some asked) × Contains states asked

  abbrev IsFound : Option F → Type 0
  IsFound f = ForSome f (λ x. IsInOneOf states (found x))

  one-found : (old new : A) → state new ≡ state old → IsAsked old
      → ForSome (file new) (IsFoundInState found (state new))
      → IsFound (file new)
  one-found old new same asked h = λ x is.
      subst (IsInOneOf states) (sym (h x is asked.0 (same ∙ asked.1))) ∣ asked.2 ∣₁

  -- sources without a failure, which are found in their states, are found in these
  pub all-found-in : ((old new : A) → Stays g old new → state new ≡ state old)
      → ((s : A) → failures s ≡ 0 → ForSome (file s) (IsFoundInState found (state s)))
      → (olds news : List A) → AllZip (Stays g) olds news → All IsAsked olds
      → ((n : ℕ) → slice_index (map failures news) n ≡ 0) → All IsFound (map file news)
  all-found-in same in_state [] [] stay asked zeros = All-nil IsFound
  all-found-in same in_state [] (new ∷ news) stay asked zeros = absurd stay
  all-found-in same in_state (old ∷ olds) [] stay asked zeros = absurd stay
  all-found-in same in_state (old ∷ olds) (new ∷ news) stay asked zeros =
      All-cons IsFound (file new) (map file news)
      (one-found old new (same old new stay.0) (All-head IsAsked old olds asked) (in_state new (zeros 0)))
      (all-found-in same in_state olds news stay.1 (All-tail IsAsked old olds asked) (λ n. zeros (suc n)))
