-- One more link was followed, or one more path looked at.
use Rattle.std.proofs.Common.{◌≡◌, ◌∙◌, ◌⊎◌, inl, inr, ◌<◌, ◌≤◌, ◌+◌, ℕ, Bool, true, false, List, [], ◌∷◌, ◌++◌, Option, Some, Result, Ok, Err, OnErr, length, if◌then◌else◌, ap, arith, subst}
use Rattle.std.proofs.lemmas.Bool.{false≢true}
use Rattle.std.specs.Option.{option_and_then, unwrap_or}
use Rattle.std.specs.Path.{path_parent, path_with_file_name}
use Rattle.system.specs.declared.call_error.CallError.{CallError}
use Rattle.system.specs.declared.found.Found.{Found}
use Rattle.system.specs.SystemCalls.{CallAnswer, SystemCall, LookedAtLink, ReadLink}
use Rattle.mairix_files.specs.LinkChains.{EndsNotLinks, FollowsLink, FollowsNotLink, LooksForProcesses, PassesLinks, is_off_device, is_on_device, looks_upward, path_above, path_by_links, reads_of_links}

pub if_failed : {T E : Type 0} (r : Result T E) (P : Type 0) → P → OnErr r P
if_failed (Ok value) P p = tt
if_failed (Err error) P p = p

pub one_more_link : (name path end : List ℕ) (n : ℕ) (texts : List (List ℕ)) (old between new : List SystemCall)
    → length texts ≡ n → path ≡ path_by_links name texts → between ≡ reads_of_links name texts ++ old
    → (is_link : Bool) → is_link ≡ true → FollowsLink is_link path end between new
    → (more : List (List ℕ)) × (length more ≡ n + 1) × (end ≡ path_by_links name more)
    × (new ≡ reads_of_links name more ++ old)
unfolding FollowsLink
one_more_link name path end n texts old between new count is calls false denied follows = absurd (false≢true denied)
one_more_link name path end n texts old between new count is calls true holds (text, ends, more) = (
  text ∷ texts,
  omega (arith, count),
  ends ∙ ap (λ p. path_with_file_name p text) is,
  more ∙ ap (λ p. ReadLink p (Ok text) ∷ between) is
      ∙ ap (λ l. ReadLink (path_by_links name texts) (Ok text) ∷ l) calls,
)

pub no_more_links : (name path : List ℕ) (n : ℕ) (texts : List (List ℕ)) (old between new : List SystemCall)
    → n < 40 → length texts ≡ n → path ≡ path_by_links name texts → between ≡ reads_of_links name texts ++ old
    → FollowsNotLink path between new → EndsNotLinks name old new
unfolding FollowsNotLink EndsNotLinks
no_more_links name path n texts old between new few count is calls (inl more) = (
  texts,
  omega (arith, count, few),
  inr (more ∙ ap (λ p. ReadLink p (Err CallError.OutOfMemory) ∷ between) is
      ∙ ap (λ l. ReadLink (path_by_links name texts) (Err CallError.OutOfMemory) ∷ l) calls),
)
no_more_links name path n texts old between new few count is calls (inr (text, more)) = (
  text ∷ texts,
  omega (arith, count, few),
  inl (more ∙ ap (λ p. ReadLink p (Ok text) ∷ between) is
      ∙ ap (λ l. ReadLink (path_by_links name texts) (Ok text) ∷ l) calls),
)

pub one_more_passed : (name path end : List ℕ) (n : ℕ) (texts : List (List ℕ)) (old between read new : List SystemCall)
    → length texts ≡ n → path ≡ path_by_links name texts → PassesLinks name texts old between
    → (is_link : Bool) → is_link ≡ true → FollowsLink is_link path end between read
    → (is_in : Bool) → is_in ≡ false → LooksForProcesses end is_in read new
    → (more : List (List ℕ)) × (length more ≡ n + 1) × (end ≡ path_by_links name more)
    × PassesLinks name more old new
unfolding FollowsLink PassesLinks
one_more_passed name path end n texts old between read new count is passes false denied follows is_in out looks =
    absurd (false≢true denied)
one_more_passed name path end n texts old between read new count is passes true holds (text, ends, more) is_in out looks
    =
    let ends_there = ends ∙ ap (λ p. path_with_file_name p text) is in (
      text ∷ texts,
      omega (arith, count),
      ends_there,
      (
        between,
        passes,
        subst (λ l. LooksForProcesses (path_by_links name (text ∷ texts)) false l new)
            (more ∙ ap (λ p. ReadLink p (Ok text) ∷ between) is)
            (subst (λ p. LooksForProcesses p false read new) ends_there
            (subst (λ b. LooksForProcesses end b read new) out looks)),
      ),
    )

pub one_more_above :
    (device : ℕ) (path place : List ℕ) (answers : List (CallAnswer Found)) (answer : CallAnswer Found)
    (next after : Option (List ℕ)) (old between new : List SystemCall)
    → is_off_device device answers ≡ true → next ≡ path_above path (length answers)
    → between ≡ looks_upward path answers ++ old → Some place ≡ next → after ≡ path_parent place
    → new ≡ LookedAtLink place answer ∷ between → is_on_device device answer ≡ false
    → (more : List (CallAnswer Found)) × (is_off_device device more ≡ true)
    × (after ≡ path_above path (length more)) × (new ≡ looks_upward path more ++ old)
one_more_above device path place answers answer next after old between new off is calls has above more on = (
  answer ∷ answers,
  ap (λ b. if b then false else is_off_device device answers) on ∙ off,
  above ∙ ap (option_and_then path_parent) (has ∙ is),
  more ∙ ap (λ l. LookedAtLink place answer ∷ l) calls
      ∙ ap (λ p. LookedAtLink (unwrap_or p []) answer ∷ (looks_upward path answers ++ old)) (has ∙ is),
)
