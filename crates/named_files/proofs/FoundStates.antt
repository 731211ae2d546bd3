-- States of files that were given back stay when more are given back.
use Rattle.std.proofs.Common.{◌≡◌, ◌∙◌, ◌++◌, [], ◌∷◌, List, Option, refl, sym, ap}
use Rattle.std.proofs.lemmas.List.{append_assoc}
use Rattle.std.proofs.lemmas.List.Elements.{All-append, All-nil, All-weaker, Contains-append_left, Contains-append_right}
use Rattle.named_files.specs.FoundStates.{AddsFiles, IsFoundSince, AreFoundOnly}

module _ {S : Type 0} where
  pub adds-none : (a : List (Option S)) → AddsFiles a a
  adds-none a = record { more = []; added = refl }

  -- one more is given back
  pub adds-more : (first a b : List (Option S)) (s : Option S) → b ≡ s ∷ a → AddsFiles first a → AddsFiles first b
  adds-more first a b s is h = record { more = s ∷ h.more; added = is ∙ ap (λ l. s ∷ l) h.added }

  -- some more are
  pub adds-front : (first a b more : List (Option S)) → b ≡ more ++ a → AddsFiles first a → AddsFiles first b
  adds-front first a b more is h = record {
    more = more ++ h.more;
    added = is ∙ ap (λ l. more ++ l) h.added ∙ sym (append_assoc more h.more first);
  }

  -- what was found meanwhile still was after more, and was since any earlier moment
  pub found-later : (first a b : List (Option S)) (s : Option S) → AddsFiles a b → IsFoundSince first a s
      → IsFoundSince first b s
  found-later first a b s h is = record {
    more = h.more ++ is.more;
    added = h.added ∙ ap (λ l. h.more ++ l) is.added ∙ sym (append_assoc h.more is.more first);
    contained = Contains-append_right h.more is.more s is.contained;
  }

  pub found-earlier : (first a b : List (Option S)) (s : Option S) → AddsFiles first a → IsFoundSince a b s
      → IsFoundSince first b s
  found-earlier first a b s h is = record {
    more = is.more ++ h.more;
    added = is.added ∙ ap (λ l. is.more ++ l) h.added ∙ sym (append_assoc is.more h.more first);
    contained = Contains-append_left is.more h.more s is.contained;
  }

  pub only-none : (P : Option S → Type 0) (a : List (Option S)) → AreFoundOnly P a a
  only-none P a = record { more = []; added = refl; passing = All-nil P }

  pub only-then : (P : Option S → Type 0) (a b c : List (Option S)) → AreFoundOnly P a b → AreFoundOnly P b c
      → AreFoundOnly P a c
  only-then P a b c h k = record {
    more = k.more ++ h.more;
    added = k.added ∙ ap (λ l. k.more ++ l) h.added ∙ sym (append_assoc k.more h.more a);
    passing = All-append P k.more h.more k.passing h.passing;
  }

  pub only-weaker : (P Q : Option S → Type 0) (a b : List (Option S)) → ((s : Option S) → P s → Q s)
      → AreFoundOnly P a b → AreFoundOnly Q a b
  only-weaker P Q a b weaker h = record {
    more = h.more;
    added = h.added;
    passing =
        All-weaker P Q weaker h.more h.passing;
  }
