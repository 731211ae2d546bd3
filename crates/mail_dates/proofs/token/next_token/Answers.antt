-- `next_token` returns the first part that isn't empty, because an empty part between two gaps isn't a token.
use Rattle.mail_dates.proofs.Words.{◌≡◌, ◌==◌, ℕ, List, [], ◌∷◌, true, false, length, refl, ◌∙◌, arith, slice_split, date_tokens, is_gap, with_first}
use Rattle.mail_dates.proofs.token.next_token.Goals as goal

-- an empty part isn't a token
skipped : (text front back : List ℕ) → slice_split is_gap text ≡ front ∷ slice_split is_gap back → (length front == 0)
    ≡ true → date_tokens text ≡ date_tokens back
unfolding date_tokens
skipped text front back e empty = rw (e, empty) refl

found : (text front back : List ℕ) → slice_split is_gap text ≡ front ∷ slice_split is_gap back → (length front == 0)
    ≡ false → date_tokens text ≡ with_first front back
unfolding date_tokens
found text front back h h2 = grind arith

last : (text : List ℕ) → slice_split is_gap text ≡ text ∷ [] → date_tokens text ≡ with_first text []
unfolding date_tokens
last text h = grind arith

pub returns-then-not-is_empty-clause-tokens : goal.returns-then-not-is_empty-clause-tokens
returns-then-not-is_empty-clause-tokens c =
    grind (arith, found)

pub loop-front-preserved : goal.loop-front-preserved
loop-front-preserved c =
    grind (arith, skipped)

pub returns-clause-tokens : goal.returns-clause-tokens
returns-clause-tokens c = grind (arith, last)
