-- Walks along posting lists, while the lists are gathered.
use Rattle.std.specs.Prelude.{◌≡◌, ℕ, ◌+◌, ◌≤◌, Bool, true, false, ◌||◌, cond, List, [], ◌∷◌, length, filter}
use Rattle.std.specs.List.{list_any, AllByRecursion}
use Rattle.mail_index.specs.declared.kind.Kind.{Kind}
use Rattle.mail_index.specs.Tables.{Key}
use Rattle.mail_answer.specs.TableFacts.{texts_with}
use Rattle.mail_index.specs.LookUps.{comparisons, keys_of}
use Rattle.mail_answer.specs.declared.cursor.texts.Fit.{Fit}
use Rattle.mail_answer.specs.declared.cursor.texts.Fit.TheVariants.{Whole, Within, Front}
use Rattle.mail_answer.specs.Marks.{truth_at}
use Rattle.mail_answer.specs.Cursors.{numbers_of_keys}
use Rattle.mail_answer.specs.CursorAhead.{WalkAhead, steps_left_in}
use Rattle.mail_answer.specs.Inside.CursorLists.{AreNumbers}

-- whether the message is in at least one walk
abbrev pub some_has : ℕ → List WalkAhead → Bool
some_has m [] = false
some_has m (w ∷ ws) = truth_at w.truths m || some_has m ws

-- the messages whose numbers pass the test were added, with at most `most` more steps
pub record AddsMatches (test : ℕ → Bool) (most : ℕ) (old new : List WalkAhead) : Type 0 where
  pub each : (m : ℕ) → some_has m new ≡ (some_has m old || test m)
  pub left : steps_left_in new ≤ steps_left_in old + most

-- each text passes
abbrev pub any_text : List ℕ → Bool
any_text text = true

-- how many numbers the keys have together whose texts pass
abbrev pub numbers_passing : (List ℕ → Bool) → List (List ℕ × List ℕ) → ℕ
numbers_passing passes [] = 0
numbers_passing passes (k ∷ ks) = cond (passes k.0) (length k.1) 0 + numbers_passing passes ks

-- each key has rising numbers below `count`
abbrev pub HaveNumbers : ℕ → List (List ℕ × List ℕ) → Type 0
HaveNumbers count keys = AllByRecursion (λ k. AreNumbers count k.1) keys

-- whether a text of one of these kinds passes for the message
abbrev pub some_of_kinds : List Kind → (List ℕ → Bool) → List Key → ℕ → Bool
some_of_kinds [] passes keys m = false
some_of_kinds (kind ∷ kinds) passes keys m =
    list_any passes (texts_with kind m keys) || some_of_kinds kinds passes keys m

-- how many numbers the keys of a kind have together whose texts pass
abbrev pub numbers_fitting : (List ℕ → Bool) → List Key → Kind → ℕ
numbers_fitting passes keys kind = numbers_of_keys (filter (λ k. passes k.text) (keys_of kind keys))

-- how many comparisons a look-up in a kind makes
abbrev pub compared_by : Fit → List ℕ → List Key → Kind → ℕ
compared_by Whole text keys kind = comparisons kind text keys
compared_by Within text keys kind = 0
compared_by Front text keys kind = 0

-- how many keys are looked up in each kind
abbrev pub looked_up_by : Fit → ℕ
looked_up_by Whole = 1
looked_up_by Within = 0
looked_up_by Front = 0
