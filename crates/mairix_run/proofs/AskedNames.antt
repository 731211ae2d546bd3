-- Names that are made one after another.
use Rattle.std.proofs.Common.{◌≡◌, ◌∙◌, sym, ap, ℕ, Bool, true, List, [], ◌∷◌, ◌++◌, Some, Ok, arith}
use Rattle.std.proofs.lemmas.List.{append_assoc}
use Rattle.std.proofs.lemmas.List.Elements.{All-append, All-nil, All-push, All-weaker, Contains-append_left, Contains-append_right}
use Rattle.std.specs.List.{Contains}
use Rattle.mairix_options.specs.Rcfile.{rc_of}
use Rattle.mairix_options.specs.declared.command_line.Plan.{Plan}
use Rattle.mairix_options.specs.declared.rcfile.Rc.{Rc}
use Rattle.named_files.specs.Entries.{Entry, bytes_of}
use Rattle.mairix_run.proofs.NamesUsed.{contains-first, contains-more}
use Rattle.mairix_run.specs.AskedNames.{AsksFor, AsksOnlyFor}
use Rattle.mairix_run.specs.NamesUsed.{both_names, file_asked, names_given, names_of_plan}

-- what is so of a name that is made
abbrev IsAskedFor : List (List ℕ) → Bool → List ℕ × Bool → Type 0
IsAskedFor names agreed m = m.1 ≡ true → (agreed ≡ true) × Contains names m.0

module _ (names : List (List ℕ)) (agreed : Bool) where
  -- no name is made
  pub asks_none : (old : List (List ℕ × Bool)) → AsksFor names agreed old old
  unfolding AsksFor
  asks_none old = grind (arith, All-nil)

  -- one is
  pub asks_one : (old new : List (List ℕ × Bool)) (name : List ℕ) → Contains names name
      → new ≡ (name, agreed) ∷ old → AsksFor names agreed old new
  unfolding AsksFor
  asks_one old new name among is = (
    (name, agreed) ∷ [],
    is,
    All-push (IsAskedFor names agreed) [] (name, agreed) (All-nil (IsAskedFor names agreed)) (λ agree. (agree, among)),
  )

  -- some are, and then others
  pub asks_then : (old mid new : List (List ℕ × Bool)) → AsksFor names agreed old mid → AsksFor names agreed mid new
      → AsksFor names agreed old new
  unfolding AsksFor
  asks_then old mid new first then = (
    then.0 ++ first.0,
    then.1 ∙ ap (λ l. then.0 ++ l) first.1 ∙ sym (append_assoc then.0 first.0 old),
    All-append (IsAskedFor names agreed) then.0 first.0 then.2 first.2,
  )

-- More names may be made, if all that was reported agrees only if it agreed before.
pub asks_wider : (few many : List (List ℕ)) (before agreed : Bool) (old new : List (List ℕ × Bool))
    → (agreed ≡ true → before ≡ true) → (agreed ≡ true → (n : List ℕ) → Contains few n → Contains many n)
    → AsksFor few agreed old new → AsksFor many before old new
unfolding AsksFor
asks_wider few many before agreed old new earlier wider asks = grind (arith, All-weaker)

pub asks_only : (names : List (List ℕ)) (agreed : Bool) (old new : List (List ℕ × Bool)) → AsksFor names agreed old new
    → AsksOnlyFor names old new
unfolding AsksFor AsksOnlyFor
asks_only names agreed old new asks = grind (arith, All-weaker)

-- ---- names that a plan gives

module _ (p : Plan) (rc : Rc) where
  pub database-given : Contains (names_given p rc) rc.database
  database-given = grind (arith, Contains-append_right)

  pub file-given : (n : List ℕ) → Contains (both_names (file_asked p rc)) n → Contains (names_given p rc) n
  file-given n among = grind (arith, Contains-append_right)

  module _ (agreed : Bool) (old mid new : List (List ℕ × Bool)) where
    pub given_archives : AsksFor rc.paths agreed old new → AsksFor (names_given p rc) agreed old new
    given_archives = asks_wider rc.paths (names_given p rc) agreed agreed old new (λ is. is)
        (λ is. Contains-append_left rc.paths _)

    pub given_database : AsksFor (names_given p rc) agreed old mid → new ≡ (rc.database, agreed) ∷ mid
        → AsksFor (names_given p rc) agreed old new
    given_database first is = grind (arith, asks_then, asks_one, database-given)

    pub given_file : AsksFor (names_given p rc) agreed old mid → AsksFor (both_names (file_asked p rc)) agreed mid new
        → AsksFor (names_given p rc) agreed old new
    given_file first then = grind (arith, asks_then, asks_wider, file-given)

  -- an rcfile that is there gives them
  pub given-planned : (holds : List ℕ → Entry) (text : List ℕ) → bytes_of (holds p.rcfile) ≡ Some text
      → rc_of text ≡ Ok rc → (n : List ℕ) → Contains (names_given p rc) n → Contains (names_of_plan holds p) n
  given-planned holds text found said n among = grind (arith, contains-more)

-- the rcfile's name is the first
pub rcfile-planned : (p : Plan) (holds : List ℕ → Entry) → Contains (names_of_plan holds p) p.rcfile
rcfile-planned p holds = contains-first p.rcfile _
