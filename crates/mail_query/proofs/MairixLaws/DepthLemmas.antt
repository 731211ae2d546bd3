-- The queries of patterns have at most five levels, counted production by production.
use Rattle.mail_query.proofs.Words.{ℕ, suc, ◌≤◌, List, [], ◌∷◌, arith, Query, depth, deepest, members_of, all_of, either_of, IsSizes, Between, AreFlags, IsFlags, EachFlag, Lexicon, Forms, Separated, Alone, Before, IsAtom, IsTerm, IsAll, EachTerm, IsRest, SomeAll, IsPattern, ArePatterns, Only, AndAlso, IsAsked, EachPattern}
use Rattle.mail_query.specs.FlagGrammar as flags

-- each query has at most n levels
unfoldable pub AreShallow : ℕ → List Query → Type 0
AreShallow n [] = Unit {0}
AreShallow n (q ∷ qs) = (depth q ≤ n) × AreShallow n qs

deepest_le : (n : ℕ) (qs : List Query) → AreShallow n qs → deepest (members_of qs) ≤ n
unfolding AreShallow
deepest_le n [] h = omega arith
deepest_le n (q ∷ qs) h = omega (arith, h.0, deepest_le n qs h.1)

pub depth-all_of : (n : ℕ) (qs : List Query) → AreShallow n qs → depth (all_of qs) ≤ suc n
unfolding AreShallow
depth-all_of n qs h = grind (arith, deepest_le)

pub depth-either_of : (n : ℕ) (qs : List Query) → AreShallow n qs → depth (either_of qs) ≤ suc n
unfolding AreShallow
depth-either_of n qs h = grind (arith, deepest_le)

-- ---- each production

separated_shallow : (n sign : ℕ) (Asks : List ℕ → Query → Type 0)
    → ((text : List ℕ) (q : Query) → Asks text q → depth q ≤ n)
    → (text : List ℕ) (qs : List Query) → Separated sign Asks text qs → AreShallow n qs
unfolding AreShallow
separated_shallow n sign Asks one text qs (Alone t q a) = (one t q a, tt)
separated_shallow n sign Asks one text qs (Before t rest q more a s) =
    (one t q a, separated_shallow n sign Asks one rest more s)

module _ (forms : Forms) where
  atom_depth : (text : List ℕ) (q : Query) → IsAtom forms text q → depth q ≤ 1
  atom_depth text q h = grind arith

  term_depth : (text : List ℕ) (q : Query) → IsTerm forms text q → depth q ≤ 2
  term_depth text q h = grind (arith, atom_depth)

  all_depth : (text : List ℕ) (q : Query) → IsAll forms text q → depth q ≤ 3
  all_depth text q (EachTerm t qs s) = depth-all_of 2 qs (separated_shallow 2 0x2C (IsTerm forms) term_depth t qs s)

  rest_depth : (text : List ℕ) (q : Query) → IsRest forms text q → depth q ≤ 4
  rest_depth text q (SomeAll t qs s) = depth-either_of 3 qs (separated_shallow 3 0x2F (IsAll forms) all_depth t qs s)

size_depth : (text : List ℕ) (q : Query) → IsSizes text q → depth q ≤ 4
size_depth text q (Between low high least most l h) = omega arith

flags_shallow : (text : List ℕ) (qs : List Query) → AreFlags text qs → AreShallow 1 qs
unfolding AreShallow
flags_shallow text qs flags.NoFlag = tt
flags_shallow text qs (flags.Wanted letter flag rest more e f) = (omega arith, flags_shallow rest more f)
flags_shallow text qs (flags.Unwanted letter flag rest more e f) = (omega arith, flags_shallow rest more f)

flag_depth : (text : List ℕ) (q : Query) → IsFlags text q → depth q ≤ 4
flag_depth text q (EachFlag t first more f) =
    omega (arith, depth-all_of 1 (first ∷ more) (flags_shallow t (first ∷ more) f))

module _ (lexicon : Lexicon) where
  pattern_depth : (text : List ℕ) (q : Query) → IsPattern lexicon text q → depth q ≤ 4
  pattern_depth text q h = grind (arith, rest_depth, size_depth, flag_depth)

  patterns_shallow : (patterns : List (List ℕ)) (qs : List Query) → ArePatterns lexicon patterns qs → AreShallow 4 qs
  unfolding AreShallow
  patterns_shallow patterns qs (Only pattern q a) = (pattern_depth pattern q a, tt)
  patterns_shallow patterns qs (AndAlso pattern rest q more a s) =
      (pattern_depth pattern q a, patterns_shallow rest more s)

  -- the query of a list of patterns has at most five levels
  pub asked_depth : (patterns : List (List ℕ)) (q : Query) → IsAsked lexicon patterns q → depth q ≤ 5
  asked_depth patterns q (EachPattern texts qs s) = depth-all_of 4 qs (patterns_shallow texts qs s)
