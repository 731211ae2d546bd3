-- The truth of a query depends only on which tests the words and ids of a message pass, and on its date, size and
-- flags.
use Rattle.mairix_tool.proofs.Words.{◌≡◌, ◌∙◌, ℕ, Bool, true, not, List, [], ◌∷◌, refl, ap, arith, ◌&&◌, ◌||◌, nat_le, bytes_eq, list_any, option_map_or, TextKind, Query, Any, Word, Part, Prefix, Date, Size, HasFlag, Not, Either, Queries, End, More, some_word, contains_text, word_begins_with, has_flag, is_same, is_true, each_is_true, some_is_true}
use Rattle.mail_words.specs.declared.flags.Flags.{Flags}
use Rattle.mail_dates.specs.Ranges.{has_date}
use Rattle.mail_query.specs.declared.kinds.Kinds.{Kinds}
use Rattle.mail_query.specs.Query.{All}
use Rattle.mail_query.specs.Truth.{Facts}

-- both pass the same tests by a word of a kind and by an own id, and have the same date, size and flags
pub record SaysTheSame (a b : Facts) : Type 0 where
  pub words : (kind : TextKind) (passes : List ℕ → Bool) → list_any passes (a.words kind)
      ≡ list_any passes (b.words kind)
  pub own_ids : (passes : List ℕ → Bool) → list_any passes a.own_ids ≡ list_any passes b.own_ids
  pub date : a.date ≡ b.date
  pub size : a.size ≡ b.size
  pub flags : a.flags ≡ b.flags

-- tests that agree at each element agree on the list
pub any-same : {A : Type 0} (f g : A → Bool) → ((x : A) → f x ≡ g x) → (xs : List A) → list_any f xs ≡ list_any g xs
any-same f g same [] = refl
any-same f g same (x ∷ xs) = ap (λ b. b || list_any f xs) (same x)
    ∙ ap (λ b. g x || b) (any-same f g same xs)

-- a word of these kinds passes in both, or in neither
some_word-same : (passes : List ℕ → Bool) (kinds : Kinds) (a b : Facts) → SaysTheSame a b → some_word passes kinds a
    ≡ some_word passes kinds b
some_word-same = grind (arith, any-same)

mutual
  -- a query is true of both, or of neither
  pub truth-same : (q : Query) (a b : Facts) → SaysTheSame a b → is_true q a ≡ is_true q b
  truth-same Any a b same = refl
  truth-same (Word kinds text) a b same = some_word-same (bytes_eq text) _ a b same
  truth-same (Part kinds text) a b same = some_word-same (contains_text _) kinds a b same
  truth-same (Prefix kinds text) a b same = some_word-same (word_begins_with text) kinds a b same
  truth-same (Date range) a b same = ap (has_date range) same.date
  truth-same (Size low high) a b same = ap (λ n. nat_le low n && option_map_or (λ most. nat_le n most) high true)
      same.size
  truth-same (HasFlag flag wanted) a b same = ap (λ flags. is_same wanted (has_flag flag flags)) same.flags
  truth-same (Not q) a b same = ap not (truth-same q a b same)
  truth-same (All qs) a b same = each-same qs a b same
  truth-same (Either qs) a b same = some-same qs a b same

  -- each query of a list is true of both, or not of both
  each-same : (qs : Queries) (a b : Facts) → SaysTheSame a b → each_is_true qs a ≡ each_is_true qs b
  each-same End a b same = refl
  each-same (More q qs) a b same = ap (λ (v : Bool). v && each_is_true qs a) (truth-same q a b same)
      ∙ ap (λ (v : Bool). is_true q b && v) (each-same qs a b same)

  -- a query of a list is true of both, or none is of either
  some-same : (qs : Queries) (a b : Facts) → SaysTheSame a b → some_is_true qs a ≡ some_is_true qs b
  some-same End a b same = refl
  some-same (More q qs) a b same = ap (λ (v : Bool). v || some_is_true qs a) (truth-same q a b same)
      ∙ ap (λ (v : Bool). is_true q b || v) (some-same qs a b same)
