-- What a cursor gives, and how many steps it may take.
use Rattle.std.specs.Prelude.{ℕ, ◌+◌, ◌*◌, ◌^◌, ◌<◌, ◌≤◌, Bool, false, bytes_eq, List, [], ◌∷◌, ◌++◌, length, map}
use Rattle.std.specs.Prelude.{filter}
use Rattle.mail_index.specs.declared.kind.Kind.{Kind}
use Rattle.mail_index.specs.declared.kind.Kind.TheVariants.{Text, OwnId, LinkId}
use Rattle.mail_index.specs.Tables.{Key, Table}
use Rattle.mail_index.specs.LookUps.{keys_of, comparisons}
use Rattle.mail_query.specs.declared.kinds.Kinds.{Kinds}
use Rattle.mail_query.specs.Kinds.{has_kind}
use Rattle.mail_query.specs.Query.{Query, Word, Part, Prefix, Not, All, Either, Queries, End, More}
use Rattle.mail_query.specs.Truth.{text_kinds, contains_text, word_begins_with}

-- the rising numbers of the messages that still come, how many steps are left at most, and how many of these are
-- postings
pub record ToCome : Type 0 where
  pub numbers : List ℕ
  pub left : ℕ
  pub postings : ℕ

-- whether the kind is in the set; a link id never is
abbrev pub is_in : Kinds → Kind → Bool
is_in kinds (Text kind) = has_kind kinds kind
is_in kinds OwnId = kinds.own_id
is_in kinds LinkId = false

-- the kinds of a set
abbrev pub kinds_in : Kinds → List Kind
kinds_in kinds = filter (is_in kinds) (map Text text_kinds ++ OwnId ∷ [])

-- how many numbers these keys have together
abbrev pub numbers_of_keys : List Key → ℕ
numbers_of_keys [] = 0
numbers_of_keys (k ∷ ks) = length k.numbers + numbers_of_keys ks

-- how many numbers all link ids have together
abbrev pub link_numbers : Table → ℕ
link_numbers t = numbers_of_keys (keys_of LinkId t.keys)

-- how many numbers the keys of these kinds have together whose texts pass
abbrev pub numbers_named : (List ℕ → Bool) → List Key → List Kind → ℕ
numbers_named passes keys [] = 0
numbers_named passes keys (kind ∷ kinds) =
    numbers_of_keys (filter (λ k. passes k.text) (keys_of kind keys)) + numbers_named passes keys kinds

-- The most steps of a walk through the messages that satisfy a query: for each leaf that names texts, the numbers of
-- all keys that it names, and for each other leaf one for each message.
abbrev mutual
  pub most_left : Table → Query → ℕ
  most_left t (Word kinds text) = numbers_named (bytes_eq text) t.keys (kinds_in kinds)
  most_left t (Part kinds text) = numbers_named (contains_text text) t.keys (kinds_in kinds)
  most_left t (Prefix kinds text) = numbers_named (word_begins_with text) t.keys (kinds_in kinds)
  most_left t (Not q) = most_left t q
  most_left t (All qs) = most_left_of_all t qs
  most_left t (Either qs) = most_left_of_all t qs
  most_left t _ = length t.messages

  -- the same for the queries of a list together
  pub most_left_of_all : Table → Queries → ℕ
  most_left_of_all t End = 0
  most_left_of_all t (More q qs) = most_left t q + most_left_of_all t qs

-- how many keys are looked up: one for each kind of each Word
abbrev mutual
  pub look_ups : Query → ℕ
  look_ups (Word kinds text) = length (kinds_in kinds)
  look_ups (Not q) = look_ups q
  look_ups (All qs) = look_ups_of_all qs
  look_ups (Either qs) = look_ups_of_all qs
  look_ups _ = 0

  -- the same for the queries of a list together
  pub look_ups_of_all : Queries → ℕ
  look_ups_of_all End = 0
  look_ups_of_all (More q qs) = look_ups q + look_ups_of_all qs

-- how many comparisons are made in all of these kinds
abbrev pub compared_in_all : (Kind → ℕ) → List Kind → ℕ
compared_in_all compared [] = 0
compared_in_all compared (kind ∷ kinds) = compared kind + compared_in_all compared kinds

-- how many comparisons the look-ups of a query make: those for its text in each kind of each Word
abbrev mutual
  pub look_up_steps : List Key → Query → ℕ
  look_up_steps keys (Word kinds text) = compared_in_all (λ kind. comparisons kind text keys) (kinds_in kinds)
  look_up_steps keys (Not q) = look_up_steps keys q
  look_up_steps keys (All qs) = look_up_steps_of_all keys qs
  look_up_steps keys (Either qs) = look_up_steps_of_all keys qs
  look_up_steps keys _ = 0

  -- the same for the queries of a list together
  pub look_up_steps_of_all : List Key → Queries → ℕ
  look_up_steps_of_all keys End = 0
  look_up_steps_of_all keys (More q qs) = look_up_steps keys q + look_up_steps_of_all keys qs

-- how many steps a search takes at most: those of its look-ups, and then those of a walk
abbrev pub most_steps : Table → Query → ℕ
most_steps t q = look_up_steps t.keys q + most_left t q

-- each of the look-ups takes at most as many steps as the number of keys has binary digits
pub record LooksUp (keys many old new : ℕ) : Type 0 where
  pub rises : old ≤ new
  pub most : (digits : ℕ) → keys < 2 ^ digits → new ≤ old + many * digits
