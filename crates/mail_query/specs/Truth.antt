-- When a message satisfies a query.
use Rattle.std.specs.Prelude.{ℕ, ℤ, Bool, true, false, not, ◌&&◌, ◌||◌, nat_eq, nat_le, List, [], ◌∷◌, bytes_eq, Option}
use Rattle.std.specs.List.{list_any, starts_with}
use Rattle.std.specs.Option.{option_map_or}
use Rattle.mail_words.specs.declared.kind.TextKind.{TextKind}
use Rattle.mail_words.specs.declared.kind.TextKind.TheVariants.{To, Cc, Bcc, From, Subject, Body, Name}
use Rattle.mail_words.specs.declared.flags.Flag.{Flag}
use Rattle.mail_words.specs.declared.flags.Flag.TheVariants.{Seen, Replied, Flagged}
use Rattle.mail_words.specs.declared.flags.Flags.{Flags}
use Rattle.mail_dates.specs.Ranges.{has_date}
use Rattle.mail_query.specs.declared.kinds.Kinds.{Kinds}
use Rattle.mail_query.specs.Kinds.{has_kind}
use Rattle.mail_query.specs.Query.{Query, Any, Word, Part, Prefix, Date, Size, HasFlag, Not, All, Either, Queries, End}
use Rattle.mail_query.specs.Query.{More}

-- What a query needs to know of a message: the words of its texts of each kind, with case folded, and its own ids. The
-- size is in bytes.
pub record Facts : Type 0 where
  pub words : TextKind → List (List ℕ)
  pub own_ids : List (List ℕ)
  pub date : Option ℤ
  pub size : ℕ
  pub flags : Flags

-- the words of each kind, without the names of attachments
abbrev pub words_but_names : (TextKind → List (List ℕ)) → TextKind → List (List ℕ)
words_but_names words Name = []
words_but_names words kind = words kind

-- the message as if its attachments had no names
abbrev pub without_names : Facts → Facts
without_names m = record m { words = words_but_names m.words }

-- the seven kinds of text
abbrev pub text_kinds : List TextKind
text_kinds = To ∷ Cc ∷ Bcc ∷ From ∷ Subject ∷ Body ∷ Name ∷ []

-- whether a word in a text of these kinds, or the own id if the set has it, passes the test
abbrev pub some_word : (List ℕ → Bool) → Kinds → Facts → Bool
some_word passes kinds m =
    list_any (λ kind. has_kind kinds kind && list_any passes (m.words kind)) text_kinds
    || (kinds.own_id && list_any passes m.own_ids)

-- whether the second text contains the first
abbrev pub contains_text : List ℕ → List ℕ → Bool
contains_text text [] = starts_with nat_eq [] text
contains_text text (b ∷ bs) = starts_with nat_eq (b ∷ bs) text || contains_text text bs

-- whether the word begins with the text
abbrev pub word_begins_with : List ℕ → List ℕ → Bool
word_begins_with text word = starts_with nat_eq word text

-- whether the flag is set
abbrev pub has_flag : Flag → Flags → Bool
has_flag Seen flags = flags.seen
has_flag Replied flags = flags.replied
has_flag Flagged flags = flags.flagged

-- whether both are true or both are false
abbrev pub is_same : Bool → Bool → Bool
is_same true b = b
is_same false b = not b

-- whether a message satisfies a query, each of some queries, and one of some queries
abbrev mutual
  pub is_true : Query → Facts → Bool
  is_true Any m = true
  is_true (Word kinds text) m = some_word (bytes_eq text) kinds m
  is_true (Part kinds text) m = some_word (contains_text text) kinds m
  is_true (Prefix kinds text) m = some_word (word_begins_with text) kinds m
  is_true (Date range) m = has_date range m.date
  is_true (Size low high) m = nat_le low m.size && option_map_or (λ most. nat_le m.size most) high true
  is_true (HasFlag flag wanted) m = is_same wanted (has_flag flag m.flags)
  is_true (Not q) m = not (is_true q m)
  is_true (All qs) m = each_is_true qs m
  is_true (Either qs) m = some_is_true qs m

  pub each_is_true : Queries → Facts → Bool
  each_is_true End m = true
  each_is_true (More q qs) m = is_true q m && each_is_true qs m

  pub some_is_true : Queries → Facts → Bool
  some_is_true End m = false
  some_is_true (More q qs) m = is_true q m || some_is_true qs m
