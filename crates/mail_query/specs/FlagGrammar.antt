-- The grammar of the flags that a pattern `F:` names, with one case for each production.
use Rattle.std.specs.Prelude.{◌≡◌, ℕ, true, false, List, [], ◌∷◌, Some}
use Rattle.mail_words.specs.declared.flags.Flag.{Flag}
use Rattle.mail_query.specs.Query.{Query, HasFlag, all_of}
use Rattle.mail_query.specs.Flags.{flag_of}

-- *(["-"] letter): the text names these flags, wanted or not
pub data AreFlags : List ℕ → List Query → Type 0 where
  NoFlag : AreFlags [] []
  Wanted : (letter : ℕ) (flag : Flag) (text : List ℕ) (qs : List Query) → flag_of letter ≡ Some flag → AreFlags text qs
      → AreFlags (letter ∷ text) (HasFlag flag true ∷ qs)
  Unwanted : (letter : ℕ) (flag : Flag) (text : List ℕ) (qs : List Query) → flag_of letter ≡ Some flag
      → AreFlags text qs → AreFlags (0x2D ∷ letter ∷ text) (HasFlag flag false ∷ qs)

-- flags = 1*(["-"] letter): a message has to satisfy all of them
pub data IsFlags : List ℕ → Query → Type 0 where
  EachFlag : (text : List ℕ) (q : Query) (qs : List Query) → AreFlags text (q ∷ qs) → IsFlags text (all_of (q ∷ qs))
