-- Fronts of keys, which a builder keeps next to the numbers of their entries.
use Rattle.std.specs.Prelude.{◌≡◌, ℕ, zero, suc, ◌+◌, ◌*◌, ◌^◌, ◌<◌, List, [], ◌∷◌, length}
use Rattle.std.specs.List.{AllByRecursion}
use Rattle.mail_index.specs.declared.kind.Kind.{Kind}
use Rattle.mail_index.specs.declared.build.key_front.Fronted.{Fronted}
use Rattle.mail_index.specs.Tables.{Key}
use Rattle.mail_index.specs.Kinds.{kind_number}
use Rattle.mail_index.specs.KeysRead.{key_at}

-- the value to the base 256 of the first n items, filled up with zeros if there are fewer
unfoldable pub number_of_first : ℕ → List ℕ → ℕ
number_of_first zero items = 0
number_of_first (suc n) [] = 0
number_of_first (suc n) (item ∷ items) = item * 256 ^ n + number_of_first n items

-- the front of a key: its kind's number and the first seven bytes of its text
abbrev pub front_of : Kind → List ℕ → ℕ
front_of kind text = number_of_first 8 (kind_number kind ∷ text)

-- the text consists of bytes, and the front is that of its key
pub record IsFrontOfKey (kind : Kind) (text : List ℕ) (front : ℕ) : Type 0 where
  pub bytes : AllByRecursion (λ b. b < 256) text
  pub value : front ≡ front_of kind text

-- the slot has the number of an entry, and the front of its key
pub record IsFronted (entries : List Key) (slot : Fronted) : Type 0 where
  pub within : slot.number < length entries
  pub front : IsFrontOfKey (key_at entries slot.number).kind (key_at entries slot.number).text slot.front
