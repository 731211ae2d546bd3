-- The table of a builder that finds the entry of a key by the key's hash.
use Rattle.std.specs.Prelude.{◌≡◌, ℕ, ◌+◌, ◌/◌, ◌^◌, ◌<◌, ◌≤◌, ◌⊎◌, List, [], ◌∷◌, length, Option, Some, None}
use Rattle.std.specs.List.{slice_index_or}
use Rattle.std.specs.declared.cmp.Ordering.TheVariants.{Equal}
use Rattle.std.specs.Hash.FoldHasher.{initial, write, finish}
use Rattle.mail_index.specs.declared.kind.Kind.{Kind}
use Rattle.mail_index.specs.declared.build.key_order.KeyOrder.{KeyOrder}
use Rattle.mail_index.specs.declared.build.key_table.KeyTable.{KeyTable}
use Rattle.mail_index.specs.declared.build.key_map.Spot.{Spot}
use Rattle.mail_index.specs.declared.build.key_map.Spot.TheVariants.{AtEntry, InSlot, InOrder}
use Rattle.mail_index.specs.declared.build.key_table.Found.{Found}
use Rattle.mail_index.specs.declared.build.key_table.Found.TheVariants.{Entry, Vacant, Full}
use Rattle.mail_index.specs.Tables.{Key}
use Rattle.mail_index.specs.Kinds.{kind_number}
use Rattle.mail_index.specs.LookUps.{lies_to}
use Rattle.mail_index.specs.KeysRead.{key_at}
use Rattle.mail_index.specs.Inside.KeyMaps.{AreDistinct, AreInStep, IsAmong, IsEntryOf, IsPlaceFor, numbers_in}

-- the hash of a key: the highest 32 bits of the hash of its kind's number and its text
unfoldable pub hash_of : Kind → List ℕ → ℕ
hash_of kind text = finish (write (write initial (kind_number kind ∷ [])) text) / 2 ^ 32

-- the slot with which the window of a hash begins
abbrev pub window_of : KeyTable → ℕ → ℕ
window_of table hash = hash / 2 ^ table.left_out

-- the number in a slot
abbrev pub number_at : KeyTable → ℕ → ℕ
number_at table slot = slice_index_or table.numbers.items slot 0

-- the slot is one of a window
pub record IsInWindow (table : KeyTable) (hash slot : ℕ) : Type 0 where
  pub from : window_of table hash ≤ slot
  pub near : slot < window_of table hash + 16
  pub within : slot < length table.numbers.items

-- all slots of a window before this one have numbers below the count
abbrev pub AreFilled : KeyTable → ℕ → ℕ → ℕ → Type 0
AreFilled table hash count end = (slot : ℕ) → IsInWindow table hash slot → slot < end → number_at table slot < count

-- all slots of a window have numbers below the count
abbrev pub IsFull : KeyTable → ℕ → ℕ → Type 0
IsFull table hash count = (slot : ℕ) → IsInWindow table hash slot → number_at table slot < count

-- the number is in the window, and no slot before it is vacant
pub record IsReached (table : KeyTable) (hash count number : ℕ) : Type 0 where
  pub slot : ℕ
  pub inside : IsInWindow table hash slot
  pub here : number_at table slot ≡ number
  pub before : AreFilled table hash count slot

-- the number has a slot in the window; or the window is full, and the order has the number
abbrev pub IsReachable : KeyTable → KeyOrder → ℕ → ℕ → ℕ → Type 0
IsReachable table order hash count number =
    IsReached table hash count number ⊎ (IsFull table hash count × IsAmong number (numbers_in order))

-- the hash of the key of an entry
abbrev pub hash_at : List Key → ℕ → ℕ
hash_at entries number = hash_of (key_at entries number).kind (key_at entries number).text

-- the table or the order has each of the entries below `end`
abbrev pub AreReachable : List Key → KeyTable → KeyOrder → ℕ → Type 0
AreReachable entries table order end = (number : ℕ) → number < end
    → IsReachable table order (hash_at entries number) (length entries) number

-- no two entries have the same key, the table or the order has each entry, and the order has the first ones
pub record IsKeyMap (entries : List Key) (table : KeyTable) (order : KeyOrder) (sorted : ℕ) : Type 0 where
  pub distinct : AreDistinct entries
  pub step : AreInStep entries order
  pub kept : AreReachable entries table order (length entries)
  pub within : sorted ≤ length entries
  pub first : (number : ℕ) → number < sorted → IsAmong number (numbers_in order)

-- ---- look-ups

-- the slot has the number of an entry of another key
abbrev pub IsOther : Kind → List ℕ → List Key → KeyTable → ℕ → Type 0
IsOther kind text entries table slot = (number_at table slot < length entries)
    × (lies_to kind text (key_at entries (number_at table slot)) ≡ Equal → ⊥)

-- each slot of the window before this one has an entry of another key
abbrev pub AreOthers : Kind → List ℕ → List Key → KeyTable → ℕ → ℕ → Type 0
AreOthers kind text entries table hash end =
    (slot : ℕ) → IsInWindow table hash slot → slot < end → IsOther kind text entries table slot

-- what was found of a key: its entry; or the first vacant slot of its window, all before which have other keys; or
-- other keys in all slots of the window
abbrev pub IsLookOf : Kind → List ℕ → List Key → KeyTable → ℕ → Found → Type 0
IsLookOf kind text entries table hash (Entry number) = IsEntryOf kind text entries number
IsLookOf kind text entries table hash (Vacant slot) = IsInWindow table hash slot
    × (length entries ≤ number_at table slot) × AreOthers kind text entries table hash slot
IsLookOf kind text entries table hash Full =
    (slot : ℕ) → IsInWindow table hash slot → IsOther kind text entries table slot

-- what was found for a number: the first vacant slot of a window, or that the window is full
abbrev pub IsVacancy : KeyTable → ℕ → ℕ → Option ℕ → Type 0
IsVacancy table hash count (Some slot) = IsInWindow table hash slot × (count ≤ number_at table slot)
    × AreFilled table hash count slot
IsVacancy table hash count None = IsFull table hash count

-- no entry has the key
abbrev pub IsAbsent : Kind → List ℕ → List Key → Type 0
IsAbsent kind text entries = (i : ℕ) → i < length entries → lies_to kind text (key_at entries i) ≡ Equal → ⊥

-- where a key is or belongs: at an entry; if no entry has it, in the first vacant slot of its window, or, if all are
-- filled, at a place in the order
abbrev pub IsSpot : Kind → List ℕ → List Key → KeyTable → KeyOrder → ℕ → Spot → Type 0
IsSpot kind text entries table order hash (AtEntry number) = IsEntryOf kind text entries number
IsSpot kind text entries table order hash (InSlot slot) = IsAbsent kind text entries
    × IsVacancy table hash (length entries) (Some slot)
IsSpot kind text entries table order hash (InOrder place) = IsAbsent kind text entries
    × IsFull table hash (length entries) × IsPlaceFor kind text entries order place
