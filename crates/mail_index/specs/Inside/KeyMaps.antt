-- The keys of a builder: entries in the order in which they came, and the numbers of some in the order of their keys.
use Rattle.std.specs.Prelude.{◌≡◌, ℕ, zero, suc, ◌+◌, ◌-◌, ◌<◌, ◌≤◌, ◌⊎◌, nat_le, if◌then◌else◌, List, [], ◌∷◌, ◌++◌}
use Rattle.std.specs.Prelude.{length, map, take, drop, Vec}
use Rattle.std.specs.Global.{Global}
use Rattle.std.specs.Prelude.{Bool}
use Rattle.std.specs.Ordering.{match_ordering, nat_cmp}
use Rattle.std.specs.Cmp.Lexicographic.{slice_cmp}
use Rattle.std.specs.declared.cmp.Ordering.{Ordering}
use Rattle.std.specs.declared.cmp.Ordering.TheVariants.{Less, Equal, Greater}
use Rattle.std.specs.List.{AllByRecursion, slice_index, slice_index_or}
use Rattle.mail_index.specs.declared.kind.Kind.{Kind}
use Rattle.mail_index.specs.declared.build.build_fault.BuildFault.{BuildFault}
use Rattle.mail_index.specs.declared.build.build_fault.BuildFault.TheVariants.{OutOfMemory, TooMany, Failed}
use Rattle.mail_index.specs.declared.build.key_front.Fronted.{Fronted}
use Rattle.mail_index.specs.declared.build.key_order.KeyOrder.{KeyOrder}
use Rattle.mail_index.specs.declared.build.key_order.Place.{Place}
use Rattle.mail_index.specs.declared.build.key_map.Added.{Added}
use Rattle.mail_index.specs.declared.build.keys_in_order.Left.{Left}
use Rattle.mail_index.specs.Tables.{Key}
use Rattle.mail_index.specs.Builders.{with_pair}
use Rattle.mail_index.specs.PostingLists.{with_number, numbers_of, IsPosted}
use Rattle.mail_index.specs.Kinds.{kind_number, kind_of_number}
use Rattle.mail_index.specs.LookUps.{lies_to, AreSorted}
use Rattle.mail_index.specs.KeysRead.{key_at}
use Rattle.mail_index.specs.OrderOfKeys.{key_cmp}
use Rattle.mail_index.specs.Inside.KeyFronts.{IsFrontOfKey, IsFronted}

-- a key of one message
abbrev pub new_key : Kind → List ℕ → ℕ → Key
new_key kind text n = record { kind = kind; text = text; numbers = n ∷ [] }

-- the keys after this one was added
abbrev pub with_added : Added → List Key → List Key
with_added key keys = with_pair key.kind key.text.now key.number keys

-- the key with n among its numbers
abbrev pub with_one : Key → ℕ → Key
with_one k n = record { kind = k.kind; text = k.text; numbers = with_number k.numbers n }

-- the keys in order with one more, which comes before the first that isn't smaller
unfoldable pub with_key : Key → List Key → List Key
with_key k [] = k ∷ []
with_key k (j ∷ js) = match_ordering (key_cmp (kind_number k.kind) k.text (kind_number j.kind) j.text) (k ∷ j ∷ js)
    (k ∷ j ∷ js) (j ∷ with_key k js)

-- the keys of the entries, in order
unfoldable pub in_key_order : List Key → List Key
in_key_order [] = []
in_key_order (k ∷ ks) = with_key k (in_key_order ks)

-- the keys so far, in order; and whether the code has put all of them in order
pub record KeyState : Type 0 where
  pub keys : List Key
  pub sorted : Bool

-- ---- an entry's bytes

-- the key with these postings, from a front: the number of its kind and its text
abbrev pub key_in : List ℕ → List ℕ → Key
key_in front postings = record {
  kind = kind_of_number (slice_index front 0);
  text = drop 1 front;
  numbers =
      numbers_of postings;
}

-- the key of an entry's bytes, if this many bytes come before its postings
abbrev pub key_of_bytes : List ℕ → ℕ → Key
key_of_bytes bytes front = key_in (take front bytes) (drop front bytes)

-- this many of the bytes are the number of a kind and a text, and the others are postings of numbers below `next`
pub record AreEntryBytes (bytes : List ℕ) (front next : ℕ) : Type 0 where
  pub long : front ≤ length bytes
  pub kind : kind_number (kind_of_number (slice_index (take front bytes) 0)) ∷ drop 1 (take front bytes)
      ≡ take front bytes
  pub posted : IsPosted (drop front bytes) next

-- what is kept apart of a front with this many bytes: all of it if it is short, otherwise the number of the kind
abbrev pub short_front : List ℕ → ℕ → List ℕ
short_front kept front = if nat_le front 16 then take front kept else slice_index kept 0 ∷ []

-- where the front is kept: all in the place kept apart for it, or the number there and the rest in the other bytes
abbrev pub front_holder : List ℕ → ℕ → List ℕ → List ℕ
front_holder kept front bytes = if nat_le front 16 then kept else slice_index kept 0 ∷ bytes

-- all bytes of an entry: those kept apart, the others, and the last of the postings
abbrev pub key_bytes : List ℕ → ℕ → List ℕ → List ℕ → List ℕ
key_bytes kept front bytes recent = short_front kept front ++ (bytes ++ recent)

-- the place kept apart and the other bytes have the number of a kind and a text, and nothing after them
pub record HoldsFront (kind : Kind) (text kept bytes : List ℕ) : Type 0 where
  pub whole : key_bytes kept (length text + 1) bytes [] ≡ kind_number kind ∷ text
  pub long : length text + 1 ≤ length (front_holder kept (length text + 1) bytes)

-- ---- the order of the entries

-- the number is that of an entry, and its key is the wanted one
abbrev pub IsEntryOf : Kind → List ℕ → List Key → ℕ → Type 0
IsEntryOf kind text entries number = (number < length entries) × (lies_to kind text (key_at entries number) ≡ Equal)

-- the keys of the entries with these numbers
abbrev pub keys_by_numbers : List Key → List ℕ → List Key
keys_by_numbers entries order = map (key_at entries) order

-- i is one of these numbers
abbrev pub IsAmong : ℕ → List ℕ → Type 0
IsAmong i [] = ⊥
IsAmong i (j ∷ js) = (j ≡ i) ⊎ IsAmong i js

-- no two entries have the same key
abbrev pub AreDistinct : List Key → Type 0
AreDistinct entries = (i j : ℕ) → i < length entries → j < length entries
    → lies_to (key_at entries i).kind (key_at entries i).text (key_at entries j) ≡ Equal → i ≡ j

-- the order sorts some of the entries by their keys
pub record IsOrder (entries : List Key) (order : List ℕ) : Type 0 where
  pub sorted : AreSorted (keys_by_numbers entries order)
  pub within : AllByRecursion (λ i. i < length entries) order

-- all numbers of the first order are among those of the second
abbrev pub IsPartOf : List ℕ → List ℕ → Type 0
IsPartOf old new = (i : ℕ) → IsAmong i old → IsAmong i new

-- the wanted key isn't among the keys, and this is its place: the key before it is smaller, and the key there is
-- greater
pub record IsGap (kind : Kind) (text : List ℕ) (keys : List Key) (place : ℕ) : Type 0 where
  pub within : place ≤ length keys
  pub below : (j : ℕ) → suc j ≡ place → lies_to kind text (key_at keys j) ≡ Less
  pub above : place < length keys → lies_to kind text (key_at keys place) ≡ Greater

-- The wanted key, if it is one of the keys, is between these places: the key before the first is smaller, and the key
-- at the second is greater.
pub record AreBounds (kind : Kind) (text : List ℕ) (keys : List Key) (low high : ℕ) : Type 0 where
  pub order : low ≤ high
  pub within : high ≤ length keys
  pub below : (j : ℕ) → suc j ≡ low → lies_to kind text (key_at keys j) ≡ Less
  pub above : high < length keys → lies_to kind text (key_at keys high) ≡ Greater

-- ---- an order in pages

-- the slots of the pages
abbrev pub rows : List (Vec Fronted Global) → List (List Fronted)
rows pages = map (λ (page : Vec Fronted Global). page.items) pages

-- the slots of the page with this number
abbrev pub row_at : List (Vec Fronted Global) → ℕ → List Fronted
row_at pages page = slice_index_or (rows pages) page []

-- the slots of the pages one after another, with one of the heads between each page and the next
abbrev pub in_pages : List (List Fronted) → List Fronted → List Fronted
in_pages [] heads = []
in_pages (row ∷ rest) [] = row ++ []
in_pages (row ∷ rest) (head ∷ heads) = row ++ head ∷ in_pages rest heads

-- the slots that are left: those of a page, and after them the heads and the pages that follow
abbrev pub left_in_pages : List Fronted → List Fronted → List (List Fronted) → List Fronted
left_in_pages row [] rest = row ++ []
left_in_pages row (head ∷ heads) rest = row ++ head ∷ in_pages rest heads

-- the slots that an iterator has left
abbrev pub slots_left : Left → List Fronted
slots_left left = left_in_pages left.page.now left.heads.now (rows left.pages.now)

-- how many slots come before the one at a place of a page
abbrev pub position : List (List Fronted) → ℕ → ℕ → ℕ
position [] page at = at
position (row ∷ rest) zero at = at
position (row ∷ rest) (suc page) at = length row + suc (position rest page at)

-- the numbers in the slots
abbrev pub numbers_of_slots : List Fronted → List ℕ
numbers_of_slots slots = map (λ (slot : Fronted). slot.number) slots

-- the keys of the entries with these numbers
abbrev pub slot_keys : List Key → List Fronted → List Key
slot_keys entries slots = keys_by_numbers entries (numbers_of_slots slots)

-- the slot for this number at a place
abbrev pub slot_for : ℕ → Place → Fronted
slot_for number place = record { number = number; front = place.front }

-- the slots of an order
abbrev pub slots_in : KeyOrder → List Fronted
slots_in order = in_pages (rows order.pages.items) order.heads.items

-- the numbers in an order
abbrev pub numbers_in : KeyOrder → List ℕ
numbers_in order = numbers_of_slots (slots_in order)

-- how many slots of an order come before a place
abbrev pub place_in : KeyOrder → Place → ℕ
place_in order place = position (rows order.pages.items) place.page place.at

-- the keys in the order
abbrev pub keys_in : List Key → KeyOrder → List Key
keys_in entries order = keys_by_numbers entries (numbers_in order)

-- each slot has the number of its place
abbrev pub AreNumbered : List Fronted → Type 0
AreNumbered slots = (i : ℕ) (d : Fronted) → i < length slots → (slice_index_or slots i d).number ≡ i

-- the front of a slot and its key, as numbers that compare as slots do
abbrev pub slot_numbers : List Key → Fronted → List ℕ
slot_numbers entries slot =
    slot.front ∷ kind_number (key_at entries slot.number).kind ∷ (key_at entries slot.number).text

-- how two slots compare: by their fronts, and those of one front by their keys
abbrev pub slot_cmp : List Key → Fronted → Fronted → Ordering
slot_cmp entries one other = slice_cmp nat_cmp (slot_numbers entries one) (slot_numbers entries other)

-- there is a head between each page and the next, and the order has numbers of entries, each with its key's front
pub record AreInStep (entries : List Key) (order : KeyOrder) : Type 0 where
  pub between : length order.heads.items ≡ length order.pages.items - 1
  pub sorts : IsOrder entries (numbers_in order)
  pub fronted : AllByRecursion (IsFronted entries) (slots_in order)

-- one of the pages has the place
pub record IsPlaceIn (pages : List (Vec Fronted Global)) (place : Place) : Type 0 where
  pub page : place.page < length pages
  pub at : place.at ≤ length (row_at pages place.page)

-- the wanted key is that of no entry and would come at this place, which has its front
pub record IsPlaceFor (kind : Kind) (text : List ℕ) (entries : List Key) (order : KeyOrder) (place : Place) : Type 0
  where
    pub inside : IsPlaceIn order.pages.items place
    pub gap : IsGap kind text (keys_in entries order) (place_in order place)
    pub front : IsFrontOfKey kind text place.front

-- ---- faults

-- memory ran out, or there would be more than `most` keys
abbrev pub IsWantOf : ℕ → ℕ → BuildFault → Type 0
IsWantOf most count OutOfMemory = Unit {0}
IsWantOf most count TooMany = most < count
IsWantOf most count Failed = ⊥
