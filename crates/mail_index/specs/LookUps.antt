-- What a table returns for a key, and how many comparisons this takes.
use Rattle.std.specs.Prelude.{◌≡◌, ℕ, zero, suc, ◌/◌, ◌^◌, ◌<◌, ◌≤◌, Bool, true, false, ◌&&◌, nat_eq, List}
use Rattle.std.specs.Prelude.{[], ◌∷◌, length, take, drop, map, filter}
use Rattle.std.specs.Str.{bytes_eq}
use Rattle.std.specs.List.{starts_with}
use Rattle.mail_index.specs.declared.kind.Kind.{Kind}
use Rattle.mail_index.specs.Kinds.{kind_number}
use Rattle.std.specs.declared.cmp.Ordering.{Ordering}
use Rattle.std.specs.declared.cmp.Ordering.TheVariants.{Less, Equal, Greater}
use Rattle.std.specs.Ordering.{nat_cmp}
use Rattle.std.specs.Cmp.Lexicographic.{slice_cmp}
use Rattle.std.specs.List.Sorted.{IsStrictlySortedBy}
use Rattle.mail_index.specs.Steps.{add_steps}
use Rattle.mail_index.specs.OrderOfKeys.{key_cmp}
use Rattle.mail_index.specs.Tables.{Key}

-- whether the key is of this kind
abbrev pub is_of_kind : Kind → Key → Bool
is_of_kind kind k = nat_eq (kind_number k.kind) (kind_number kind)

-- whether the key has this kind and this text
abbrev pub is_key : Kind → List ℕ → Key → Bool
is_key kind text k = is_of_kind kind k && bytes_eq k.text text

-- how a key compares with the key of this kind and this text
abbrev pub lies_to : Kind → List ℕ → Key → Ordering
lies_to kind text k = key_cmp (kind_number k.kind) k.text (kind_number kind) text

-- the keys are in that order, and none comes twice
abbrev pub AreSorted : List Key → Type 0
AreSorted ks = IsStrictlySortedBy (slice_cmp nat_cmp) (map (λ k. kind_number k.kind ∷ k.text) ks)

-- the numbers of the messages that have the key; none if the table doesn't have it
abbrev pub numbers_at : Kind → List ℕ → List Key → List ℕ
numbers_at kind text [] = []
numbers_at kind text (k ∷ ks) = elim (is_key kind text k) [ true ↦ k.numbers | false ↦ numbers_at kind text ks ]

-- the keys of a kind, in order
abbrev pub keys_of : Kind → List Key → List Key
keys_of kind ks = filter (is_of_kind kind) ks

-- the keys of a kind whose texts begin with this one, in order
abbrev pub keys_beginning : Kind → List ℕ → List Key → List Key
keys_beginning kind text ks = filter (λ k. starts_with nat_eq k.text text) (keys_of kind ks)

-- the text and the numbers of a key
abbrev pub text_and_numbers : Key → List ℕ × List ℕ
text_and_numbers k = (k.text, k.numbers)

-- How many comparisons a binary search makes: one with the key in the middle and, if that isn't the key, those in the
-- half where it would be. The keys are halved at most `most` times.
abbrev pub comparisons_within : ℕ → Kind → List ℕ → List Key → ℕ
comparisons_within zero kind text ks = 0
comparisons_within (suc most) kind text ks = elim (drop (length ks / 2) ks) [
  | [] ↦ 0
  | k ∷ after ↦ suc (elim (lies_to kind text k) [
    | Less ↦ comparisons_within most kind text after
    | Equal ↦ 0
    | Greater ↦ comparisons_within most kind text (take (length ks / 2) ks)
  ])
]

-- how many comparisons a binary search makes: halving as often as there are keys is enough
abbrev pub comparisons : Kind → List ℕ → List Key → ℕ
comparisons kind text ks = comparisons_within (length ks) kind text ks

-- the new count is higher by the number of steps taken, and these are at most as many as the number has binary digits
-- (the least number of digits that can hold it)
abbrev pub TakesDigits : ℕ → ℕ → ℕ → Type 0
TakesDigits number old new = (digits : ℕ) → number < 2 ^ digits → (taken : ℕ) × (taken ≤ digits)
    × (new ≡ add_steps old taken)
