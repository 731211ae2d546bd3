-- Each call of a draft keeps its archives and keys well-formed, because every new number is below the count of
-- messages.
use Rattle.mail_index.proofs.Words.{◌≡◌, ℕ, suc, ◌+◌, ◌^◌, ◌<◌, ◌≤◌, if◌then◌else◌, List, [], ◌∷◌, ◌++◌, length, Result, OnOk, OnErr, length-append, arith, Less, Equal, Greater, match_ordering, nat_cmp, slice_cmp, AllByRecursion, Kind, kind_number, newest, leb128, postings_from, end_from, with_number, Key, RisesFrom, IsKey, Draft, with_pair}
use Rattle.mail_index.specs.Inside.Drafts.{IsDraft, message_count}
use Rattle.mail_index.proofs.BuildLaws.PostingLemmas.{length-leb128}
pub use Rattle.mail_index.proofs.Items.{all-snoc, all-weaker}

rises-snoc : (low : ℕ) (ns : List ℕ) (n : ℕ) → RisesFrom low ns → end_from low ns ≤ n → RisesFrom low (ns ++ n ∷ [])
rises-snoc _ [] n r e = (e, tt)
rises-snoc _ (x ∷ ns) n r e = (r.0, rises-snoc (suc x) ns n r.1 e)

-- a property of a list with and without a number at its end is one of the list with this number
pub by-number : (P : List ℕ → Type 0) (ns : List ℕ) (n : ℕ) → P ns → (end_from 0 ns ≤ n → P (ns ++ n ∷ []))
    → P (with_number ns n)
unfolding with_number
by-number P ns n stays more = grind (arith, end_from)

-- a key that gets one more number below the count is still a valid key
pub key-more : (count n : ℕ) (k : Key) → IsKey newest count k → n < count
    → IsKey newest count (record { kind = k.kind; text = k.text; numbers = with_number k.numbers n })
key-more count n k is low = record {
  kind = is.kind;
  some_text = is.some_text;
  short = is.short;
  some_number = by-number (λ ns. 0 < length ns) k.numbers n is.some_number
      (λ _. omega (arith, length-append k.numbers (n ∷ [])));
  rises = by-number (RisesFrom 0) k.numbers n is.rises (λ new. rises-snoc 0 _ n is.rises new);
  below = by-number (AllByRecursion (λ m. m < count)) k.numbers n is.below (λ _. all-snoc _ _ n is.below low);
}

pub key-new : (count n : ℕ) (kind : Kind) (text : List ℕ) → 0 < length text → length text < 2 ^ 32 → n < count
    → IsKey newest count (record { kind = kind; text = text; numbers = n ∷ [] })
key-new _ n _ _ some short low = grind arith

pub with_pair-listed : (count n : ℕ) (kind : Kind) (text : List ℕ) → 0 < length text → length text < 2 ^ 32 → n < count
    → (ks : List Key) → AllByRecursion (IsKey newest count) ks
    → AllByRecursion (IsKey newest count) (with_pair kind text n ks)
with_pair-listed count n kind text some short low [] _ = (key-new _ n _ _ some short low, tt)
with_pair-listed count n kind text some short low (k ∷ ks) all =
    elim (slice_cmp nat_cmp (kind_number kind ∷ text) (kind_number k.kind ∷ k.text)) as
    (λ o. AllByRecursion (IsKey newest count)
    (match_ordering o (record { kind = kind; text = text; numbers = n ∷ [] } ∷ k ∷ ks)
    (record { kind = k.kind; text = k.text; numbers = with_number k.numbers n } ∷ ks)
    (k ∷ with_pair kind text n ks))) [
      | Less ↦ (key-new _ n _ _ some short low, all)
      | Equal ↦ (key-more _ n k all.0 low, all.1)
      | Greater ↦ (all.0, with_pair-listed count n kind text some short low ks all.1)
    ]

-- whatever the result of the call, the keys stay well-formed
pub listed-after : {T E : Type 0} (r : Result T E) (count n : ℕ) (kind : Kind) (text : List ℕ) → 0 < length text
    → length text < 2 ^ 32 → n < count → (ks after : List Key)
    → OnOk r (after ≡ with_pair kind text n ks) → OnErr r (after ≡ ks) → AllByRecursion (IsKey newest count) ks
    → AllByRecursion (IsKey newest count) after
listed-after r _ n _ _ h h2 h3 _ _ h4 h5 h6 = grind (arith, newest, with_pair-listed)

-- keys whose numbers are below a count are also keys for a higher count
pub listed-weaker : (count more : ℕ) → count ≤ more → (ks : List Key) → AllByRecursion (IsKey newest count) ks
    → AllByRecursion (IsKey newest more) ks
listed-weaker count more h = grind (arith, all-weaker, newest)

-- ---- how many bytes the numbers need

pub end_from-below : (count low : ℕ) (ns : List ℕ) → low ≤ count → AllByRecursion (λ n. n < count) ns
    → end_from low ns ≤ count
end_from-below _ _ [] h _ = h
end_from-below count _ (n ∷ ns) h all = end_from-below count (suc n) ns (omega arith) all.1

length-postings_from : (low : ℕ) (ns : List ℕ) → RisesFrom low ns
    → length (postings_from low ns) + low ≤ end_from low ns
length-postings_from _ [] r = omega arith
length-postings_from _ (n ∷ ns) r = grind
    (arith, length-append, leb128, postings_from, length-leb128, length-postings_from (suc n) ns r.1)

-- a key's postings have at most as many bytes as there are messages
pub length-postings : (count : ℕ) (k : Key) → IsKey newest count k → length (postings_from 0 k.numbers) ≤ count
length-postings count k is = grind (arith, length-postings_from, end_from-below)

-- the open message counts within the limit
pub message_count-within : (d : Draft) → IsDraft d → message_count d ≤ d.most
message_count-within d is = grind arith
