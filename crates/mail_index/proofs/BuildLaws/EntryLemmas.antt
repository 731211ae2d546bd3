-- The bytes of an entry are the number of its kind, its text and its postings, wherever their parts are kept.
use Rattle.mail_index.proofs.Words.{◌≡◌, ◌∙◌, ℕ, ◌+◌, ◌-◌, ◌^◌, ◌<◌, ◌≤◌, cond, List, [], ◌∷◌, ◌++◌, length, take, drop, slice_index, refl, sym, ap, ap₂, arith, append-nil, append_assoc, length-append, length-take-le, take-append-le, drop-append-le, drop_at, take-length, drop-append_seam, Kind, kind_number, kind_of_number, leb128, end_from, numbers_of}
use Rattle.mail_index.specs.Inside.KeyMaps.{new_key, with_one, key_in, short_front, front_holder, key_bytes, AreEntryBytes, HoldsFront}
use Rattle.mail_index.proofs.ViewLaws.KindNumbers.{kind_of-number}
use Rattle.mail_index.proofs.BuildLaws.PostingLemmas.{posted-nil, numbers_of-nil, posted-more, numbers_of-more, with_number-low, with_number-new, with_number-nil}

-- ---- no postings

front-all : (b : ℕ) (text : List ℕ) → take (length text + 1) (b ∷ text) ≡ b ∷ text
front-all b text = grind (arith, length, take, take-length)

after-none : (b : ℕ) (text : List ℕ) → drop (length text + 1) (b ∷ text) ≡ []
after-none b text =
    let long : length text + 1 ≡ length (b ∷ text) = omega arith in
    ap₂ (λ (n : ℕ) (l : List ℕ). drop n l) long (sym (append-nil _)) ∙ drop-append_seam (b ∷ text) _

entry-none : (kind : Kind) (text bytes : List ℕ) → bytes ≡ kind_number kind ∷ text
    → AreEntryBytes bytes (length text + 1) 0
entry-none _ _ _ e = grind (arith, front-all, kind_number, kind_of-number, after-none, posted-nil)

key-none : (kind : Kind) (text bytes : List ℕ) → bytes ≡ kind_number kind ∷ text
    → key_in (take (length text + 1) bytes) (drop (length text + 1) bytes)
    ≡ record { kind = kind; text = text; numbers = [] }
key-none _ _ _ e = grind (arith, front-all, kind_number, after-none, kind_of-number, numbers_of-nil)

-- ---- the front, which is kept apart if it is short

short-front : (kept : List ℕ) (n : ℕ) → n ≤ 16 → short_front kept n ≡ take n kept
short-front _ n h = grind arith

long-front : (kept : List ℕ) (n : ℕ) → 16 < n → short_front kept n ≡ slice_index kept 0 ∷ []
long-front _ n h = grind arith

holder-short : (kept bytes : List ℕ) (n : ℕ) → n ≤ 16 → n ≤ length (front_holder kept n bytes) → n ≤ length kept
holder-short kept bytes n h long = grind (arith, length, cond, slice_index)

holder-long : (kept bytes : List ℕ) (n : ℕ) → 16 < n → n ≤ length (front_holder kept n bytes)
    → n ≤ length (slice_index kept 0 ∷ bytes)
holder-long kept bytes n h long = grind (arith, length, cond, slice_index)

-- after a short front, which is kept apart, all other bytes are the postings
pub after-short : (kept bytes recent : List ℕ) (n : ℕ) → n ≤ 16 → n ≤ length (front_holder kept n bytes)
    → bytes ++ recent ≡ drop n (key_bytes kept n bytes recent)
after-short _ _ _ n h long = grind (arith, length-take-le, holder-short, short-front, drop_at)

-- a long text comes before the postings, in the same bytes
pub after-long : (kept bytes recent : List ℕ) (m : ℕ) → 16 < m + 1 → m + 1 ≤ length (front_holder kept (m + 1) bytes)
    → drop m bytes ++ recent ≡ drop (m + 1) (key_bytes kept (m + 1) bytes recent)
after-long _ _ _ m h long = grind (arith, long-front, drop-append-le, holder-long)

-- longer bytes hold the front too
pub within-more : (kept old new : List ℕ) (n : ℕ) → n ≤ length (front_holder kept n old) → length old ≤ length new
    → n ≤ length (front_holder kept n new)
within-more _ _ _ n long more = grind arith

-- bytes that are appended to the last ones are appended to all
pub key_bytes-more : (kept : List ℕ) (n : ℕ) (bytes recent bytes' recent' more : List ℕ) → bytes' ++ recent'
    ≡ (bytes ++ recent) ++ more
    → key_bytes kept n bytes' recent' ≡ key_bytes kept n bytes recent ++ more
key_bytes-more kept n bytes recent _ _ more e = grind (arith, short_front, append_assoc)

-- ---- one more number

pub entry-more : (bytes : List ℕ) (front next n : ℕ) → AreEntryBytes bytes front next → next ≤ n → n + 1 < 2 ^ 32
    → AreEntryBytes (bytes ++ leb128 5 (n + 1 - next)) front (n + 1)
entry-more bytes front next n i low high =
    let l = leb128 5 (n + 1 - next) in
    record {
      long = omega (arith, i.long, length-append bytes l);
      kind = rw (take-append-le _ _ l i.long) i.kind;
      posted = rw (drop-append-le _ _ l i.long) (posted-more _ _ n i.posted low high);
    }

pub key-more : (bytes : List ℕ) (front next n : ℕ) → AreEntryBytes bytes front next → next ≤ n → n + 1 < 2 ^ 32
    → key_in (take front (bytes ++ leb128 5 (n + 1 - next))) (drop front (bytes ++ leb128 5 (n + 1 - next)))
    ≡ with_one (key_in (take front bytes) (drop front bytes)) n
key-more _ _ _ n i low high = grind (
  arith,
  leb128,
  end_from,
  numbers_of,
  take-append-le,
  drop-append-le,
  kind_of_number,
  slice_index,
  numbers_of-more,
  with_number-new,
)

-- a number below the end changes nothing
pub key-same : (bytes : List ℕ) (front next n : ℕ) → AreEntryBytes bytes front next → n < next
    → key_in (take front bytes) (drop front bytes) ≡ with_one (key_in (take front bytes) (drop front bytes)) n
key-same _ _ _ n i low = grind (arith, end_from, numbers_of, kind_of_number, slice_index, with_number-low)

-- ---- one number

-- the front with the first posting after it is the bytes of a key of one message
new-whole : (kind : Kind) (text kept bytes recent : List ℕ) (n : ℕ) → HoldsFront kind text kept bytes → recent
    ≡ leb128 5 (n + 1)
    → key_bytes kept (length text + 1) bytes recent ≡ (kind_number kind ∷ text) ++ leb128 5 (n + 1 - 0)
new-whole _ text kept bytes recent n holds e =
    key_bytes-more kept (length text + 1) bytes [] bytes recent recent
    (ap (λ (l : List ℕ). l ++ recent) (sym (append-nil _)))
    ∙ ap₂ (λ (a b : List ℕ). a ++ b) holds.whole (e ∙ ap (leb128 5) ((omega arith)))

pub entry-new : (kind : Kind) (text kept bytes recent : List ℕ) (n : ℕ) → HoldsFront kind text kept bytes → recent
    ≡ leb128 5 (n + 1) → n + 1 < 2 ^ 32
    → AreEntryBytes (key_bytes kept (length text + 1) bytes recent) (length text + 1) (n + 1)
entry-new kind text kept bytes recent n holds e high =
    rw (new-whole _ _ _ _ _ n holds e) (entry-more _ _ 0 n (entry-none kind _ _ refl) (omega arith) high)

pub key-new : (kind : Kind) (text kept bytes recent : List ℕ) (n : ℕ) → HoldsFront kind text kept bytes → recent
    ≡ leb128 5 (n + 1) → n + 1 < 2 ^ 32
    → key_in (take (length text + 1) (key_bytes kept (length text + 1) bytes recent))
    (drop (length text + 1) (key_bytes kept (length text + 1) bytes recent)) ≡ new_key kind text n
key-new kind text kept bytes recent n holds e high =
    let front : List ℕ = kind_number kind ∷ text in
    cc (
      key-more front (length text + 1) 0 n (entry-none kind text front refl) (omega arith) high,
      new-whole kind text kept bytes recent n holds e,
      key-none kind text front refl,
      with_number-nil n,
    )
