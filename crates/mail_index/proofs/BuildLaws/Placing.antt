-- Messages that are added one after another are those of a well-formed table, because each begins after the one before.
use Rattle.mail_index.proofs.Words.{◌≡◌, ℕ, zero, suc, ◌+◌, ◌^◌, ◌<◌, ◌≤◌, false, if◌then◌else◌, List, [], ◌∷◌, ◌++◌, length, Option, None, Some, IsSome, IfSome, FitsSigned, refl, subst, length-append, arith, w64, AllByRecursion, nat_tests, Record, newest, Archive, archive_length, IsMessage, Follows, AllNext, IsPath, IsWellFormed, Draft, end_of, IsNextMessage, IsInMessage, IsBetweenArchives}
use Rattle.mail_index.specs.Inside.Drafts.{with_open, IsDraft}
use Rattle.mail_index.proofs.BuildLaws.DraftLemmas.{all-snoc, all-weaker, listed-weaker}

archive_length-before : (archives : List Archive) (a : Archive) (n : ℕ) → n < length archives
    → archive_length (archives ++ a ∷ []) n ≡ archive_length archives n
archive_length-before [] a n h = absurd (omega arith)
archive_length-before (x ∷ archives) a zero h = refl
archive_length-before (x ∷ archives) a (suc n) h = archive_length-before archives a n (omega arith)

archive_length-last : (archives : List Archive) (a : Archive) → archive_length (archives ++ a ∷ []) (length archives)
    ≡ a.length
archive_length-last [] a = refl
archive_length-last (x ∷ archives) a = archive_length-last archives a

-- a message stays valid if one more archive comes
pub message-more : (archives : List Archive) (a : Archive) (m : Record) → IsMessage archives m
    → IsMessage (archives ++ a ∷ []) m
message-more _ a m is = grind (arith, length-append, archive_length-before)

-- a message of the last archive
pub message-new : (archives : List Archive) (a : Archive) (m : Record) → m.archive ≡ length archives
    → m.offset + m.length ≤ a.length → m.size < m.length → IfSome m.date (FitsSigned w64)
    → IsMessage (archives ++ a ∷ []) m
message-new _ a m last within size date = grind (arith, length-append, archive_length, archive_length-last)

-- if the last archive gets another length, its messages stay valid as long as they end within it
message-ended : (archives : List Archive) (a b : Archive) (m : Record)
    → (m.archive ≡ length archives → m.offset + m.length ≤ b.length) → IsMessage (archives ++ a ∷ []) m
    → IsMessage (archives ++ b ∷ []) m
message-ended _ a b m ends is = grind (
  arith,
  length-append,
  nat_tests,
  message-more,
  archive_length-before,
  message-new,
)

-- each message of the open archive ends no later than the last one
ends-within : (a end : ℕ) (ms : List Record) → AllNext Follows ms → AllByRecursion (λ m. m.archive ≤ a) ms
    → end_of a ms ≤ end → AllByRecursion (λ m. m.archive ≡ a → m.offset + m.length ≤ end) ms
ends-within a _ [] f _ h = tt
ends-within a _ (r ∷ []) f all h = grind (arith, nat_tests)
ends-within a end (r ∷ s ∷ rs) f all h = grind (arith, ends-within a end (s ∷ rs) f.1 all.1 h)

pub all-ended : (archives : List Archive) (a b : Archive) (ms : List Record) → AllNext Follows ms
    → AllByRecursion (IsMessage (archives ++ a ∷ [])) ms → end_of (length archives) ms ≤ b.length
    → AllByRecursion (IsMessage (archives ++ b ∷ [])) ms
all-ended archives a b ms f all h =
    let count : length (archives ++ a ∷ []) ≡ suc (length archives) = omega (arith, length-append archives (a ∷ [])) in
    let low = all-weaker (IsMessage (archives ++ a ∷ [])) (λ m. m.archive ≤ length archives)
    (λ m is. omega (arith, is.exists)) ms all in
    go ms all (ends-within (length archives) b.length ms f low h)
  where
    go : (ms : List Record) → AllByRecursion (IsMessage (archives ++ a ∷ [])) ms
        → AllByRecursion (λ m. m.archive ≡ length archives → m.offset + m.length ≤ b.length) ms
        → AllByRecursion (IsMessage (archives ++ b ∷ [])) ms
    go [] _ _ = tt
    go (m ∷ ms) all ends = (message-ended archives a b m ends.0 all.0, go ms all.1 ends.1)

-- the next message keeps the messages in order
pub in_order-next : (ms : List Record) (r : Record) → AllNext Follows ms
    → AllByRecursion (λ m. m.archive ≤ r.archive) ms → end_of r.archive ms ≤ r.offset → AllNext Follows (ms ++ r ∷ [])
in_order-next [] r f _ h = tt
in_order-next (m ∷ []) r f all h = grind (arith, nat_tests)
in_order-next (m ∷ s ∷ ms) r f all h = (f.0, in_order-next (s ∷ ms) r f.1 all.1 h)

pub archives-low : (archives : List Archive) (a : Archive) (ms : List Record)
    → AllByRecursion (IsMessage (archives ++ a ∷ [])) ms → AllByRecursion (λ m. m.archive ≤ length archives) ms
archives-low _ a _ all = grind (arith, length-append, all-weaker)

-- ---- each call keeps a draft valid

pub archive-opened : (d : Draft) (p : List ℕ) → IsDraft d → d.failed ≡ false → d.path ≡ None
    → length d.table.archives < d.most → IsPath p → IsDraft (record d { path = Some p })
archive-opened d p is kept closed room named = record {
  version = is.version;
  limit = is.limit;
  archives = is.archives;
  open_archive = (room, named);
  messages = is.messages;
  open_message = is.open_message;
  keys = is.keys;
  named = is.named;
  placed = all-weaker _ _ (message-more _ _) _
      (subst (λ (q : Option (List ℕ)). AllByRecursion (IsMessage (with_open d.table.archives q)) d.table.messages)
      closed is.placed);
  in_order = is.in_order;
  listed = is.listed;
  sorted = is.sorted;
  freed = λ failed. absurd cc;
}

-- a message of the open archive
message-open : (archives : List Archive) (path : Option (List ℕ)) (m : Record) → IsSome path → m.archive
    ≡ length archives → m.offset + m.length ≤ 2 ^ 40 → m.size < m.length → IfSome m.date (FitsSigned w64)
    → IsMessage (with_open archives path) m
message-open _ None m some last within size date = absurd cc
message-open archives (Some p) m _ last within size date = message-new _ _ m last within size date

archives-low_open : (archives : List Archive) (path : Option (List ℕ)) (ms : List Record)
    → AllByRecursion (IsMessage (with_open archives path)) ms → AllByRecursion (λ m. m.archive ≤ length archives) ms
archives-low_open _ _ _ h = grind (arith, all-weaker, archives-low)

pub message-ended_draft : (d : Draft) (r : Record) → IsDraft d → d.failed ≡ false → IsInMessage d → IsNextMessage d r
    → IfSome r.date (FitsSigned w64)
    → IsDraft (record {
      most = d.most;
      path = d.path;
      in_message = false;
      table =
          record {
            version = d.table.version;
            archives = d.table.archives;
            messages = d.table.messages ++ r ∷ [];
            keys =
                d.table.keys;
          };
      failed = d.failed;
    })
message-ended_draft d r is kept opened next date =
    let inside = opened kept in
    let low = rw (← next.archive) at (archives-low_open d.table.archives d.path d.table.messages is.placed) in
    grind (arith, length-append, all-snoc, with_open, message-open, in_order-next, listed-weaker, length)

pub archive-ended_draft : (d : Draft) (p : List ℕ) (n : ℕ) (h : List ℕ) → IsDraft d → d.failed ≡ false → d.path ≡ Some p
    → n ≤ 2 ^ 40 → length h ≡ 32 → end_of (length d.table.archives) d.table.messages ≤ n
    → IsDraft (record {
      most = d.most;
      path = None;
      in_message = d.in_message;
      table =
          record {
            version = d.table.version;
            archives =
                d.table.archives ++ record { path = p; length = n; digest = Some h } ∷ [];
            messages = d.table.messages;
            keys =
                d.table.keys;
          };
      failed = d.failed;
    })
archive-ended_draft d p n h is kept open_now small size last = grind (arith, length-append, all-snoc, newest, all-ended)

-- if nothing is open, the table of a draft is well-formed
pub well_formed : (d : Draft) → IsDraft d → IsBetweenArchives d → IsWellFormed d.table
well_formed d is between = grind (arith, newest)

-- no message belongs to the archive that comes next
pub none-of-next : (archives : List Archive) (ms : List Record) → AllByRecursion (IsMessage archives) ms
    → end_of (length archives) ms ≡ 0
none-of-next _ [] _ = refl
none-of-next _ (r ∷ []) all = grind (arith, nat_tests)
none-of-next archives (r ∷ s ∷ rs) all = none-of-next archives (s ∷ rs) all.1
