-- A walk along the records of the messages.
use Rattle.std.specs.Prelude.{◌≡◌, ℕ, suc, ◌<◌, ◌≤◌, Bool, true, false, nat_le, ◌&&◌, ◌||◌, List, [], Option, IfSome}
use Rattle.std.specs.Prelude.{◌-◌, length, MatchOption}
use Rattle.std.specs.Option.{option_to_list}
use Rattle.mail_index.specs.declared.record.Record.{Record}
use Rattle.mail_query.specs.Query as query
use Rattle.mail_query.specs.Query.{Query}
use Rattle.mail_query.specs.Truth.{is_true}
use Rattle.mail_answer.specs.declared.cursor.scanned.Asked.{Asked}
use Rattle.mail_answer.specs.declared.cursor.scanned.Asked.TheVariants.{Any, Date, Size, Flag}
use Rattle.mail_answer.specs.TableFacts.{is_number_among, facts_of_record, record_at}
use Rattle.mail_answer.specs.CursorAhead.{WalkAhead}
use Rattle.mail_answer.specs.Marks.{each_number}

-- a condition on a record, as a query
abbrev pub asked_query : Asked → Query
asked_query Any = query.Any
asked_query (Date range) = query.Date range
asked_query (Size low high) = query.Size low high
asked_query (Flag flag wanted) = query.HasFlag flag wanted

-- Whether the record meets the condition. A condition depends on the record alone, not on its table or number.
abbrev pub is_as_asked : Asked → Record → Bool
is_as_asked asked m = is_true (asked_query asked)
    (facts_of_record (record { version = 0; archives = []; messages = []; keys = [] }) 0 m)

-- whether the record of the message of this number meets the condition
abbrev pub satisfies : List Record → Asked → ℕ → Bool
satisfies records asked n = is_as_asked asked (record_at records n)

-- whether the message is the first one, if this was found already, or comes from the next record on and passes the test
abbrev pub is_ahead : (ℕ → Bool) → ℕ → Option ℕ → ℕ → Bool
is_ahead test next first n = is_number_among n (option_to_list first) || (nat_le next n && test n)

-- for each of `count` messages, whether it still comes
abbrev pub truths_scanned : ℕ → (ℕ → Bool) → ℕ → Option ℕ → List Bool
truths_scanned count test next first = each_number count (is_ahead test next first)

-- what the walk still gives, with at most one step for each record from the next one on
abbrev pub scan_ahead : List Record → Asked → ℕ → Option ℕ → WalkAhead
scan_ahead records asked next first = record {
  truths = truths_scanned (length records) (satisfies records asked) next first;
  left = length records - next;
  postings = 0;
  below = 0;
}

-- the message that was found is before the next record
abbrev pub IsFound : ℕ → ℕ → Option ℕ → Type 0
IsFound count next first = IfSome first (λ n. (n < next) × (n < count))

-- the records from `old` on were read, up to the first that passes the test, or to the end if none passes
abbrev pub Scans : ℕ → (ℕ → Bool) → ℕ → ℕ → Option ℕ → Type 0
Scans count test old new found =
    MatchOption found ((count ≤ new) × ((m : ℕ) → old ≤ m → m < count → test m ≡ false))
    (λ n. (old ≤ n) × (n < count) × (new ≡ suc n) × (test n ≡ true) × ((m : ℕ) → old ≤ m → m < n → test m ≡ false))
