-- What a table says of its messages, and which of them satisfy a query.
use Rattle.std.specs.Prelude.{ℕ, Bool, false, nat_eq, List, length, map, filter, None}
use Rattle.std.specs.List.{list_any, range_with_len, slice_index_or}
use Rattle.mail_index.specs.declared.kind.Kind.{Kind}
use Rattle.mail_index.specs.declared.kind.Kind.TheVariants.{Text, OwnId}
use Rattle.mail_index.specs.declared.record.Record.{Record}
use Rattle.mail_index.specs.Tables.{Key, Table}
use Rattle.mail_index.specs.LookUps.{keys_of}
use Rattle.mail_query.specs.Query.{Query}
use Rattle.mail_query.specs.Truth.{Facts, is_true}

-- whether the number is one of these
abbrev pub is_number_among : ℕ → List ℕ → Bool
is_number_among n numbers = list_any (nat_eq n) numbers

-- the texts of the keys of a kind that the message with this number has
abbrev pub texts_with : Kind → ℕ → List Key → List (List ℕ)
texts_with kind n keys = map (λ k. k.text) (filter (λ k. is_number_among n k.numbers) (keys_of kind keys))

-- what the table says of a message: its texts by its number, the rest by its record
abbrev pub facts_of_record : Table → ℕ → Record → Facts
facts_of_record t n m = record {
  words = λ kind. texts_with (Text kind) n t.keys;
  own_ids = texts_with OwnId n t.keys;
  date = m.date;
  size = m.size;
  flags = m.flags;
}

-- a record for numbers after the last message; it has no meaning
abbrev pub no_record : Record
no_record = record {
  archive = 0;
  offset = 0;
  length = 1;
  size = 0;
  date = None;
  flags = record { seen = false; replied = false; flagged = false };
}

-- the record of the message with this number
abbrev pub record_at : List Record → ℕ → Record
record_at messages n = slice_index_or messages n no_record

-- what the table says of the message with this number
abbrev pub facts_at : Table → ℕ → Facts
facts_at t n = facts_of_record t n (record_at t.messages n)

-- the numbers of the messages
abbrev pub message_numbers : Table → List ℕ
message_numbers t = range_with_len 0 (length t.messages)

-- for each message in order, whether it satisfies the query
abbrev pub truths : Table → Query → List Bool
truths t q = map (λ n. is_true q (facts_at t n)) (message_numbers t)

-- the rising numbers of the messages that satisfy the query
abbrev pub chosen_numbers : Table → Query → List ℕ
chosen_numbers t q = filter (λ n. is_true q (facts_at t n)) (message_numbers t)
