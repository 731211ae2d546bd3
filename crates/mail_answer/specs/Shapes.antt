-- The three forms of an answer.
use Rattle.std.specs.Prelude.{◌≡◌, ℕ, Bool, map, length, List, [], ◌∷◌, ◌++◌, Option, Some, if◌then◌else◌, take, drop}
use Rattle.std.specs.Prelude.{unwrap_or}
use Rattle.std.specs.Fmt.{decimal}
use Rattle.std.specs.List.{flat_map, slice_get}
use Rattle.std.specs.Option.{option_map}
use Rattle.contract_words.specs.Archives.{archive_at}
use Rattle.mbox_cutter.specs.Lines.{is_empty, lines}
use Rattle.mail_index.specs.declared.record.Record.{Record}
use Rattle.mail_index.specs.Tables.{Archive, Table}
use Rattle.mail_answer.specs.declared.format.Format.{Format}
use Rattle.mail_answer.specs.declared.format.Format.TheVariants.{Raw, Excerpt, Mbox}
use Rattle.mail_answer.specs.Closing.{feed}
use Rattle.mail_answer.specs.Excerpts.{excerpt}
use Rattle.mail_answer.specs.TableFacts.{record_at}

-- the bytes of a message: its separator, its text and the line that closes it
abbrev pub span : List (List ℕ) → Record → List ℕ
span archives m = take m.length (drop m.offset (archive_at archives m.archive))

-- the path of the archive with this number
abbrev pub path_at : List Archive → ℕ → List ℕ
path_at named n = unwrap_or (option_map (λ a. a.path) (slice_get named n)) []

-- ---- raw: offset, space, length, space, path, LF

-- the line of a message in a raw answer
abbrev pub raw_line : ℕ → ℕ → List ℕ → List ℕ
raw_line offset length path = decimal offset ++ 32 ∷ decimal length ++ 32 ∷ path ++ 10 ∷ []

-- ---- mbox: the span, then LFs until its last line is empty

-- the last of the lines, or no bytes if there is no line
abbrev pub last_line_of : List (List ℕ) → List ℕ
last_line_of [] = []
last_line_of (l ∷ []) = l
last_line_of (l ∷ m ∷ ls) = last_line_of (m ∷ ls)

-- whether the last line of the bytes is empty
abbrev pub is_closed : List ℕ → Bool
is_closed bytes = is_empty (last_line_of (lines bytes))

-- the bytes, and as few LFs as make their last line empty
unfoldable pub closed_text : List ℕ → List ℕ
closed_text bytes = if is_closed bytes then bytes else if is_closed (bytes ++ feed) then bytes ++ feed
    else bytes ++ feed ++ feed

-- ---- answers

-- the text of a message in a form, over archives that have these bytes
abbrev pub message_text : Format → List Archive → List (List ℕ) → Record → List ℕ
message_text Raw named archives m = raw_line m.offset m.length (path_at named m.archive)
message_text Excerpt named archives m = excerpt (path_at named m.archive) (span archives m)
message_text Mbox named archives m = closed_text (span archives m)

-- the texts of the messages with these numbers, one after another
abbrev pub answer_text : Format → Table → List (List ℕ) → List ℕ → List ℕ
answer_text format t archives numbers = flat_map (λ n. message_text format t.archives archives (record_at t.messages n))
    numbers

-- The spans are as many as the numbers, and each has as many bytes as its message.
abbrev pub AreSpansOf : Table → List ℕ → List (List ℕ) → Type 0
AreSpansOf t numbers spans = map length spans ≡ map (λ n. (record_at t.messages n).length) numbers

-- The text of an answer, if it is known. A raw answer doesn't depend on the bytes of the archives.
abbrev pub known_answer : Format → Table → Option (List (List ℕ)) → List ℕ → Option (List ℕ)
known_answer Raw t held numbers = Some (answer_text Raw t [] numbers)
known_answer Excerpt t held numbers = option_map (λ archives. answer_text Excerpt t archives numbers) held
known_answer Mbox t held numbers = option_map (λ archives. answer_text Mbox t archives numbers) held

-- The text of the message with this number, if it is known.
abbrev pub known_message : Format → Table → Option (List (List ℕ)) → ℕ → Option (List ℕ)
known_message Raw t held n = Some (message_text Raw t.archives [] (record_at t.messages n))
known_message Excerpt t held n = option_map
    (λ archives. message_text Excerpt t.archives archives (record_at t.messages n)) held
known_message Mbox t held n = option_map (λ archives. message_text Mbox t.archives archives (record_at t.messages n))
    held
