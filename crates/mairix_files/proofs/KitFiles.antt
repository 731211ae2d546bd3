-- What a noted call says of the bytes of the only file.
use Rattle.std.proofs.Common.{◌≡◌, ◌≤◌, ℕ, List, [], ◌∷◌, Option, None, Some, IfSome, Result, Ok, Err, length, take, subst, sym, rules}
use Rattle.std.specs.Option.{option_map}
use Rattle.call_record.specs.declared.record.Record.{Record}
use Rattle.contract_words.specs.Archives.{archive_at}
use Rattle.std.specs.Io.KnownBytes.{ReadConsumes}
use Rattle.contract_words.specs.Knowledge.{still_known}
use Rattle.call_record.specs.Noted.{Notes, held_by, left_of, call_of_read, call_of_read_at, call_of_length}
use Rattle.call_record.proofs.Reading.{noted-read}
use Rattle.named_files.specs.Entries.{IsReadFromFile}
use Rattle.mairix_files.specs.KitFiles.{bytes_held, rest_held, if_supposed}
use Rattle.mairix_files.proofs.NotedCalls.{is-read, is-length}

of_only : (supposed : List (List ℕ)) (held : Option (List (List ℕ))) (P : List ℕ → Type 0)
    → IfSome held (λ archives. P (archive_at archives 0))
    → IfSome (if_supposed supposed (option_map (λ archives. archive_at archives 0) held)) P
of_only [] held P h = tt
of_only (bytes ∷ others) None P h = tt
of_only (bytes ∷ others) (Some archives) P h = h

pub only_read : (old new : Record) (offset n : ℕ) (into : List ℕ)
    → Notes (call_of_read_at {E = Unit {0}} 0 offset (Ok n) into) old new
    → IsReadFromFile offset (take n into) (bytes_held new)
only_read old new offset n into notes =
    of_only new.supposed (held_by new) _ (is-read {E = Unit {0}} old new 0 offset (Ok n) into notes)

pub only_length : (old new : Record) (n : ℕ) → Notes (call_of_length {E = Unit {0}} 0 (Ok n)) old new
    → IfSome (bytes_held new) (λ all. n ≡ length all)
only_length old new n notes =
    of_only new.supposed (held_by new) _ (is-length {E = Unit {0}} old new 0 (Ok n) notes)

-- what a read gives of a file, if one is supposed
consumes_if : {E : Type 0} (supposed : List (List ℕ)) (before after : Option (List ℕ)) (told : Result ℕ E)
    → (into : List ℕ) → ReadConsumes (still_known before after) after told into
    → ReadConsumes (still_known (if_supposed supposed before) (if_supposed supposed after)) (if_supposed supposed after)
    told into
consumes_if [] before after (Ok n) into h = search rules
consumes_if [] before after (Err e) into h = search rules
consumes_if (bytes ∷ others) before after told into h = h

pub only_read_next : (old new : Record) (n : ℕ) (into : List ℕ) → n ≤ length into
    → Notes (call_of_read {E = Unit {0}} (Ok n) into) old new
    → ReadConsumes {E = Unit {0}} (still_known (rest_held old) (rest_held new)) (rest_held new) (Ok n) into
only_read_next old new n into bound notes =
    subst (λ supposed. ReadConsumes {E = Unit {0}} (still_known (rest_held old) (if_supposed supposed (left_of 0 new)))
    (if_supposed supposed (left_of 0 new)) (Ok n) into) (sym notes.0)
    (consumes_if {E = Unit {0}} old.supposed (left_of 0 old) (left_of 0 new) (Ok n) into
    (noted-read {E = Unit {0}} 0 old new (Ok n) into bound notes).0)
