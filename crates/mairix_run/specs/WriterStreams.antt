-- What a stream over a writer has handed on.
use Rattle.std.specs.Prelude.{ℕ, List, length, take, drop, Some}
use Rattle.std.proofs.Common.{sym}
use Rattle.std.proofs.lemmas.List.{take-append-drop}
use Rattle.contract_words.specs.Archives.{archive_at}
use Rattle.call_record.specs.declared.record.Record.{Record}
use Rattle.call_record.specs.Calls.{taken_after}
use Rattle.mairix_run.specs.Streams.{IsFrontOf}

-- the bytes that it had taken when it was flushed last
abbrev pub flushed_bytes : Record → List ℕ
flushed_bytes flushed = archive_at flushed.supposed 0

-- what it has handed on of all that it took: as many bytes as it had taken when it was flushed last
abbrev pub handed_on_of : Record → Record → List ℕ
handed_on_of flushed noted = take (length (flushed_bytes flushed)) (taken_after noted.calls)

-- it is a front of what it took
pub front_flushed : (flushed noted : Record)
    → IsFrontOf (Some (handed_on_of flushed noted)) (Some (taken_after noted.calls))
front_flushed flushed noted =
    let count = length (flushed_bytes flushed) in
    (drop count (taken_after noted.calls), sym (take-append-drop count (taken_after noted.calls)))
