-- The fields of a reader, and the state that they mean.
use Rattle.std.specs.Prelude.{◌≡◌, ℕ, ◌-◌, ◌≤◌, List, Option, true, vec_len, slice_range}
use Rattle.std.specs.Io.KnownBytes.{IsAtEnd}
use Rattle.mbox_cutter.specs.declared.line_reader.LineReader.TheInside.{Inside}
use Rattle.mbox_cutter.specs.LineReaders.{BytesAhead}

-- the state of a reader
abbrev pub ahead_of_reader : {S : Type 0} → Inside S → BytesAhead S
ahead_of_reader w = record {
  line = slice_range w.buffer.items (w.from - w.taken) w.from;
  unread = slice_range w.buffer.items w.from w.to;
  ended = w.ended;
  source = w.source;
}

-- what always holds of the fields
pub record IsLineReader {S : Type 0} (rest : S → Option (List ℕ)) (w : Inside S) : Type 0 where
  pub taken : w.taken ≤ w.from
  pub order : w.from ≤ w.to
  pub room : w.to ≤ vec_len w.buffer
  pub whole : vec_len w.buffer ≡ 131072
  pub end : w.ended ≡ true → IsAtEnd (rest w.source.now)
