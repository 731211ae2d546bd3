-- The names of std and of the definitions that proofs use, all from one place.
pub use Rattle.contract_words.specs.Knowledge.{still_known}
pub use Rattle.mbox_cutter.specs.Archives.{spans_of, size, span_length}
unfoldable pub use Rattle.mbox_cutter.specs.Archives.{messages}
pub use Rattle.mbox_cutter.specs.Coming.{IsRefusalToCome, TakesEvent, TakesKnown, is_device}
pub use Rattle.mbox_cutter.specs.Events.{ArchiveEvent, ComingEvents, Done, End, Line, Start, coming_of}
unfoldable pub use Rattle.mbox_cutter.specs.Events.{events, archive_refusal}
pub use Rattle.mbox_cutter.specs.Inside.Ahead.{Extends, ReadsAfter, ReadsOn}
pub use Rattle.mbox_cutter.specs.Inside.Resume.{coming_at, events_between, events_inside, too_long}
unfoldable pub use Rattle.mbox_cutter.specs.Inside.Resume.{resume}
pub use Rattle.mbox_cutter.specs.Inside.Scan.{FindsLine, IsFresh, IsPlace, IsScan, IsWithin, Passes, Steps, closes_at, coming_events, place_of}
pub use Rattle.mbox_cutter.specs.LineReaders.{BytesAhead, TakesFirstLine, known_bytes, known_until}
pub use Rattle.mbox_cutter.specs.Lines.{AreCut, AreLines, IsLine, first_lines, length_before_feed}
unfoldable pub use Rattle.mbox_cutter.specs.Lines.{first_length, is_empty, line_end_of, lines}
pub use Rattle.mbox_cutter.specs.Places.{CutterPlace, HasLine, Moves}
pub use Rattle.mbox_cutter.specs.Progress.{event_with_line}
pub use Rattle.mbox_cutter.specs.Separators.{has_time_then_year, is_year, stands_for, separator_tokens}
unfoldable pub use Rattle.mbox_cutter.specs.Separators.{has_form, is_separator, without_break}
pub use Rattle.mbox_cutter.specs.Sources.{ReadsSource, Stays}
pub use Rattle.mbox_cutter.specs.declared.device.Source.{Ghosts}
pub use Rattle.mbox_cutter.specs.declared.event.CutFault.{CutFault}
pub use Rattle.mbox_cutter.specs.declared.event.CutFault.TheVariants.{ArchiveTooLong, NotAnMbox}
pub use Rattle.mbox_cutter.specs.declared.scan.Phase.{Phase}
pub use Rattle.mbox_cutter.specs.declared.scan.Phase.TheVariants.{Between, Ended, Inside}
pub use Rattle.memchr.specs.Find.{IsFirstByte, is_byte}
pub use Rattle.std.proofs.Common.{Bool, Err, IfOk, IfSome, List, None, Ok, Option, Result, Some, [], add-zero, ap, append-nil, append_assoc, arith, cond, drop, false, get_or, length, length-append, map, min, nat_eq, nat_lt, refl, rules, subst, suc, sym, take, tests, true, zero, zero-add, ℕ, ◌&&◌, ◌*◌, ◌++◌, ◌+◌, ◌-◌, ◌<◌, ◌==◌, ◌||◌, ◌∙◌, ◌∷◌, ◌≡◌, ◌≤◌, ◌⊎◌}
pub use Rattle.std.proofs.Math.Seq.{drop-append_seam, take-append-add, take-append_seam}
pub use Rattle.std.proofs.lemmas.Bool.Decides.{nat_tests}
pub use Rattle.std.proofs.lemmas.List.{drop-append-le, drop-drop, drop_all, get_or_default, length-drop, length-take, length-take-le, take-append-drop, take-append-le, take_all}
pub use Rattle.std.specs.Io.KnownBytes.{Appends, IsAtEnd, ReadConsumes, prepend_known}
pub use Rattle.std.specs.List.{concat, list_all, list_any, slice_range, zip}
pub use Rattle.std.specs.Option.{option_map}
pub use Rattle.std.specs.Borrow.{MutBor}
pub use Rattle.std.specs.Prelude.{IsSome, codes}
