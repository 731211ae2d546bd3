-- What still comes from any place in an archive on, which the steps of a cutter follow. At the beginning it is all that
-- comes of the archive.
use Rattle.std.specs.Prelude.{ℕ, ◌+◌, ◌-◌, true, false, ◌&&◌, nat_lt, nat_le, if◌then◌else◌, List, [], ◌∷◌, ◌++◌}
use Rattle.std.specs.Prelude.{Option, None, Some, length, map}
use Rattle.std.specs.Option.{option_map}
use Rattle.mbox_cutter.specs.declared.event.CutFault.{CutFault}
use Rattle.mbox_cutter.specs.declared.event.CutFault.TheVariants.{NotAnMbox, ArchiveTooLong}
use Rattle.mbox_cutter.specs.declared.scan.Phase.{Phase}
use Rattle.mbox_cutter.specs.declared.scan.Phase.TheVariants.{Between, Inside, Ended, Failed}
use Rattle.mbox_cutter.specs.Lines.{lines}
use Rattle.mbox_cutter.specs.Archives.{marked_lines, grouped_lines, is_refused, total, messages_from, without_closing}
use Rattle.mbox_cutter.specs.Events.{ArchiveEvent, Line, End, Done, events_of, first_full_end, ComingEvents}
use Rattle.mbox_cutter.specs.Places.{CutterPlace}

-- the events from between two messages, or from before the first, with these lines left of an archive of `all` bytes
abbrev pub events_between : ℕ → ℕ → List (List ℕ) → List ArchiveEvent
events_between all at ls =
    let marks = marked_lines true ls in let groups = grouped_lines marks in
    if is_refused marks then [] else events_of all (messages_from (at + total groups.0) groups.1)

-- the events from inside a message, after `size` bytes of its text
abbrev pub events_inside : ℕ → ℕ → ℕ → ℕ → List (List ℕ) → List ArchiveEvent
events_inside all at start size ls =
    let groups = grouped_lines (marked_lines false ls) in let text = without_closing groups.0 in
    map Line text ++ End ((at + total groups.0) - start) (size + total text) ∷ events_of all
    (messages_from (at + total groups.0) groups.1)

-- the refusal of an archive of `all` bytes, if that is more than the limit
abbrev pub too_long : ℕ → ℕ → Option CutFault
too_long most all = if nat_lt most all then Some ArchiveTooLong else None

-- the refusal from between two messages, or from before the first, with these lines, of `rest` bytes, left
abbrev pub refusal_between : ℕ → ℕ → List (List ℕ) → ℕ → Option CutFault
refusal_between at most ls rest =
    if is_refused (marked_lines true ls) && nat_le (at + first_full_end ls) most then Some NotAnMbox
    else too_long most (at + rest)

-- what still comes in a phase, at an offset, with these bytes left
unfoldable pub resume : Phase → ℕ → ℕ → List ℕ → ComingEvents
resume Between at most bytes = record {
  events = events_between (at + length bytes) at (lines bytes);
  refusal =
      refusal_between at most (lines bytes) (length bytes);
}
resume (Inside start size) at most bytes =
    record {
      events = events_inside (at + length bytes) at start size (lines bytes);
      refusal =
          too_long most (at + length bytes);
    }
resume Ended at most bytes = record { events = Done at ∷ []; refusal = None }
resume Failed at most bytes = record { events = []; refusal = None }

-- what still comes at a place, if the bytes left are known
abbrev pub coming_at : CutterPlace → Option (List ℕ) → Option ComingEvents
coming_at p bytes = option_map (resume p.phase p.offset p.most) bytes
