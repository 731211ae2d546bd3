-- Whether what was reported of a name agrees with what it leads to.
use Rattle.std.specs.Prelude.{◌≡◌, ◌==◌, ◌&&◌, Bool, true, false, length, Option, None, Some, Result, Ok, Err, not}
use Rattle.named_files.specs.declared.look.Look.{Look}
use Rattle.named_files.specs.declared.look.Look.TheVariants as shows
use Rattle.named_files.specs.Entries.{Entry, Nothing, File, Folder, Other}

-- whether nothing has the name
abbrev pub is_free : Entry → Bool
is_free Nothing = true
is_free (File bytes) = false
is_free Folder = false
is_free Other = false

-- whether a look finds what the name leads to
abbrev pub is_shown : Look → Entry → Bool
is_shown shows.Nothing entry = is_free entry
is_shown (shows.File size) (File bytes) = size == length bytes
is_shown shows.Folder Folder = true
is_shown shows.Other Other = true
is_shown _ _ = false

-- a look that was refused reports nothing
abbrev pub look_agrees : {E : Type 0} → Result Look E → Entry → Bool
look_agrees (Ok look) entry = is_shown look entry
look_agrees (Err why) entry = true

-- whether two names are reported as apart exactly if they are
abbrev pub apart_agrees : {E : Type 0} → Result Bool E → Bool → Bool
apart_agrees (Ok true) is_so = is_so
apart_agrees (Ok false) is_so = not is_so
apart_agrees (Err why) is_so = true

-- no leftover is reported only if nothing has the name
abbrev pub leftover_agrees : {L E : Type 0} → Result (Option L) E → Entry → Bool
leftover_agrees (Ok None) entry = is_free entry
leftover_agrees (Ok (Some left)) entry = not (is_free entry)
leftover_agrees (Err why) entry = true

-- a file is made only if nothing has the name
abbrev pub creation_agrees : Bool → Entry → Bool
creation_agrees true entry = is_free entry
creation_agrees false entry = true

-- ---- what a call adds to the reports

-- A report is added. It agrees if all reports are right.
pub record AddsReport (are_right : Type 0) (agrees before after : Bool) : Type 0 where
  pub noted : after ≡ (before && agrees)
  pub right : are_right → after ≡ before
