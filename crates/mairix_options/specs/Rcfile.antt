-- What an rcfile says, by mairixrc(5): the archives, the index file, the file for answers, and the form of answers.
use Rattle.std.specs.Prelude.{ℕ, ◌+◌, ◌==◌, nat_eq, nat_lt, min, Bool, true, not, ◌&&◌, ◌||◌, if◌then◌else◌, List, []}
use Rattle.std.specs.Prelude.{◌∷◌, ◌++◌, length, map, filter, codes, Option, Some, None, unwrap_or, Result, Ok, Err}
use Rattle.std.specs.List.{list_any, list_all, before_first, after_first, slice_get, slice_split, flat_map, filter_map}
use Rattle.std.specs.List.{last_or}
use Rattle.std.specs.Option.{option_and_then}
use Rattle.std.specs.Str.{bytes_eq, is_utf8}
use Rattle.bstr.specs.Text.{lines_of, without_terminator}
use Rattle.contract_words.specs.Answers.{◌>>=◌}
use Rattle.mairix_options.specs.Blanks.{text_without_blanks}
use Rattle.mairix_options.specs.Path.{is_path, has_expansion, has_wildcard, archive_path, mfolder_path}
use Rattle.mairix_options.specs.declared.setting.Keyword.{Keyword}
use Rattle.mairix_options.specs.declared.setting.Keyword.TheVariants as keyword
use Rattle.mairix_options.specs.declared.mail_format.MailFormat.{MailFormat}
use Rattle.mairix_options.specs.declared.mail_format.MailFormat.TheVariants as mail
use Rattle.mairix_options.specs.declared.rcfile.Name.{Name}
use Rattle.mairix_options.specs.declared.rcfile.Name.TheVariants as name
use Rattle.mairix_options.specs.declared.rcfile.Rc.{Rc}
use Rattle.mairix_options.specs.declared.rcfile.RcFault.{RcFault}
use Rattle.mairix_options.specs.declared.rcfile.RcFault.TheVariants.{BadLine, NotSupported, Wildcard, Expansion}
use Rattle.mairix_options.specs.declared.rcfile.RcFault.TheVariants.{Missing, BadFormat}
use Rattle.mairix_options.specs.declared.setting.ArchivesLine.{ArchivesLine}
use Rattle.mairix_options.specs.declared.setting.MfolderLine.{MfolderLine}
use Rattle.mairix_options.specs.declared.setting.Setting.{Setting}
use Rattle.mairix_options.specs.declared.setting.Setting.TheVariants.{Base, Archives, Database, Mfolder, Format}

-- ---- one line

-- the option with this name
abbrev pub keyword_of : List ℕ → Option Keyword
keyword_of option =
    if bytes_eq option (codes "base") then Some keyword.Base
    else (if bytes_eq option (codes "mbox") then Some keyword.Mbox
    else (if bytes_eq option (codes "database") then Some keyword.Database
    else (if bytes_eq option (codes "mfolder") then Some keyword.Mfolder
    else (if bytes_eq option (codes "mformat") then Some keyword.Mformat
    else None))))

-- the form with this name
abbrev pub format_of : List ℕ → Option MailFormat
format_of value =
    if bytes_eq value (codes "mbox") then Some mail.Mbox
    else (if bytes_eq value (codes "raw") then Some mail.Raw
    else (if bytes_eq value (codes "excerpt") then Some mail.Excerpt
    else None))

-- the names of archives in a value: the pieces between colons, without empty ones
abbrev pub archives_of : List ℕ → List (List ℕ)
archives_of value = filter (λ text. nat_lt 0 (length text)) (slice_split (λ b. b == 58) value)

-- the names that must be paths as written: each name in a value of `mbox`, and the whole value of any other option
abbrev pub names_in_value : Option Keyword → List ℕ → List (List ℕ)
names_in_value (Some keyword.Mbox) value = archives_of value
names_in_value _ value = value ∷ []

-- the paths under the base that a value names: those of `mbox` and of `mfolder`; other options aren't put under it
abbrev pub paths_in : Option (List ℕ) → Option Keyword → List ℕ → List (List ℕ)
paths_in base (Some keyword.Mbox) value = map (archive_path base) (archives_of value)
paths_in base (Some keyword.Mfolder) value = mfolder_path base value ∷ []
paths_in base _ value = []

-- the value; if a shell would expand it, the fault of line n
abbrev pub unexpanded_value : ℕ → List ℕ → Result (List ℕ) RcFault
unexpanded_value n value = if has_expansion value then Err (Expansion n) else Ok value

-- the names that a shell must not expand; a form isn't the name of a file, so it has none
abbrev pub expanded_in : Keyword → List ℕ → List (List ℕ)
expanded_in keyword.Mformat value = []
expanded_in k value = names_in_value (Some k) value

-- the names that must not be patterns for several files: those of `mbox` only
abbrev pub wild_in : Keyword → List ℕ → List (List ℕ)
wild_in keyword.Mbox value = archives_of value
wild_in _ value = []

-- what line n sets; an unknown form is a fault
abbrev pub setting_of : ℕ → Keyword → List ℕ → Result Setting RcFault
setting_of n keyword.Base value = Ok (Base value)
setting_of n keyword.Mbox value = Ok (Archives (record { number = n; names = archives_of value }))
setting_of n keyword.Database value = Ok (Database value)
setting_of n keyword.Mfolder value = Ok (Mfolder (record { number = n; name = value }))
setting_of n keyword.Mformat value = elim (format_of value)
    [ Some format ↦ Ok (Format format) | None ↦ Err (BadFormat n) ]

-- what line n sets, if its option is known and its names are paths; or the first of its faults
abbrev pub supported_setting : ℕ → Keyword → List ℕ → Result Setting RcFault
supported_setting n k value =
    if list_any has_expansion (expanded_in k value) then Err (Expansion n)
    else (if list_any has_wildcard (wild_in k value) then Err (Wildcard n)
    else setting_of n k value)

-- what `option=value` in line n sets under the base before it, or the first of its faults
abbrev pub assignment : Option (List ℕ) → ℕ → List ℕ → List ℕ → Result Setting RcFault
assignment base n option value =
    let k = keyword_of option in
    if nat_eq (length option) 0 || (nat_eq (length value) 0 || not
    (list_all is_path (names_in_value k value) && list_all is_path (paths_in base k value))) then Err (BadLine n)
    else elim k [ None ↦ Err (NotSupported n) | Some k ↦ supported_setting n k value ]

-- what line n sets, given its text without blanks at its ends: it must be UTF-8, and without `=` its value is empty
abbrev pub entry : Option (List ℕ) → ℕ → List ℕ → Result Setting RcFault
entry base n text =
    if not (is_utf8 text) then Err (BadLine n)
    else assignment base n (text_without_blanks (before_first (λ b. b == 61) text))
    (text_without_blanks (after_first (λ b. b == 61) text))

-- whether a line sets nothing: it is empty, or a comment, which begins with `#`
abbrev pub is_skipped : List ℕ → Bool
is_skipped [] = true
is_skipped (b ∷ text) = b == 35

-- the setting of line n, without blanks at its ends, if it has one
abbrev pub text_settings : Option (List ℕ) → ℕ → List ℕ → Result (List Setting) RcFault
text_settings base n text = if is_skipped text then Ok [] else (entry base n text >>= (λ s. Ok (s ∷ [])))

-- the setting of line n under the base before it, if it has one
abbrev pub line_settings : Option (List ℕ) → ℕ → List ℕ → Result (List Setting) RcFault
line_settings base n line = text_settings base n (text_without_blanks line)

-- ---- all lines

-- the base that a setting sets, if it does
abbrev pub base_in : Setting → Option (List ℕ)
base_in (Base path) = Some path
base_in _ = None

-- the line of archives that a setting is, if it is one
abbrev pub archives_in : Setting → Option ArchivesLine
archives_in (Archives line) = Some line
archives_in _ = None

-- the index file that a setting sets, if it does
abbrev pub database_in : Setting → Option (List ℕ)
database_in (Database path) = Some path
database_in _ = None

-- the line of `mfolder` that a setting is, if it is one
abbrev pub mfolder_in : Setting → Option MfolderLine
mfolder_in (Mfolder line) = Some line
mfolder_in _ = None

-- the form that a setting sets, if it does
abbrev pub format_in : Setting → Option MailFormat
format_in (Format format) = Some format
format_in _ = None

-- the value in the last setting that has one
abbrev pub last_value_of : {A : Type 0} → (Setting → Option A) → List Setting → Option A
last_value_of value settings = last_or None (filter_map value settings)

-- the lines of an rcfile; a line ends at its LF, which is dropped with a CR before it
abbrev pub lines_in : List ℕ → List (List ℕ)
lines_in rc = map without_terminator (lines_of rc)

-- these settings and those of the lines from line n on, or the first fault; each line is read under the last base
-- before it
abbrev pub settings_from : List Setting → ℕ → List (List ℕ) → Result (List Setting) RcFault
settings_from before n [] = Ok before
settings_from before n (line ∷ lines) =
    line_settings (last_value_of base_in before) n line >>= (λ s. settings_from (before ++ s) (n + 1) lines)

-- ---- the whole

-- the number of a line of archives, if one of its names isn't a path under the base
abbrev pub archives_misfit : Option (List ℕ) → ArchivesLine → Option ℕ
archives_misfit base line = if list_all is_path (map (archive_path base) line.names) then None else Some line.number

-- the number of a line of `mfolder`, if its name isn't a path under the base
abbrev pub mfolder_misfit : Option (List ℕ) → MfolderLine → Option ℕ
mfolder_misfit base line = if is_path (mfolder_path base line.name) then None else Some line.number

-- the smaller of two numbers, if there are any
abbrev pub earlier : Option ℕ → Option ℕ → Option ℕ
earlier (Some a) (Some b) = Some (min a b)
earlier (Some a) None = Some a
earlier None b = b

-- the first line with a name that isn't a path under the base that counts; for `mfolder` only the line that counts
abbrev pub first_misfit : Option (List ℕ) → List ArchivesLine → Option MfolderLine → Option ℕ
first_misfit base archives mfolder =
    earlier (slice_get (filter_map (archives_misfit base) archives) 0) (option_and_then (mfolder_misfit base) mfolder)

-- the fault of the line with this number, if there is one
abbrev pub all_fit : Option ℕ → Result (Unit {0}) RcFault
all_fit None = Ok tt
all_fit (Some n) = Err (BadLine n)

-- the value of an option, or the fault that it is missing
abbrev pub required_value : {A : Type 0} → Name → Option A → Result A RcFault
required_value option (Some x) = Ok x
required_value option None = Err (Missing option)

-- the paths, if there are any
abbrev pub paths_if_any : List (List ℕ) → Option (List (List ℕ))
paths_if_any [] = None
paths_if_any (path ∷ paths) = Some (path ∷ paths)

-- the paths of all archives under the base
abbrev pub all_paths : Option (List ℕ) → List ArchivesLine → List (List ℕ)
all_paths base archives = flat_map (λ line. map (archive_path base) line.names) archives

-- what the options say together, if each name is a path, or the first option that is missing
abbrev pub rc_fitting : Option (List ℕ) → List ArchivesLine → Option (List ℕ) → Option MfolderLine → Option MailFormat
    → Result Rc RcFault
rc_fitting base archives database mfolder format =
    required_value name.Mbox (paths_if_any (all_paths base archives)) >>= (λ paths.
    required_value name.Database database >>= (λ database.
    required_value name.Mfolder mfolder >>= (λ line.
    Ok (record {
      base = base;
      paths = paths;
      database = database;
      mfolder = mfolder_path base line.name;
      format =
          unwrap_or format mail.Mbox;
    }))))

-- what the options say together, or the first fault: names that aren't paths come before missing options
abbrev pub rc_with : Option (List ℕ) → List ArchivesLine → Option (List ℕ) → Option MfolderLine → Option MailFormat
    → Result Rc RcFault
rc_with base archives database mfolder format =
    all_fit (first_misfit base archives mfolder) >>= (λ _. rc_fitting base archives database mfolder format)

-- what some settings say together: all lines of `mbox`, and the last of each other option
abbrev pub rc_from : List Setting → Result Rc RcFault
rc_from settings =
    rc_with (last_value_of base_in settings) (filter_map archives_in settings) (last_value_of database_in settings)
    (last_value_of mfolder_in settings) (last_value_of format_in settings)

-- What the rcfile says, or its first fault. Faulty lines come first, then lines that are faulty only under the base
-- that counts, and then options that are missing.
abbrev pub rc_of : List ℕ → Result Rc RcFault
rc_of rc = settings_from [] 1 (lines_in rc) >>= rc_from
