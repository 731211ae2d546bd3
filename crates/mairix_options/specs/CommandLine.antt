-- What the words after the program's name ask for, by what clap promises of a simple command.
use Rattle.std.specs.Prelude.{ℕ, Bool, true, false, ◌&&◌, if◌then◌else◌, List, [], ◌∷◌, Option, Some, None, unwrap_or}
use Rattle.std.specs.Prelude.{codes, fold, Result, Ok, Err}
use Rattle.std.specs.Option.{option_map_or}
use Rattle.std.specs.Str.{byte, bytes_eq}
use Rattle.clap.specs.Words.{App, Rule, Row, Text, Kinds, new_app, new_rule, with_rule, fault_of, matches_of, first_of}
use Rattle.clap.specs.Words.{all_of, rows_of, found_of, kind_of}
use Rattle.clap.specs.Simple.{on_top}
use Rattle.clap.specs.declared.builder.action.ArgAction.TheVariants.{Set, Append, SetTrue}
use Rattle.clap.specs.declared.error.Error.{Error}
use Rattle.clap.specs.declared.error.kind.ErrorKind.{ErrorKind}
use Rattle.clap.specs.declared.error.kind.ErrorKind.TheVariants as kind
use Rattle.clap.specs.declared.parser.matches.ArgMatches.{ArgMatches}
use Rattle.contract_words.specs.Answers.{◌>>=◌}
use Rattle.mairix_options.specs.declared.command_line.Plan.{Plan}
use Rattle.mairix_options.specs.declared.command_line.UsageFault.{UsageFault}
use Rattle.mairix_options.specs.declared.command_line.UsageFault.TheVariants.{Parse, TwoFormats, Help, Version}
use Rattle.or_memory.specs.declared.or_memory.OrMemory.{OrMemory}
use Rattle.or_memory.specs.declared.or_memory.OrMemory.TheVariants.{Refused, Memory}

-- ---- the command

-- an option without a value, which can be given once
abbrev pub bare_flag : Text → Rule
bare_flag id = record (new_rule id) { action = Some SetTrue }

-- an option without a value, written `-c`
abbrev pub short_flag : Text → ℕ → Rule
short_flag id c = record (bare_flag id) { short = Some c }

-- an option without a value, written `--id`
abbrev pub long_flag : Text → Rule
long_flag id = record (bare_flag id) { long = Some id }

-- the option `-f RCFILE`, which is required and can be given once
abbrev pub rcfile_option : Rule
rcfile_option = record (new_rule (codes "rcfile"))
    { short = Some (byte "f"); value_names = 1; action = Some Set; required = true }

-- the option `-o NAME`, which can be given once
abbrev pub mfolder_option : Rule
mfolder_option = record (new_rule (codes "mfolder")) { short = Some (byte "o"); value_names = 1; action = Some Set }

-- the words that aren't options, any number of them
abbrev pub pattern_argument : Rule
pattern_argument = record (new_rule (codes "pattern")) { value_names = 1; action = Some Append }

-- the command without arguments of its own; it has a version, so it has `-V` and `--version`, and `-h` and `--help` too
abbrev pub bare_command : App
bare_command = on_top (λ s. record s { has_version = true; no_binary_name = true }) (new_app (codes "mairix"))

-- the command `mairix -f RCFILE [-r] [-x] [-t] [-o NAME] [--stdout] [--boolean] [--once] [--verify] [PATTERN..]`
abbrev pub command : App
command = fold with_rule bare_command
    (rcfile_option
    ∷ short_flag (codes "raw") (byte "r")
    ∷ short_flag (codes "excerpt") (byte "x")
    ∷ short_flag (codes "threads") (byte "t")
    ∷ mfolder_option
    ∷ long_flag (codes "stdout")
    ∷ long_flag (codes "boolean")
    ∷ long_flag (codes "once")
    ∷ long_flag (codes "verify")
    ∷ pattern_argument
    ∷ [])

-- ---- the plan

-- whether the option with this id is set
abbrev pub flag : Text → List Row → Bool
flag id rows = option_map_or (λ t. bytes_eq t (codes "true")) (first_of id rows) false

-- the plan of the values that the parser finds
abbrev pub plan_of_rows : List Row → Plan
plan_of_rows rows = record {
  rcfile = unwrap_or (first_of (codes "rcfile") rows) [];
  raw = flag (codes "raw") rows;
  excerpt = flag (codes "excerpt") rows;
  threads = flag (codes "threads") rows;
  mfolder = first_of (codes "mfolder") rows;
  stdout = flag (codes "stdout") rows;
  boolean = flag (codes "boolean") rows;
  once = flag (codes "once") rows;
  verify = flag (codes "verify") rows;
  patterns = unwrap_or (all_of (codes "pattern") rows) [];
}

-- the plan of a parse
abbrev pub plan_in : ArgMatches → Plan
plan_in matches = plan_of_rows (rows_of (found_of matches))

-- the refusal of a kind of error: help and version each have their own, and all others are Parse
abbrev pub refusal_of_kind : ErrorKind → UsageFault
refusal_of_kind kind.DisplayHelp = Help
refusal_of_kind kind.DisplayVersion = Version
refusal_of_kind _ = Parse

-- the plan of these values, or the refusal of the first kind of error, if there is any
abbrev pub parse_by : Kinds → List Row → Result Plan UsageFault
parse_by [] rows = Ok (plan_of_rows rows)
parse_by (k ∷ ks) rows = Err (refusal_of_kind k)

-- the plan of the words, or the refusal, as the parser finds it
unfoldable pub parse : List Text → Result Plan UsageFault
parse words = parse_by (fault_of command words) (matches_of command words)

-- the plan, unless it has both `-r` and `-x`: the parser takes both, but an answer has one form
abbrev pub one_format : Plan → Result Plan UsageFault
one_format p = if p.raw && p.excerpt then Err TwoFormats else Ok p

-- the plan of the words, or their refusal
unfoldable pub plan : List Text → Result Plan UsageFault
plan words = parse words >>= one_format

-- ---- refusals

-- the refusal of a kind of error; lack of memory is none
abbrev pub kind_refusal : ErrorKind → Option UsageFault
kind_refusal kind.OutOfMemory = None
kind_refusal k = Some (refusal_of_kind k)

-- the refusal of an error; lack of memory is none
abbrev pub error_refusal : Error → Option UsageFault
error_refusal error = kind_refusal (kind_of error)

-- the fault that a kind of error becomes
abbrev pub fault_of_kind : ErrorKind → OrMemory UsageFault
fault_of_kind kind.OutOfMemory = Memory
fault_of_kind k = Refused (refusal_of_kind k)
