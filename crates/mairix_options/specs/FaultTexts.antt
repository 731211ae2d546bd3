-- The texts that report refused command lines and rcfiles.
use Rattle.std.specs.Prelude.{ℕ, List, ◌∷◌, ◌++◌, codes}
use Rattle.std.specs.Fmt.{decimal}
use Rattle.mairix_options.specs.declared.command_line.UsageFault.{UsageFault}
use Rattle.mairix_options.specs.declared.command_line.UsageFault.TheVariants.{Parse, TwoFormats, Help, Version}
use Rattle.mairix_options.specs.declared.rcfile.Name.{Name}
use Rattle.mairix_options.specs.declared.rcfile.Name.TheVariants as name
use Rattle.mairix_options.specs.declared.rcfile.RcFault.{RcFault}
use Rattle.mairix_options.specs.declared.rcfile.RcFault.TheVariants.{BadLine, NotSupported, Wildcard, Expansion}
use Rattle.mairix_options.specs.declared.rcfile.RcFault.TheVariants.{Missing, BadFormat}

-- the text of a refused command line
abbrev pub text_of_usage : UsageFault → List ℕ
text_of_usage Parse = codes "bad words"
text_of_usage TwoFormats = codes "-r and -x exclude each other"
text_of_usage Help = codes "help"
text_of_usage Version = codes "version"

-- the text of a faulty line, such as `rcfile line 2: unknown format`; lines count from 1
abbrev pub text_of_line : ℕ → List ℕ → List ℕ
text_of_line line reason = codes "rcfile line " ++ decimal line ++ 58 ∷ 32 ∷ reason

-- the text of a missing option
abbrev pub text_of_missing : Name → List ℕ
text_of_missing name.Mbox = codes "rcfile: mbox missing"
text_of_missing name.Database = codes "rcfile: database missing"
text_of_missing name.Mfolder = codes "rcfile: mfolder missing"

-- the text of a refused rcfile
abbrev pub text_of_rc : RcFault → List ℕ
text_of_rc (BadLine line) = text_of_line line (codes "not option=value")
text_of_rc (NotSupported line) = text_of_line line (codes "option not supported")
text_of_rc (Wildcard line) = text_of_line line (codes "wildcard not supported")
text_of_rc (Expansion line) = text_of_line line (codes "expansion not supported")
text_of_rc (Missing option) = text_of_missing option
text_of_rc (BadFormat line) = text_of_line line (codes "unknown format")
