-- The form of an answer, and the file that it goes to.
use Rattle.std.specs.Prelude.{ℕ, if◌then◌else◌, List, Option, Some, None}
use Rattle.std.specs.Option.{option_map_or}
use Rattle.mairix_options.specs.Path.{mfolder_path}
use Rattle.mairix_options.specs.declared.command_line.Plan.{Plan}
use Rattle.mairix_options.specs.declared.mail_format.MailFormat.{MailFormat}
use Rattle.mairix_options.specs.declared.mail_format.MailFormat.TheVariants.{Mbox, Raw, Excerpt}
use Rattle.mairix_options.specs.declared.rcfile.Rc.{Rc}

-- the form of the answer: `-r` and `-x` override the rcfile's `mformat`
abbrev pub answer_format : Plan → Rc → MailFormat
answer_format plan rc = if plan.raw then Raw else (if plan.excerpt then Excerpt else rc.format)

-- the file that an mbox goes to: that of `-o`, or the rcfile's `mfolder` if there is no `-o`
abbrev pub mbox_file : Plan → Rc → List ℕ
mbox_file plan rc = option_map_or (mfolder_path rc.base) plan.mfolder rc.mfolder

-- this file for an mbox; an answer of another form goes to standard output, so it has no file
abbrev pub file_by_format : MailFormat → List ℕ → Option (List ℕ)
file_by_format Mbox file = Some file
file_by_format _ file = None

-- the file that the answer goes to, or None for standard output
abbrev pub answer_file : Plan → Rc → Option (List ℕ)
answer_file plan rc = if plan.stdout then None else file_by_format (answer_format plan rc) (mbox_file plan rc)
