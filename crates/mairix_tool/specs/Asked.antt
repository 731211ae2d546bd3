-- What words and rcfile mean, before any archive is read.
use Rattle.std.specs.Prelude.{ℕ, Bool, true, false, List, map, String, string_bytes, Result, Ok}
use Rattle.std.specs.List.{join_with_byte}
use Rattle.std.specs.declared.alloc.Global.{Global}
use Rattle.contract_words.specs.Answers.{◌>>=◌, fault_as}
use Rattle.mail_answer.specs.Mail.{Search}
use Rattle.mail_answer.specs.TableAnswers.{search_of}
use Rattle.mail_answer.specs.declared.format.Format.{Format}
use Rattle.mail_answer.specs.declared.format.Format.TheVariants as format
use Rattle.mail_query.specs.declared.fault.QueryFault.{QueryFault}
use Rattle.mail_query.specs.Mail.{mairix_query, boolean_query}
use Rattle.mail_query.specs.Query.{Query}
use Rattle.run_faults.specs.declared.fault.Fault.{Fault}
use Rattle.run_faults.specs.declared.fault.Fault.TheVariants as of
use Rattle.mairix_options.specs.declared.command_line.Plan.{Plan}
use Rattle.mairix_options.specs.declared.mail_format.MailFormat.{MailFormat}
use Rattle.mairix_options.specs.declared.mail_format.MailFormat.TheVariants as mail
use Rattle.mairix_options.specs.declared.rcfile.Rc.{Rc}
use Rattle.mairix_tool.specs.declared.wanted.Wanted as code
use Rattle.mairix_options.specs.AnswerFiles.{answer_format}
use Rattle.mairix_options.specs.CommandLine.{plan}
use Rattle.mairix_options.specs.Rcfile.{rc_of}

-- the archives' paths, the search, and whether the archives are to be proved to be those that were indexed
pub record Wanted : Type 0 where
  pub paths : List (List ℕ)
  pub search : Search
  pub verify : Bool

-- what a run has to do, from the code's own value
abbrev pub shown_wanted : code.Wanted → Wanted
shown_wanted w = record { paths = w.paths; search = search_of w.query w.threads w.format; verify = w.verify }

-- the rcfile, if words and rcfile are accepted; otherwise the first refusal
abbrev pub asked_rc : List (List ℕ) → List ℕ → Result Rc Fault
asked_rc words rc = fault_as of.Usage (plan words) >>= λ p. fault_as of.Rc (rc_of rc)

-- the query of all patterns: each is a mairix pattern; for a boolean query they are one text, joined by single spaces
abbrev pub query_asked : Bool → List (List ℕ) → ℕ → Result Query QueryFault
query_asked true patterns now = boolean_query (join_with_byte 32 patterns)
query_asked false patterns now = mairix_query patterns now

-- the form of an answer, as the writer of answers names it
abbrev pub format_of_mail : MailFormat → Format
format_of_mail mail.Mbox = format.Mbox
format_of_mail mail.Raw = format.Raw
format_of_mail mail.Excerpt = format.Excerpt

-- What an accepted command line, rcfile and query mean: the format of the words overrides that of the rcfile.
abbrev pub wanted_by : Plan → Rc → Query → Wanted
wanted_by p r q = record {
  paths = r.paths;
  search =
      record { query = q; threads = p.threads; format = format_of_mail (answer_format p r) };
  verify = p.verify;
}

-- what accepted words mean with this rcfile; otherwise the first refusal, of the rcfile or of the query
abbrev pub wanted_of_plan : Plan → List ℕ → ℕ → Result Wanted Fault
wanted_of_plan p rc now =
    fault_as of.Rc (rc_of rc) >>= λ r. fault_as of.Query (query_asked p.boolean p.patterns now) >>=
    λ q. Ok (wanted_by p r q)

-- what words and rcfile mean; otherwise the first refusal, of the words, the rcfile or the query
abbrev pub wanted_of_words : List (List ℕ) → List ℕ → ℕ → Result Wanted Fault
wanted_of_words words rc now = fault_as of.Usage (plan words) >>= λ p. wanted_of_plan p rc now

-- the same for the words as they are in memory
abbrev pub asks : List (String Global) → List ℕ → ℕ → Result Wanted Fault
asks words rc now = wanted_of_words (map string_bytes words) rc now
