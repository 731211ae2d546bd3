-- Runs whose replies were worked out by hand.
use Rattle.std.specs.Prelude.{ℕ, ◌==◌, List, [], ◌∷◌, ◌++◌, None, Some, codes, Result}
use Rattle.std.specs.List.{slice_split}
use Rattle.mbox_cutter.specs.declared.event.CutFault.TheVariants.{NotAnMbox}
use Rattle.mail_query.specs.declared.fault.QueryFaultKind.TheVariants.{BadPrefix}
use Rattle.mairix_options.specs.declared.command_line.UsageFault.TheVariants.{TwoFormats}
use Rattle.mairix_options.specs.declared.rcfile.Name.TheVariants.{Mbox as MboxLine}
use Rattle.mairix_options.specs.declared.rcfile.RcFault.TheVariants.{Missing}
use Rattle.run_faults.specs.declared.fault.Fault.{Fault}
use Rattle.run_faults.specs.declared.fault.Fault.TheVariants.{Archive, Query, Rc, Usage}
use Rattle.mairix_tool.specs.Asked.{Wanted, wanted_of_words}
use Rattle.mairix_tool.specs.Replies.{Answer}
use Rattle.mairix_tool.specs.Runs.{IsReply}

-- a run: its words, of which a space parts each two, its rcfile, what its archives hold, and what is replied
pub record ReplyRow : Type 0 where
  pub words : List ℕ
  pub rcfile : List ℕ
  pub archives : List (List ℕ)
  pub answer : Answer

-- what its words and rcfile ask for at noon of 18 May 2003
abbrev pub wanted_of_row : ReplyRow → Result Wanted Fault
wanted_of_row row = wanted_of_words (slice_split (λ b. b == 32) row.words) row.rcfile 1053259200

-- it is replied then
unfoldable pub IsWorkedReply : ReplyRow → Type 0
IsWorkedReply row = IsReply (wanted_of_row row) row.archives row.answer

-- ---- what is replied

-- this many messages, and this text
abbrev pub found_messages : ℕ → List ℕ → Answer
found_messages messages text = record { text = text; reply = record { status = 0; messages = messages; fault = None } }

abbrev pub no_match : Answer
no_match = record { text = []; reply = record { status = 1; messages = 0; fault = None } }

abbrev pub refused_with : ℕ → Fault → Answer
refused_with status fault = record { text = []; reply = record { status = status; messages = 0; fault = Some fault } }

-- ---- rcfiles and archives

abbrev pub one_archive_rcfile : List ℕ
one_archive_rcfile = codes "mbox=m.mbox\ndatabase=m.idx\nmfolder=hits\n"

abbrev pub two_archives_rcfile : List ℕ
two_archives_rcfile = codes "mbox=a.mbox:b.mbox\ndatabase=m.idx\nmfolder=hits\n"

-- 37 bytes and LF
abbrev pub separator : List ℕ
separator = codes "From a@x.org Thu Jan  2 10:00:00 2003\n"

-- 58 bytes
abbrev pub hello_message : List ℕ
hello_message = separator ++ codes "Subject: Hello\n\nhi\n\n"

-- of 75 and 49 bytes
abbrev pub two_messages : List ℕ
two_messages =
    separator ++ codes
    "Subject: one\n\na\n\nFrom here on we go\n\nFrom - Sat Jan  4 12:00:00 2003\nSubject: two\n\nb\n\n"

-- 78 bytes; the subject is Grüße
abbrev pub greetings : List ℕ
greetings = separator ++ codes "Subject: =?iso-8859-1?Q?Gr=FC=DFe?=\n\nx\n\n"

-- 157 bytes; an outer delimiter ends the inner parts, too
abbrev pub nested_parts : List ℕ
nested_parts =
    separator ++ codes
    "Content-Type: multipart/mixed; boundary=o\n\n--o\nContent-Type: multipart/mixed; boundary=i\n\n--i\n\ninner\n--o\n\nouter\n--o--\n\n"

-- 72 bytes
abbrev pub to_alice : List ℕ
to_alice = separator ++ codes "To: alice@x.org\nCc: bob@x.org\n\nx\n\n"

-- of 79 bytes each; both refer to 0@x, which no archive holds
abbrev pub hi : List ℕ
hi = separator ++ codes "Message-ID: <1@x>\nReferences: <0@x>\n\nhi\n\n"

abbrev pub ho : List ℕ
ho = separator ++ codes "Message-ID: <2@x>\nReferences: <0@x>\n\nho\n\n"

-- of the archive m.mbox
abbrev pub of_one : List ℕ → List ℕ → Answer → ReplyRow
of_one words archive answer = record {
  words = words;
  rcfile = one_archive_rcfile;
  archives = archive ∷ [];
  answer =
      answer;
}

-- of a.mbox and b.mbox
abbrev pub of_two : List ℕ → Answer → ReplyRow
of_two words answer = record { words = words; rcfile = two_archives_rcfile; archives = hi ∷ ho ∷ []; answer = answer }

-- ---- the runs

abbrev pub raw : ReplyRow
raw = of_one (codes "-f rc --once -r s:hello") hello_message (found_messages 1 (codes "0 58 m.mbox\n"))

abbrev pub several : ReplyRow
several = of_one (codes "-f rc --once -r s:one/two") two_messages
    (found_messages 2 (codes "0 75 m.mbox\n75 49 m.mbox\n"))

-- the word is GRÜSSE, in UTF-8
abbrev pub folded_word : ReplyRow
folded_word = of_one (codes "-f rc --once -r s:GR" ++ 195 ∷ 156 ∷ codes "SSE") greetings
    (found_messages 1 (codes "0 78 m.mbox\n"))

abbrev pub inner_and_outer : ReplyRow
inner_and_outer = of_one (codes "-f rc --once -r b:inner,outer") nested_parts
    (found_messages 1 (codes "0 157 m.mbox\n"))

-- its text has 19 bytes
abbrev pub no_message : ReplyRow
no_message = of_one (codes "-f rc --once -r z:20-") hello_message no_match

-- without the last LF, which is written all the same
abbrev pub mbox : ReplyRow
mbox = of_one (codes "-f rc --once --stdout s:hello") (separator ++ codes "Subject: Hello\n\nhi\n")
    (found_messages 1 hello_message)

abbrev pub excerpt_reply : ReplyRow
excerpt_reply = of_one (codes "-f rc --once -x t:alice") to_alice
    (found_messages 1 (codes "m.mbox\nTo: alice@x.org\nCc: bob@x.org\nFrom:\nSubject:\nDate:\n"))

abbrev pub unwanted_word : ReplyRow
unwanted_word = of_one (codes "-f rc --once -r t:~bob") to_alice (found_messages 1 (codes "0 72 m.mbox\n"))

abbrev pub one_of_thread : ReplyRow
one_of_thread = of_two (codes "-f rc --once -r b:hi") (found_messages 1 (codes "0 79 a.mbox\n"))

abbrev pub threads : ReplyRow
threads = of_two (codes "-f rc --once -r -t b:hi") (found_messages 2 (codes "0 79 a.mbox\n0 79 b.mbox\n"))

abbrev pub boolean : ReplyRow
boolean = of_one (codes "-f rc --once --boolean -r subject:hello and not body:ho") hello_message
    (found_messages 1 (codes "0 58 m.mbox\n"))

abbrev pub bad_words : ReplyRow
bad_words = of_one (codes "-f rc --once -r -x s:a") hello_message (refused_with 2 (Usage TwoFormats))

abbrev pub empty_rcfile : ReplyRow
empty_rcfile = record {
  words = codes "-f rc --once s:a";
  rcfile = [];
  archives = [];
  answer =
      refused_with 2 (Rc (Missing MboxLine));
}

abbrev pub unknown_prefix : ReplyRow
unknown_prefix = of_one (codes "-f rc --once q:x") hello_message
    (refused_with 2 (Query (record { number = 1; kind = BadPrefix })))

abbrev pub no_mbox : ReplyRow
no_mbox = of_one (codes "-f rc --once -r s:hello") (codes "hello\n") (refused_with 4 (Archive 0 NotAnMbox))
