-- Threads: the messages that link ids lead to from a message.
use Rattle.std.specs.Prelude.{ℕ, Bool, ◌&&◌, List, length}
use Rattle.std.specs.List.{list_any}
use Rattle.mail_index.specs.declared.kind.Kind.TheVariants.{LinkId}
use Rattle.mail_index.specs.Tables.{Table}
use Rattle.mail_index.specs.LookUps.{keys_of}
use Rattle.mail_answer.specs.TableFacts.{is_number_among}
use Rattle.mail_answer.specs.Mail.{IsChain, IsLedTo, IsLedToBySome, AreThreadsOf}

-- whether two messages share a link id, even one that no message has as its own
abbrev pub are_linked : Table → ℕ → ℕ → Bool
are_linked t m n = list_any (λ k. is_number_among m k.numbers && is_number_among n k.numbers) (keys_of LinkId t.keys)

-- the list leads from the first message to the last: each message is linked to the next
abbrev pub IsPathOfLinks : Table → ℕ → List ℕ → ℕ → Type 0
IsPathOfLinks t = IsChain (are_linked t)

-- the second message is in the thread of the first: it is the same, or at the end of a path of links from it
abbrev pub IsInThread : Table → ℕ → ℕ → Type 0
IsInThread t = IsLedTo (are_linked t)

-- the message is in the thread of one of these
abbrev pub IsInThreadOfSome : Table → List ℕ → ℕ → Type 0
IsInThreadOfSome t = IsLedToBySome (are_linked t)

-- all messages that are in the thread of one of these, rising, each once
abbrev pub AreThreads : Table → List ℕ → List ℕ → Type 0
AreThreads t = AreThreadsOf (length t.messages) (are_linked t)
