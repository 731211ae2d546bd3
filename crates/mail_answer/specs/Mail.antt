-- Messages by their numbers: which of them satisfy a query, and which are in the threads of others.
use Rattle.std.specs.Prelude.{◌≡◌, ℕ, ◌<◌, Bool, true, false, ◌↔◌, IsTrue, List, [], ◌∷◌, filter}
use Rattle.std.specs.List.{range_with_len}
use Rattle.mail_index.specs.Tables.{RisesFrom}
use Rattle.mail_query.specs.Query.{Query}
use Rattle.mail_query.specs.Truth.{Facts, is_true}
use Rattle.mail_answer.specs.declared.format.Format.{Format}
use Rattle.mail_answer.specs.TableFacts.{is_number_among}

-- the number of messages, what each says of itself, and which two of them share a link id
pub record Mail : Type 0 where
  pub count : ℕ
  pub facts : ℕ → Facts
  pub linked : ℕ → ℕ → Bool

-- a search: the query, whether the threads of its messages are wanted, and the form of the answer
pub record Search : Type 0 where
  pub query : Query
  pub threads : Bool
  pub format : Format

-- the rising numbers of those that satisfy the query
abbrev pub satisfying : Mail → Query → List ℕ
satisfying mail q = filter (λ n. is_true q (mail.facts n)) (range_with_len 0 mail.count)

-- ---- threads, by what links two messages

-- the list leads from the first message to the last: each message is linked to the next
abbrev pub IsChain : (ℕ → ℕ → Bool) → ℕ → List ℕ → ℕ → Type 0
IsChain linked m [] n = m ≡ n
IsChain linked m (l ∷ path) n = IsTrue (linked m l) × IsChain linked l path n

-- the second message is in the thread of the first: it is the same, or at the end of a path of links from it
abbrev pub IsLedTo : (ℕ → ℕ → Bool) → ℕ → ℕ → Type 0
IsLedTo linked m n = (path : List ℕ) × IsChain linked m path n

-- the message is in the thread of one of these
abbrev pub IsLedToBySome : (ℕ → ℕ → Bool) → List ℕ → ℕ → Type 0
IsLedToBySome linked numbers n = (m : ℕ) × IsTrue (is_number_among m numbers) × IsLedTo linked m n

-- the numbers below `count` of all messages in the threads of these ones, rising, each once
pub record AreThreadsOf (count : ℕ) (linked : ℕ → ℕ → Bool) (numbers members : List ℕ) : Type 0 where
  pub rises : RisesFrom 0 members
  pub each : (n : ℕ) → IsTrue (is_number_among n members) ↔ ((n < count) × IsLedToBySome linked numbers n)

-- ---- the messages of an answer

-- the numbers of the messages that satisfy the query; with threads, of all messages of their threads
abbrev pub AreChosenBy : Bool → Mail → Query → List ℕ → Type 0
AreChosenBy false mail q numbers = numbers ≡ satisfying mail q
AreChosenBy true mail q numbers = AreThreadsOf mail.count mail.linked (satisfying mail q) numbers

-- the numbers of the messages that a search chooses, rising, each once
abbrev pub AreChosen : Mail → Search → List ℕ → Type 0
AreChosen mail s numbers = AreChosenBy s.threads mail s.query numbers
