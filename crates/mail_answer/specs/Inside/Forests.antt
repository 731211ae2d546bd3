-- Trees of messages: for each message its parent, which is itself or an earlier one. A root is its own parent.
use Rattle.std.specs.Prelude.{◌≡◌, ℕ, ◌<◌, ◌≤◌, IsTrue, ◌↔◌, ◌&&◌, List, length, slice_index}
use Rattle.std.specs.List.{list_any}
use Rattle.mail_index.specs.Tables.{Table}
use Rattle.mail_answer.specs.TableFacts.{is_number_among}
use Rattle.mail_answer.specs.Threads.{IsInThread}

-- no parent comes after its child
abbrev pub LeadsBack : List ℕ → Type 0
LeadsBack parents = (n : ℕ) → n < length parents → slice_index parents n ≤ n

-- each parent is in its child's thread
abbrev pub StaysInThreads : Table → List ℕ → Type 0
StaysInThreads t parents = (n : ℕ) → n < length parents → IsInThread t n (slice_index parents n)

-- the label is the same for each message of a tree
abbrev pub LabelsTrees : (ℕ → ℕ) → List ℕ → Type 0
LabelsTrees label parents = (n : ℕ) → n < length parents → label (slice_index parents n) ≡ label n

-- two messages are in one tree: each label of trees is the same for both
abbrev pub AreInOneTree : List ℕ → ℕ → ℕ → Type 0
AreInOneTree parents m n = (label : ℕ → ℕ) → LabelsTrees label parents → label m ≡ label n

-- the trees have the same messages and the same roots, or shorter ways to these
pub record Shortens (old new : List ℕ) : Type 0 where
  pub long : length new ≡ length old
  pub back : LeadsBack old → LeadsBack new
  pub roots : (n : ℕ) → n < length old → slice_index old n ≡ n → slice_index new n ≡ n
  pub labels : (label : ℕ → ℕ) → LabelsTrees label new → LabelsTrees label old
  pub threads : (t : Table) → StaysInThreads t old → StaysInThreads t new

-- for each of these pairs the trees are joined now, and no tree has come apart
pub record Unites (pairs : ℕ → ℕ → Type 0) (old new : List ℕ) : Type 0 where
  pub long : length new ≡ length old
  pub back : LeadsBack old → LeadsBack new
  pub labels : (label : ℕ → ℕ) → LabelsTrees label new → LabelsTrees label old
  pub united : (m n : ℕ) → pairs m n → AreInOneTree new m n
  pub threads : (t : Table) → ((m n : ℕ) → pairs m n → IsInThread t m n) → StaysInThreads t old → StaysInThreads t new

-- two of these numbers
abbrev pub AreBothAmong : List ℕ → ℕ → ℕ → Type 0
AreBothAmong numbers m n = IsTrue (is_number_among m numbers) × IsTrue (is_number_among n numbers)

-- two numbers of one of these keys
abbrev pub ShareKey : List (List ℕ × List ℕ) → ℕ → ℕ → Type 0
ShareKey keys m n = IsTrue (list_any (λ k. is_number_among m k.1 && is_number_among n k.1) keys)

-- for each message the root of its thread: two messages have the same one exactly if they are in one thread
pub record AreThreadRoots (t : Table) (roots : List ℕ) : Type 0 where
  pub long : length roots ≡ length t.messages
  pub back : LeadsBack roots
  pub same : (m n : ℕ) → m < length t.messages → n < length t.messages
      → (slice_index roots m ≡ slice_index roots n) ↔ IsInThread t m n
