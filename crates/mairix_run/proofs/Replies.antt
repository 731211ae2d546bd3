-- A run's reply as a result. An answer with a fault is the refusal with that fault, so nothing was sent.
use Rattle.std.proofs.Common.{◌≡◌, ◌∙◌, ◌||◌, ℕ, Bool, List, [], Option, None, Some, Result, Ok, Err, ◌≤◌, if◌then◌else◌, arith, is_err, sym, inl, inr, append-nil, slice_index}
use Rattle.std.specs.Bool.{OnTrue}
use Rattle.std.specs.Io.KnownBytes.{Appends}
use Rattle.std.specs.Result.{MatchResult}
use Rattle.contract_words.specs.Devices.{Counted, Sends}
use Rattle.mail_index.specs.Tables.{Table}
use Rattle.run_faults.specs.Faults.{IsOnceFault, fault_in, is_early, is_failed_source, is_of_indexing}
use Rattle.run_faults.specs.declared.fault.Fault.{Fault}
use Rattle.run_faults.specs.declared.fault.Fault.TheVariants as of
use Rattle.mairix_tool.specs.Asked.{Wanted}
use Rattle.mairix_tool.specs.Replies.{Answer, IsConsistent, RefusesAsked, answer_of_fault}
use Rattle.mairix_tool.specs.Runs.{IsOldOr, IsVerifiedAnswer, IsReply, IsStaleOr, IsStoredReply, IsThisOrMemory, IsStoredAnswer, RepliesBy, is_too_old, renamed_archive}
use Rattle.mairix_tool.specs.declared.reply.Reply.{Reply}
use Rattle.mairix_run.specs.Answered.{AnswersBy, comes_before, result_by, result_of_reply}

-- ---- an answer with a fault is its refusal

abbrev pub IsPlain : Answer → Type 0
IsPlain answer = (fault : Fault) → answer.reply.fault ≡ Some fault → answer ≡ answer_of_fault fault

pub plain-reply : (asked : Result Wanted Fault) (bytes : List (List ℕ)) (a : Answer) → IsReply asked bytes a → IsPlain a
plain-reply asked bytes a is = grind arith

pub plain-stale : (o : Option ℕ) (IsFound : Answer → Type 0) → ((a : Answer) → IsFound a → IsPlain a) → (a : Answer)
    → IsStaleOr o IsFound a → IsPlain a
plain-stale o IsFound plain a is = grind arith

plain-proved : (w : Wanted) (t : Table) (held : List (List ℕ)) (a : Answer) → IsVerifiedAnswer w t held a → IsPlain a
plain-proved w t held = grind arith

plain-old : (old : Bool) (IsFound : Answer → Type 0) → ((a : Answer) → IsFound a → IsPlain a) → (a : Answer)
    → IsOldOr old IsFound a → IsPlain a
plain-old old IsFound plain a is = grind arith

plain-of : (w : Wanted) (t : Table) (held : List (List ℕ)) (a : Answer) → IsStoredAnswer w t held a → IsPlain a
plain-of w t held =
    plain-old (is_too_old t w) (IsStaleOr (renamed_archive t.archives w.paths) (IsVerifiedAnswer w t held))
    (plain-stale (renamed_archive t.archives w.paths) (IsVerifiedAnswer w t held) (plain-proved w t held))

pub plain-stored : (asked : Result Wanted Fault) (index : List ℕ) (held : List (List ℕ)) (a : Answer)
    → IsStoredReply asked index held a → IsPlain a
plain-stored (Err fault) index held a is = grind arith
plain-stored (Ok w) index held a (inl is) = grind arith
plain-stored (Ok w) index held a (inr (t, file, told)) = plain-of w t held a told

-- ---- the result that is right

-- nothing was sent
pub appends-none : (old : Option (List ℕ)) → Appends old old []
appends-none None = tt
appends-none (Some xs) = sym (append-nil xs)

-- if nothing was sent, a front of any text was
pub sends-none : (old new : Option (List ℕ)) (text : List ℕ) → new ≡ old → Sends old new text
sends-none old new text same = grind (arith, appends-none)

module _ (IsRight : Answer → Type 0) (plain : (a : Answer) → IsRight a → IsPlain a) (old new : Option (List ℕ)) where
  -- the result of a reply that is right
  pub answers-by : (reply : Reply) (result : Result ℕ Fault) → result ≡ result_of_reply reply
      → RepliesBy IsRight reply old new → AnswersBy IsRight result old new
  answers-by reply result is h = grind arith

  -- if no source failed, the reply is right; if one did, nothing was sent
  pub indexed-answers-by : (reply : Reply) (counts : List ℕ) (result : Result ℕ Fault) (IsSilent : Type 0)
      → result ≡ result_of_reply reply
      → ((n : ℕ) → Counted (is_failed_source n reply.fault) 0 (slice_index counts n))
      → OnTrue (is_of_indexing reply.fault) IsSilent → (IsSilent → new ≡ old)
      → (((n : ℕ) → slice_index counts n ≡ 0) → RepliesBy IsRight reply old new)
      → AnswersBy IsRight result old new
  indexed-answers-by reply counts result IsSilent made counted silent same is = grind (arith, sends-none)

-- ---- what is refused first

pub fault-of : (status : ℕ) (fault : Option Fault) → fault_in (result_by status fault) ≡ fault
fault-of status fault = grind arith

-- a refusal of words, rcfile or query is the fault, unless memory runs out
pub refuses-as : (asked : Result Wanted Fault) (fault : Fault) (found : Option Fault) → asked ≡ Err fault
    → RefusesAsked asked found → IsThisOrMemory fault found
refuses-as asked fault found is h = grind arith

-- then no device is used, the output neither
pub uses-none : (P Q R : Type 0) (early : Bool) (asked : Result Wanted Fault) (fault : Fault) → asked ≡ Err fault
    → OnTrue (early || is_err asked) (P × Q × R) → R
uses-none P Q R early asked fault is h = grind arith

-- ---- without a stored index, by the fault of the reply

pub once-ended : (reply : Reply) (fault : Option Fault) → IsConsistent IsOnceFault reply fault
    → MatchResult (result_by reply.status fault) (λ status. status ≤ 1) IsOnceFault
once-ended reply fault is = grind arith

-- what is refused before the search sends nothing
pub once-silent : (P Q R : Type 0) (reply : Reply) (refused : Bool) (fault : Option Fault)
    → IsConsistent IsOnceFault reply fault → OnTrue (is_early fault || refused) (P × Q × R)
    → OnTrue (is_of_indexing fault) (Q × R) → OnTrue (comes_before fault) R
once-silent P Q R reply refused fault is early silent = grind arith
