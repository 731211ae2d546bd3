-- What a call does to the archives that it reads and to the output that it writes to.
use Rattle.std.specs.Prelude.{◌≡◌, ℕ, List, length, false, None, IfSome, Result}
use Rattle.contract_words.specs.Devices.{Counted}
use Rattle.contract_words.specs.Knowledge.{WasKnown}
use Rattle.mbox_cutter.specs.declared.device.Out.{Ghosts as OutGhosts}
use Rattle.mail_index.specs.Tables.{Archive}
use Rattle.mail_answer.specs.Faults.{has_fault, is_of_archives, is_of_output, is_stale}
use Rattle.mail_answer.specs.Stale.{stale_archive}
use Rattle.mail_answer.specs.declared.archives.Archives.{Ghosts}
use Rattle.mail_answer.specs.declared.fault.AnswerFaultKind.{AnswerFaultKind}

-- the archives were found to be as many, and each as long, as those that were indexed
pub record AreAsIndexed {A : Type 0} (g : Ghosts A) (indexed : List Archive) (a : A) : Type 0 where
  pub number : g.number a ≡ length indexed
  pub fresh : IfSome (g.held a) (λ bytes. stale_archive indexed bytes ≡ None)

-- After reads alone, nothing else is known of the archives than before.
pub record KeepsArchives {A : Type 0} (g : Ghosts A) (old new : A) : Type 0 where
  pub held : WasKnown (g.held old) (g.held new)
  pub was : (first : A) → g.was old first → g.was new first
  pub number : g.number new ≡ g.number old
  -- no length was read
  pub asked : g.lengths_asked new ≡ g.lengths_asked old

-- archives were read that have the lengths that were indexed
pub record ReadsArchives {A T : Type 0} (g : Ghosts A) (old new : A) (result : Result T AnswerFaultKind) : Type 0 where
  pub keeps : KeepsArchives g old new
  -- their count of failures rises by one if their failure is the fault, and stays otherwise
  pub count : Counted (has_fault is_of_archives result) (g.failures old) (g.failures new)
  -- none is stale, if their bytes are still known
  pub fresh : IfSome (g.held new) (λ _. has_fault is_stale result ≡ false)

-- an output was written to, and this many bytes have been sent since the answer began
pub record WritesOut {O T : Type 0} (g : OutGhosts O) (sent : ℕ) (old new : O) (result : Result T AnswerFaultKind) :
    Type 0 where
  -- if no byte was sent and sending hasn't failed, the output is as it was
  pub kept : sent ≡ 0 → has_fault is_of_output result ≡ false → new ≡ old
  -- its count of failures rises by one if its failure is the fault, and stays otherwise
  pub count : Counted (has_fault is_of_output result) (g.failures old) (g.failures new)
