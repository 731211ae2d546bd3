-- What answering from an index does to the archives and to the output.
use Rattle.std.specs.Prelude.{IfErr, Result}
use Rattle.mbox_cutter.specs.declared.device.Out.{Ghosts as OutGhosts}
use Rattle.mail_answer.specs.Mail.{Search}
use Rattle.mail_answer.specs.declared.archives.Archives.{Ghosts}
use Rattle.mairix_tool.specs.Replies.{CountsFault, KeepsRawBack}
use Rattle.run_faults.specs.Faults.{fault_in, IsOfAnswer}
use Rattle.run_faults.specs.declared.fault.Fault.{Fault}

-- an index was searched, over archives and into an output
pub record AsksIndex {A O T : Type 0} (g : Ghosts A) (h : OutGhosts O) (search : Search) (old new : A)
    (before after : O) (result : Result T Fault) : Type 0 where
  -- only a fault of an answer is returned
  pub own : IfErr result IsOfAnswer
  pub raw : KeepsRawBack search (fault_in result) before after
  pub counts : CountsFault g h (fault_in result) old new before after
