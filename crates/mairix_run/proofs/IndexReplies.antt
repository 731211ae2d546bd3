-- A search replies by the first fault of an index or by its table, so what is read of an index has the replies of the
-- whole file.
use Rattle.std.proofs.Common.{arith, ℕ, List, ◌↔◌, inl, inr, Result, Ok, Err}
use Rattle.run_faults.specs.declared.fault.Fault.{Fault}
use Rattle.run_faults.specs.declared.fault.Fault.TheVariants as of
use Rattle.mairix_run.specs.IndexReads.{IsIndexRead}
use Rattle.mairix_run.proofs.IndexReads.{same_fault, same_table}
use Rattle.mairix_tool.specs.Asked.{Wanted}
use Rattle.mairix_tool.specs.Replies.{Answer}
use Rattle.mairix_tool.specs.Runs.{IsIndexRefusal, IsRefusedAs, IsStoredReply}

module _ (all bytes : List ℕ) (read : IsIndexRead all bytes) where
  pub same_replies : (asked : Result Wanted Fault) (held : List (List ℕ)) (answer : Answer)
      → IsStoredReply asked bytes held answer ↔ IsStoredReply asked all held answer
  same_replies (Err fault) held answer = (λ h. h, λ h. h)
  same_replies (Ok w) held answer = (to, from)
    where
      to : IsStoredReply (Ok w) bytes held answer → IsStoredReply (Ok w) all held answer
      to (inl (f, h, is)) = inl (f, (same_fault all bytes f read).0 h, is)
      to (inr (t, file, told)) = inr (t, (same_table all bytes t read).0 file, told)

      from : IsStoredReply (Ok w) all held answer → IsStoredReply (Ok w) bytes held answer
      from (inl (f, h, is)) = inl (f, (same_fault all bytes f read).1 h, is)
      from (inr (t, file, told)) = inr (t, (same_table all bytes t read).1 file, told)

  same_index_refusals : (w : Wanted) (fault : Fault) → IsIndexRefusal w bytes fault ↔ IsIndexRefusal w all fault
  same_index_refusals w (of.Index f) = same_fault all bytes f read
  same_index_refusals w of.OldIndex = (
    λ h. (h.0, (same_table all bytes h.0 read).0 h.1, h.2),
    λ h. (h.0, (same_table all bytes h.0 read).1 h.1, h.2),
  )
  same_index_refusals w (of.Stale n) = (
    λ h. (h.0, (same_table all bytes h.0 read).0 h.1, h.2, h.3),
    λ h. (h.0, (same_table all bytes h.0 read).1 h.1, h.2, h.3),
  )
  same_index_refusals w (of.Usage x) = (λ h. h, λ h. h)
  same_index_refusals w (of.Rc x) = (λ h. h, λ h. h)
  same_index_refusals w (of.Query x) = (λ h. h, λ h. h)
  same_index_refusals w (of.Archive n x) = (λ h. h, λ h. h)
  same_index_refusals w of.Device = (λ h. h, λ h. h)
  same_index_refusals w of.Out = (λ h. h, λ h. h)
  same_index_refusals w of.Memory = (λ h. h, λ h. h)
  same_index_refusals w of.TooMany = (λ h. h, λ h. h)

  pub same_refusals : (asked : Result Wanted Fault) (fault : Fault)
      → IsRefusedAs asked bytes fault ↔ IsRefusedAs asked all fault
  same_refusals asked fault = grind (arith, same_index_refusals)
