-- `Signer::send_past` sends the gathered bytes first, so the new bytes come after them.
use Rattle.std.proofs.Common.{◌≡◌, ℕ, List, [], ◌++◌, ap, sym, append-nil, arith}
use Rattle.contract_words.proofs.Sending.{sends_more}
use Rattle.mail_index.proofs.BuildLaws.SigningLemmas.{writes-failed, sends-longer, signs-flushed, signs-at-once, signs-join}
use Rattle.mail_index.proofs.build.file_out.Signer.send_past.Goals as goal

pub returns-in_err-flush-clause-written : goal.returns-in_err-flush-clause-written
returns-in_err-flush-clause-written g c = grind (arith, writes-failed, sends-longer)

pub returns-in_err-send-clause-written : goal.returns-in_err-send-clause-written
returns-in_err-send-clause-written g c =
    let all : List ℕ = c.args.self.now.pending ++ c.args.bytes.now in
    let parts = ap (λ (l : List ℕ). c.args.self.now.pending ++ l) (sym (append-nil _)) in
    writes-failed _ _ _ _ _ _ c.from_residual-in_err-send.ensures.0
    (sends_more _ _ _ _ _ _ _ parts c.in_ok-flush.ensures.ok c.in_err-send.ensures.err)

pub returns-clause-written : goal.returns-clause-written
returns-clause-written g c = signs-join _ _
    (signs-flushed c.in_ok-flush.ensures.ok c.in_ok-flush.ensures.seal c.in_ok-flush.ensures.all)
    (signs-at-once c.in_ok-flush.ensures.all c.in_ok-send.ensures.ok c.update.ensures c.in_ok-flush.ensures.all)

pub returns-then-bytes-le-ROOM-clause-written : goal.returns-then-bytes-le-ROOM-clause-written
returns-then-bytes-le-ROOM-clause-written g c = grind arith
