-- The records so far were written, and the others are to come.
use Rattle.mail_index.proofs.Words.{◌≡◌, drop, flat_map, record_bytes}
use Rattle.mail_index.specs.Inside.Signing.{IsSigning}
use Rattle.mail_index.proofs.build.sections.send_records.Given as goal

abbrev pub invariant-loop-message : goal.invariant-loop-message
invariant-loop-message g l =
    IsSigning (g.O.Out.taken l.fn.out) (g.O.Out.taken l.out) l.fn.signer l.signer (flat_map record_bytes l.messages)
    (flat_map record_bytes (drop l.message-index l.messages))
    × (g.O.Out.failures l.out ≡ g.O.Out.failures l.fn.out)
