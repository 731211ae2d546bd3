-- The parts so far were written, and the others are to come.
use Rattle.mail_index.proofs.Words.{◌≡◌, map, drop, concat}
use Rattle.mail_index.specs.Inside.Signing.{IsSigning}
use Rattle.mail_index.proofs.build.file_out.send_parts.Given as goal

abbrev pub invariant-loop-part : goal.invariant-loop-part
invariant-loop-part g l =
    IsSigning (g.O.Out.taken l.fn.out) (g.O.Out.taken l.out) l.fn.signer l.signer (concat (map (λ p. p.now) l.parts))
    (concat (map (λ p. p.now) (drop l.part-index l.parts)))
    × (g.O.Out.failures l.out ≡ g.O.Out.failures l.fn.out)
