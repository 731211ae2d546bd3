-- The archives so far were written, and the others are to come.
use Rattle.mail_index.proofs.Words.{◌≡◌, map, drop, flat_map, archive_bytes}
use Rattle.mail_index.specs.Inside.Drafts.{kept_archive}
use Rattle.mail_index.specs.Inside.Signing.{IsSigning}
use Rattle.mail_index.proofs.build.sections.send_archives.Given as goal

abbrev pub invariant-loop-archive : goal.invariant-loop-archive
invariant-loop-archive g l =
    IsSigning (g.O.Out.taken l.fn.out) (g.O.Out.taken l.out) l.fn.signer l.signer
    (flat_map archive_bytes (map kept_archive l.archives))
    (flat_map archive_bytes (map kept_archive (drop l.archive-index l.archives)))
    × (g.O.Out.failures l.out ≡ g.O.Out.failures l.fn.out)
