-- The sum so far, with the bytes of the archives that still come, is that of all archives.
use Rattle.mail_index.proofs.Words.{◌≡◌, ◌+◌, map, flat_map, length, drop, archive_bytes}
use Rattle.mail_index.specs.Inside.Drafts.{kept_archive}
use Rattle.mail_index.proofs.build.sections.archives_length.Given as goal

abbrev pub invariant-loop-archive : goal.invariant-loop-archive
invariant-loop-archive l = l.total + length
    (flat_map archive_bytes (map kept_archive (drop l.archive-index l.archives)))
    ≡ length (flat_map archive_bytes (map kept_archive l.archives))
