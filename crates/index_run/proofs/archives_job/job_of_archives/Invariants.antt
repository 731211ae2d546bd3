-- The sources before this number were read to their ends, the others weren't read, and the job has the archives so far.
use Rattle.index_run.proofs.Words.{All, AreStillKnown, ◌≡◌, ℕ, List, map, take, drop, false, string_bytes, AreSound, mboxes, IsIndexOf}
use Rattle.mbox_cutter.specs.Sources.{Stays}
use Rattle.std.specs.Io.KnownBytes.{IsAtEnd}
use Rattle.std.specs.List.{AllZip}
use Rattle.index_run.proofs.archives_job.job_of_archives.Given as goal

-- the sources before this number have been read to their ends, and those from it on haven't been read yet; each is what
-- it was, and none has failed; the job has the archives so far, which are sound
abbrev pub invariant-loop-number : goal.invariant-loop-number
invariant-loop-number g l = record {
  unread : drop l.number l.sources ≡ drop l.number l.fn.sources;
  counts : map g.S.Source.failures l.sources ≡ map g.S.Source.failures l.fn.sources;
  stays : AllZip (Stays g.S.Source) l.fn.sources l.sources;
  ends : All (λ s. IsAtEnd (g.S.Source.rest s)) (take l.number l.sources);
  digests : l.job.digests ≡ l.fn.digests;
  kept : l.job.draft.failed ≡ false;
  found : (archives : List (List ℕ)) → AreStillKnown (map g.S.Source.rest l.fn.sources) (map g.S.Source.rest l.sources)
      archives
      → IsIndexOf l.job (take l.number (mboxes (map string_bytes l.paths) archives))
      × AreSound (take l.number (mboxes (map string_bytes l.paths) archives));
}
