-- The archives before this one have the paths that were indexed.
use Rattle.mairix_tool.proofs.Words.{◌≡◌, map, drop, string_bytes, first_renamed, renamed_archive}
use Rattle.mairix_tool.proofs.stored.renamed.Given as goal

abbrev pub invariant-loop-number : goal.invariant-loop-number
invariant-loop-number l = record {
  coming : l.named ≡ drop l.number l.fn.index.archives;
  so_far : renamed_archive l.fn.index.archives (map string_bytes l.paths)
      ≡ first_renamed l.number (drop l.number l.fn.index.archives) (drop l.number (map string_bytes l.paths));
}
