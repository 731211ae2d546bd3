-- `renamed` finds the first archive with another path, path by path.
use Rattle.mairix_tool.proofs.Words.{◌≡◌, Bool, true, false, not, arith, string_bytes, get_or-map, length-map}
use Rattle.mairix_tool.proofs.ArchiveLaws.Renamed.{at-archive, after, still-named}
use Rattle.mairix_tool.proofs.stored.renamed.Goals as goal

is-false : (b : Bool) → true ≡ not b → b ≡ false
is-false b h = grind arith

is-true : (b : Bool) → false ≡ not b → b ≡ true
is-true b h = grind arith

pub unreachable-requires : goal.unreachable-requires
unreachable-requires c = grind (arith, still-named)

pub returns-then-ne : goal.returns-then-ne
returns-then-ne c = grind (arith, string_bytes, get_or-map, length-map, is-false, at-archive)

pub loop-number-preserved : goal.loop-number-preserved
loop-number-preserved c = grind (arith, string_bytes, get_or-map, length-map, is-true, after, at-archive)
