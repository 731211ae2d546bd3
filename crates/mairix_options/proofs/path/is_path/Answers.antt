-- `is_path` is as defined, because a text is a path here exactly if it is one for an index.
use Rattle.mairix_options.proofs.Words.{arith, same_from_decides}
use Rattle.mairix_options.proofs.Paths.{path-from, path-passes}
use Rattle.mairix_options.proofs.path.is_path.Goals as goal

pub returns : goal.returns
returns c = grind (arith, same_from_decides, path-from, path-passes)
