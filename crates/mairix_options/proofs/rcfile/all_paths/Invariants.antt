-- Each turn appends the paths of one line, so the list has those of all lines so far.
use Rattle.mairix_options.proofs.Words.{◌≡◌, take, all_paths}
use Rattle.mairix_options.proofs.rcfile.all_paths.Given as goal

-- the paths of the lines so far
abbrev pub invariant-loop-line : goal.invariant-loop-line
invariant-loop-line l = l.paths ≡ all_paths l.base (take l.line-index l.archives)
