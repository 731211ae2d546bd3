-- All lines so far fit, so the first that doesn't fit is one of those that are left.
use Rattle.mairix_options.proofs.Words.{◌≡◌, drop, filter_map, archives_misfit}
use Rattle.std.specs.List.{slice_get}
use Rattle.mairix_options.proofs.rcfile.first_archives_misfit.Given as goal

-- the lines so far fit
abbrev pub invariant-loop-line : goal.invariant-loop-line
invariant-loop-line l =
    slice_get (filter_map (archives_misfit l.base) (drop l.line-index l.archives)) 0
    ≡ slice_get (filter_map (archives_misfit l.base) l.archives) 0
