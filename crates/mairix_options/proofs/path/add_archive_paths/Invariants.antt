-- Each turn appends the path of one name. The paths that were there before stay at the front.
use Rattle.mairix_options.proofs.Words.{◌≡◌, ◌++◌, map, take, string_bytes, archive_path}
use Rattle.mairix_options.proofs.path.add_archive_paths.Given as goal

-- after the paths that were there, the paths of the names so far
abbrev pub invariant-loop-name : goal.invariant-loop-name
invariant-loop-name l = l.paths ≡ l.fn.paths ++ map (λ name. archive_path l.base (string_bytes name))
    (take l.name-index l.written)
