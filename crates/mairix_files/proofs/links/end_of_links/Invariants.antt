-- Each turn has followed one more link.
use Rattle.std.proofs.Common.{◌≡◌, List, ℕ, ◌++◌, length}
use Rattle.std.specs.Path.{path_buf_bytes}
use Rattle.mairix_files.specs.LinkChains.{path_by_links, reads_of_links}
use Rattle.mairix_files.proofs.links.end_of_links.Given as goal

abbrev pub invariant-loop : goal.invariant-loop
invariant-loop g l =
    (texts : List (List ℕ)) × (length texts ≡ l.counter) × (path_buf_bytes l.path ≡ path_by_links l.name texts)
    × (g.S.System.calls l.log ≡ reads_of_links l.name texts ++ g.S.System.calls l.initial.log)
