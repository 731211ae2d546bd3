-- Each turn has followed one more link, and none has led into the folder of processes.
use Rattle.std.proofs.Common.{◌≡◌, List, ℕ, length}
use Rattle.std.specs.Path.{path_buf_bytes}
use Rattle.mairix_files.specs.LinkChains.{PassesLinks, path_by_links}
use Rattle.mairix_files.proofs.links.leads_to_processes.Given as goal

abbrev pub invariant-loop : goal.invariant-loop
invariant-loop g l =
    (texts : List (List ℕ)) × (length texts ≡ l.counter) × (path_buf_bytes l.path ≡ path_by_links l.name texts)
    × PassesLinks l.name texts (g.S.System.calls l.initial.log) (g.S.System.calls l.log)
