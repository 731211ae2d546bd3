-- A state that equals another one is that one.
use Rattle.std.proofs.Common.{◌∙◌, Some, ap, sym}
use Rattle.mairix_files.proofs.FileStates.{same_state}
use Rattle.mairix_files.proofs.kit_file.KitFileKeptFile.check_state.Goals as goal

pub returns-then-eq-clause-found : goal.returns-then-eq-clause-found
returns-then-eq-clause-found g c =
    c.in_ok-found.ensures.found
    ∙ ap Some (same_state c.in_ok-found.found c.args.state (sym c.if-eq.ensures))
