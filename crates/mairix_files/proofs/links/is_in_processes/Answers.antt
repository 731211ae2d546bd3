-- The device of this process was found, and is looked for.
use Rattle.std.proofs.Common.{◌∙◌, ap, inr, sym, subst}
use Rattle.std.specs.Path.{path_bytes}
use Rattle.mairix_files.specs.LinkChains.{LooksForProcesses, LooksUpward, begins_in_processes}
use Rattle.mairix_files.proofs.links.is_in_processes.Goals as goal

pub returns-in-Ok : goal.returns-in-Ok
unfolding LooksForProcesses
returns-in-Ok g c = inr (inr (
  c.in-Ok.process,
  ap begins_in_processes (sym c.as_str.ensures) ∙ sym c.if-begins_in_processes.ensures,
  subst (λ l. LooksUpward c.in-Ok.process.device (path_bytes c.args.path) c.is_on_device.result l
      (g.S.System.calls c.is_on_device.new.log)) c.in-Ok.ensures c.is_on_device.ensures,
))
