-- `remove_leftover` adds one change, so other names and earlier moments stay as they were.
use Rattle.std.proofs.Common.{refl}
use Rattle.named_files.specs.MemoryFolders.{changes_of, nothing_first}
use Rattle.named_files.proofs.Logs.{no_more_others, same_others, time_goes_on}
use Rattle.named_files.proofs.memory_folder.MemoryFolderFolder.remove_leftover.Goals as goal

pub returns-in-Ok-clause-others : goal.returns-in-Ok-clause-others
returns-in-Ok-clause-others c =
    let old = changes_of c.args.self.now.steps.items in
    let new = changes_of c.add.new.self.steps.items in
    record {
      others = same_others nothing_first old new _ _ c.in-Ok.ensures.ok;
      crash = no_more_others nothing_first old new _ _ c.in-Ok.ensures.ok;
      still_apart = λ a b. refl;
      time = time_goes_on nothing_first old new _ c.in-Ok.ensures.ok;
    }
