-- `sync_name` adds one change, after which a crash leaves no more than before it.
use Rattle.std.proofs.Common.{ap, refl}
use Rattle.named_files.specs.Logs.{held_after_changes}
use Rattle.named_files.specs.MemoryFolders.{changes_of, nothing_first}
use Rattle.named_files.proofs.Logs.{no_more_synced, time_goes_on}
use Rattle.named_files.proofs.memory_folder.MemoryFolderFolder.sync_name.Goals as goal

pub returns-in-Ok-add-clause-others : goal.returns-in-Ok-add-clause-others
returns-in-Ok-add-clause-others c =
    let old = changes_of c.args.self.now.steps.items in
    let new = changes_of c.add.new.self.steps.items in
    record {
      others = λ n passes. ap (λ l. (held_after_changes nothing_first l n).entry) c.in-Ok-add.ensures.ok;
      crash = λ n e passes. no_more_synced nothing_first old new _ c.in-Ok-add.ensures.ok n e;
      still_apart = λ a b. refl;
      time = time_goes_on nothing_first old new _ c.in-Ok-add.ensures.ok;
    }
