-- After `sync_name` a crash can't undo changes of this name, because the newest change brought it to the disk.
use Rattle.std.proofs.Common.{◌≡◌, ◌∙◌, ◌∷◌, ap, refl}
use Rattle.std.specs.String.{string_bytes}
use Rattle.named_files.specs.Logs.{Synced, held_after_changes}
use Rattle.named_files.proofs.Logs.{no_more_synced, only_synced, time_goes_on}
use Rattle.mairix_files.specs.NameCalls.{Kept, changes_by, supposed_first}
use Rattle.mairix_files.proofs.kit_folder.KitFolderFolder.sync_name.Goals as goal

pub returns-in-Ok-clause-kept : goal.returns-in-Ok-clause-kept
returns-in-Ok-clause-kept g c =
    let old = changes_by c.args.self.now.calls.done in
    only_synced (supposed_first c.args.self.now.supposed) old (changes_by c.note_kept.new.calls.done)
    (string_bytes c.args.name.now.text)
    (ap changes_by c.note_kept.ensures ∙ ap (λ name. Synced name ∷ old)
    (c.as_bytes.ensures.value ∙ c.as_str-name.ensures))

pub returns-in-Ok-clause-others : goal.returns-in-Ok-clause-others
returns-in-Ok-clause-others g c =
    let first = supposed_first c.args.self.now.supposed in
    let old = changes_by c.args.self.now.calls.done in
    let new = changes_by c.note_kept.new.calls.done in
    let is : new ≡ Synced c.as_bytes.result.now ∷ old =
    ap changes_by {y = Kept c.as_bytes.result.now ∷ c.args.self.now.calls.done} c.note_kept.ensures in
    record {
      others = λ n passes. ap (λ l. (held_after_changes first l n).entry) is;
      crash = λ n e passes. no_more_synced first old new _ is n e;
      still_apart = λ a b. refl;
      time = time_goes_on first old new _ is;
    }
