-- `remove_leftover` makes one change, so a crash leaves other names as before, and time goes on by one moment.
use Rattle.std.proofs.Common.{◌≡◌, ◌∷◌, ℕ, List, ap, not, refl, subst, sym, true}
use Rattle.std.specs.Str.{bytes_eq}
use Rattle.std.specs.String.{string_bytes}
use Rattle.named_files.proofs.Logs.{no_more_others, same_others, time_goes_on}
use Rattle.mairix_files.specs.NameCalls.{Cleared, are_apart, changes_by, supposed_first}
use Rattle.mairix_files.proofs.NameSteps.{differ}
use Rattle.mairix_files.proofs.kit_folder.KitFolderFolder.remove_leftover.Goals as goal

pub returns-clause-others : goal.returns-clause-others
returns-clause-others g c =
    let first = supposed_first c.args.self.now.supposed in
    let links = c.args.self.now.supposed.links in
    let old = changes_by c.args.self.now.calls.done in
    let new = changes_by c.note_cleared.new.calls.done in
    let name = string_bytes c.args.left.name in
    let is =
    ap changes_by {y = Cleared c.as_bytes.result.now ∷ c.args.self.now.calls.done} c.note_cleared.ensures in
    let another = λ (n : List ℕ) (apart : are_apart links n name ≡ true).
    subst (λ name. not (bytes_eq n name) ≡ true) (sym c.as_bytes.ensures.value) (differ links n name apart) in
    record {
      others = λ n apart. same_others first old new _ _ is n (another n apart);
      crash = λ n e apart. no_more_others first old new _ _ is n e (another n apart);
      still_apart = λ a b. refl;
      time = time_goes_on first old new _ is;
    }
