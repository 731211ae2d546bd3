-- `rename` adds one change, by which the name leads to the new file, so other names and earlier moments stay.
use Rattle.std.proofs.Common.{◌≡◌, ◌∙◌, ◌∷◌, ap, ap₂, false, not, refl}
use Rattle.std.specs.Option.{option_map}
use Rattle.std.specs.Str.{bytes_eq}
use Rattle.std.specs.String.{string_bytes}
use Rattle.named_files.specs.Logs.{Held, Named}
use Rattle.named_files.specs.MemoryFolders.{changes_of, nothing_first}
use Rattle.named_files.proofs.Logs.{file_of, if_any, is_named, left_of_new, no_more_others, same_others, second, time_goes_on}
use Rattle.named_files.proofs.memory_folder.MemoryFolderFolder.rename.Goals as goal

-- what the name leads to after the rename
abbrev taken : goal.Joined-self → Held
taken c = file_of c.args.new.bytes.items c.args.new.is_kept false

abbrev IsNewest : goal.Joined-self → Type 0
IsNewest c =
    changes_of c.add_reserved.new.self.steps.items
    ≡ Named (string_bytes c.args.name.now.text) (taken c) ∷ changes_of c.args.self.now.steps.items

newest : (c : goal.Joined-self) → IsNewest c
newest c =
    c.add_reserved.ensures.changes
    ∙ ap₂ (λ m (h : Held). Named m h ∷ changes_of c.reserve.new.self.items) (c.in-Ok.ensures.ok ∙ c.as_str.ensures)
    c.into_found.ensures
    ∙ ap (λ steps. Named (string_bytes c.args.name.now.text) (taken c) ∷ changes_of steps) c.reserve.ensures.items

pub returns-clause-named : goal.returns-clause-named
returns-clause-named c =
    let is = is_named nothing_first (changes_of c.args.self.now.steps.items)
    (changes_of c.add_reserved.new.self.steps.items) (string_bytes c.args.name.now.text) (taken c) (newest c) in
    (ap (λ (h : Held). h.entry) is, λ kept. ap (λ (h : Held). h.is_on_disk) is ∙ kept)

pub returns-clause-others : goal.returns-clause-others
returns-clause-others c =
    let old = changes_of c.args.self.now.steps.items in
    let new = changes_of c.add_reserved.new.self.steps.items in
    let name = string_bytes c.args.name.now.text in
    if_any (option_map string_bytes c.args.self.now.making) (λ temporary. record {
      others = λ n both. same_others nothing_first old new name (taken c) (newest c) n
          (second (not (bytes_eq n temporary)) (not (bytes_eq n name)) both);
      crash = λ n e both. no_more_others nothing_first old new name (taken c) (newest c) n e
          (second (not (bytes_eq n temporary)) (not (bytes_eq n name)) both);
      still_apart = λ a b. refl;
      time = time_goes_on nothing_first old new (Named name (taken c)) (newest c);
    })

pub returns-clause-crash_named : goal.returns-clause-crash_named
returns-clause-crash_named c =
    left_of_new nothing_first (changes_of c.args.self.now.steps.items) (changes_of c.add_reserved.new.self.steps.items)
    (string_bytes c.args.name.now.text) c.args.new.bytes.items c.args.new.is_kept false (newest c)
