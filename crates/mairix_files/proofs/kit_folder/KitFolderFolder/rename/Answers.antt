-- `rename` makes one change: the name leads to what the new file has taken, and its temporary name isn't noted.
use Rattle.std.proofs.Common.{◌≡◌, ◌∙◌, ◌∷◌, ap, false, refl}
use Rattle.std.specs.Option.{option_map}
use Rattle.std.specs.String.{string_bytes}
use Rattle.named_files.specs.Logs.{Held, Named}
use Rattle.named_files.proofs.Logs.{file_of, if_any, left_of_new, no_more_others, same_others, second, time_goes_on}
use Rattle.call_record.specs.Calls.{taken_after}
use Rattle.mairix_files.specs.KitNews.{bytes_put}
use Rattle.mairix_files.specs.NameCalls.{are_apart, changes_by, supposed_first}
use Rattle.mairix_files.proofs.NameSteps.{differ}
use Rattle.mairix_files.proofs.kit_folder.KitFolderFolder.rename.Given as given
use Rattle.mairix_files.proofs.kit_folder.KitFolderFolder.rename.Goals as goal

module _ (g : given.Over) (c : goal.Joined-self-3 g) where
  -- what the name leads to after the rename
  abbrev taken : Held
  taken = file_of (bytes_put c.args.new.noted c.args.new.gathered.items) c.args.new.is_kept false

  newest : changes_by c.note_renamed.new.calls.done
      ≡ Named (string_bytes c.args.name.now.text) taken ∷ changes_by c.args.self.now.calls.done
  newest = ap changes_by c.note_renamed.ensures
      ∙ ap (λ name. Named name (file_of (taken_after c.into_written-named.result.1.calls)
      c.into_written-named.result.2 false) ∷ changes_by c.args.self.now.calls.done)
      (c.as_bytes.ensures.value ∙ c.as_str-name.ensures)
      ∙ ap (λ bytes. Named (string_bytes c.args.name.now.text) (file_of bytes c.into_written-named.result.2 false)
      ∷ changes_by c.args.self.now.calls.done) c.into_written-named.ensures.bytes
      ∙ ap (λ kept. Named (string_bytes c.args.name.now.text)
      (file_of (bytes_put c.args.new.noted c.args.new.gathered.items) kept false)
      ∷ changes_by c.args.self.now.calls.done) c.into_written-named.ensures.kept

pub returns-clause-others : goal.returns-clause-others
returns-clause-others g c =
    let first = supposed_first c.args.self.now.supposed in
    let links = c.args.self.now.supposed.links in
    let old = changes_by c.args.self.now.calls.done in
    let new = changes_by c.note_renamed.new.calls.done in
    let name = string_bytes c.args.name.now.text in
    if_any (option_map string_bytes c.args.self.now.temporary) (λ temporary. record {
      others = λ n both. same_others first old new name (taken g c) (newest g c) n
          (differ links n name (second (are_apart links n temporary) (are_apart links n name) both));
      crash = λ n e both. no_more_others first old new name (taken g c) (newest g c) n e
          (differ links n name (second (are_apart links n temporary) (are_apart links n name) both));
      still_apart = λ a b. refl;
      time = time_goes_on first old new (Named name (taken g c)) (newest g c);
    })

pub returns-clause-crash_named : goal.returns-clause-crash_named
returns-clause-crash_named g c =
    left_of_new (supposed_first c.args.self.now.supposed) (changes_by c.args.self.now.calls.done)
    (changes_by c.note_renamed.new.calls.done) (string_bytes c.args.name.now.text)
    (bytes_put c.args.new.noted c.args.new.gathered.items)
    c.args.new.is_kept false (newest g c)
