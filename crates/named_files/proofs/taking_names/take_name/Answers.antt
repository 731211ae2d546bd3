-- `take_name` leaves the old file or the whole new one: its moments are those of the calls that it makes.
use Rattle.std.proofs.Common.{rules, refl, ◌≡◌, ◌∙◌, ℕ, List, subst, IfSome, ◌&&◌}
use Rattle.named_files.specs.OtherNames.{LeavesAlone}
use Rattle.named_files.proofs.Steps.{after_call, after_rename, left_under_temporary}
use Rattle.named_files.proofs.taking_names.take_name.Goals as goal

-- the rename fails, and then the file is removed
pub returns-in-Err-rename-clause-any_moment : goal.returns-in-Err-rename-clause-any_moment
returns-in-Err-rename-clause-any_moment g c =
    let F = g.F.Folder in
    let old = c.args.folder.now in
    let mid = c.rename.new.self in
    let new = c.discard-in-Err-rename.new.self in
    let temporary = g.F.Name.FileName.text c.args.temporary.now in
    let name = g.F.Name.FileName.text c.args.name.now in
    let taken = g.F.New.Out.taken c.args.new in
    let hold = g.F.New.NewFile.may_hold c.sync_new.new.new in
    let whole = λ (bytes : List ℕ) (h : hold bytes). subst (λ t. IfSome t (λ w. bytes ≡ w)) c.sync_new.ensures.taken
    (g.met.F.New.NewFile.kept_whole c.sync_new.new.new bytes (search rules) h) in
    let alone : LeavesAlone F.apart F.holds F.may_leave F.moment F.left_since
    (λ n. F.apart old n temporary && F.apart old n name) old mid = rw c.requires.making at c.rename.ensures.others in
    let renamed = after_rename F.moment F.left_since F.may_leave F.apart old temporary name taken
    (g.met.F.Folder.only_now old) mid alone.time alone.crash hold c.rename.ensures.crash_named whole in
    let still : F.making mid ≡ F.making old = c.in-Err-rename.ensures.stays.1 in
    let gone : LeavesAlone F.apart F.holds F.may_leave F.moment F.left_since (λ n. F.apart mid n temporary) mid new =
    rw (still ∙ c.requires.making) at c.discard-in-Err-rename.ensures.others in
    (after_call F.moment F.left_since F.may_leave F.apart old temporary name taken
    mid new renamed gone.time
    (left_under_temporary F.moment F.left_since F.may_leave F.apart old temporary name taken
    mid new renamed alone.still_apart gone.crash)).run

-- it is renamed, and then its name is brought to the disk
pub returns-clause-any_moment : goal.returns-clause-any_moment
returns-clause-any_moment g c =
    let F = g.F.Folder in
    let old = c.args.folder.now in
    let mid = c.rename.new.self in
    let temporary = g.F.Name.FileName.text c.args.temporary.now in
    let name = g.F.Name.FileName.text c.args.name.now in
    let taken = g.F.New.Out.taken c.args.new in
    let hold = g.F.New.NewFile.may_hold c.sync_new.new.new in
    let whole = λ (bytes : List ℕ) (h : hold bytes). subst (λ t. IfSome t (λ w. bytes ≡ w)) c.sync_new.ensures.taken
    (g.met.F.New.NewFile.kept_whole c.sync_new.new.new bytes (search rules) h) in
    let alone : LeavesAlone F.apart F.holds F.may_leave F.moment F.left_since
    (λ n. F.apart old n temporary && F.apart old n name) old mid = rw c.requires.making at c.rename.ensures.others in
    let renamed = after_rename F.moment F.left_since F.may_leave F.apart old temporary name taken
    (g.met.F.Folder.only_now old) mid alone.time alone.crash hold c.rename.ensures.crash_named whole in
    (after_call F.moment F.left_since F.may_leave F.apart old temporary name taken
    mid c.sync_name.new.self renamed c.sync_name.ensures.others.time
    (λ n e left. renamed.here n e (c.sync_name.ensures.others.crash n e refl left))).run
