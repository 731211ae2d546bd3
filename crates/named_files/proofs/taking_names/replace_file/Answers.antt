-- `replace_file` leaves the old file or the whole new one: its moments are those of `create`, and then of `take_name`.
use Rattle.std.proofs.Common.{Some, refl}
use Rattle.named_files.specs.Crashes.{LeavesOnly}
use Rattle.named_files.specs.OtherNames.{LeavesAlone}
use Rattle.named_files.specs.TakingNames.{Replaces}
use Rattle.named_files.proofs.Steps.{at_first, after_call, after_taking, left_under_temporary, sent_whole}
use Rattle.named_files.proofs.taking_names.replace_file.Goals as goal

-- the file can't be written, and then it is removed
pub returns-in-Err-send-clause-any_moment : goal.returns-in-Err-send-clause-any_moment
returns-in-Err-send-clause-any_moment g c =
    let F = g.F.Folder in
    let old = c.args.folder.now in
    let mid = c.create.new.self in
    let new = c.discard.new.self in
    let temporary = g.F.Name.FileName.text c.args.temporary.now in
    let name = g.F.Name.FileName.text c.args.name.now in
    let taken = Some c.args.bytes.now in
    let first = at_first F.moment F.left_since F.may_leave F.apart old temporary name taken
    (g.met.F.Folder.only_now old) in
    let created = after_call F.moment F.left_since F.may_leave F.apart old temporary name taken
    old mid first c.create.ensures.others.time
    (left_under_temporary F.moment F.left_since F.may_leave F.apart old temporary name taken
    old mid first (λ a b. refl) c.create.ensures.others.crash) in
    let gone : LeavesAlone F.apart F.holds F.may_leave F.moment F.left_since (λ n. F.apart mid n temporary) mid new =
    rw c.in-Ok.ensures.making at c.discard.ensures.others in
    (after_call F.moment F.left_since F.may_leave F.apart old temporary name taken
    mid new created gone.time
    (left_under_temporary F.moment F.left_since F.may_leave F.apart old temporary name taken
    mid new created c.create.ensures.others.still_apart gone.crash)).run

-- the file is written, and then it takes its name
pub returns-clause-any_moment : goal.returns-clause-any_moment
returns-clause-any_moment g c =
    let F = g.F.Folder in
    let old = c.args.folder.now in
    let mid = c.create.new.self in
    let new = c.take_name.new.folder in
    let temporary = g.F.Name.FileName.text c.args.temporary.now in
    let name = g.F.Name.FileName.text c.args.name.now in
    let taken = Some c.args.bytes.now in
    let sent = sent_whole (g.F.New.Out.taken c.in-Ok.new) (g.F.New.Out.taken c.send.new.out) c.args.bytes.now
    c.in-Ok.ensures.empty.0 c.in_default.ensures.ok in
    let first = at_first F.moment F.left_since F.may_leave F.apart old temporary name taken
    (g.met.F.Folder.only_now old) in
    let created = after_call F.moment F.left_since F.may_leave F.apart old temporary name taken
    old mid first c.create.ensures.others.time
    (left_under_temporary F.moment F.left_since F.may_leave F.apart old temporary name taken
    old mid first (λ a b. refl) c.create.ensures.others.crash) in
    let later : LeavesOnly F.moment F.left_since mid new (Replaces (F.apart mid) (F.may_leave mid) temporary name taken)
    =
    rw sent at c.take_name.ensures.any_moment in
    after_taking F.moment F.left_since F.may_leave F.apart old temporary name taken
    mid new created c.create.ensures.others.still_apart c.create.ensures.others.crash later
