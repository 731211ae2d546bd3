-- `begin_window` keeps all messages from n on, because each is marked or still in its list.
use Rattle.mail_answer.proofs.Words.{subst, refl, IsFirst, marks_in, union_of}
use Rattle.mail_answer.proofs.CursorLaws.MarkedLists.{few_cut, none_marks, none_drops, none_first, begun_marks, begun_drops, begun_first}
use Rattle.mail_answer.proofs.cursor.marked.begin_window.Goals as goal

pub mark_all-requires : goal.mark_all-requires
mark_all-requires c = few_cut c.args.n c.args.start.now _ c.args.lists.now.items c.least_ahead-number.new.lists.items
    c.requires.listed c.least_ahead-number.ensures.rest refl

pub returns-in_default-clause-marks : goal.returns-in_default-clause-marks
returns-in_default-clause-marks c = none_marks c.args.n c.args.start.now _ c.args.lists.now.items
    c.least_ahead-number.new.lists.items c.requires.listed c.least_ahead-number.ensures.rest refl
    c.least_ahead-number.result c.least_ahead-number.ensures.number

pub returns-in_default-clause-rest : goal.returns-in_default-clause-rest
returns-in_default-clause-rest c = none_drops c.args.n c.args.start.now _ c.args.lists.now.items
    c.least_ahead-number.new.lists.items c.requires.listed c.least_ahead-number.ensures.rest refl

pub returns-in_default-clause-number : goal.returns-in_default-clause-number
returns-in_default-clause-number c = none_first c.args.n c.args.start.now _ c.args.lists.now.items
    c.least_ahead-number.new.lists.items c.requires.listed c.least_ahead-number.ensures.rest refl
    c.least_ahead-number.result c.least_ahead-number.ensures.number

pub returns-in-Some-clause-marks : goal.returns-in-Some-clause-marks
returns-in-Some-clause-marks c =
    begun_marks c.args.n c.args.start.now c.as_mut_slice.result.now c.args.lists.now.items
    c.least_ahead-number.new.lists.items c.requires.listed c.least_ahead-number.ensures.rest
    c.as_mut_slice.ensures.value c.in-Some.first (marks_in c.mark_all.new.words) c.mark_all.new.lists.items
    (subst (IsFirst (union_of c.least_ahead-number.new.lists.items)) c.in-Some.is c.least_ahead-number.ensures.number)
    c.mark_all.ensures.rest c.mark_all.ensures.marks c.mark_all.result c.mark_all.ensures.number

pub returns-in-Some-clause-rest : goal.returns-in-Some-clause-rest
returns-in-Some-clause-rest c =
    begun_drops c.args.n c.args.start.now c.as_mut_slice.result.now c.args.lists.now.items
    c.least_ahead-number.new.lists.items c.requires.listed c.least_ahead-number.ensures.rest
    c.as_mut_slice.ensures.value c.in-Some.first (marks_in c.mark_all.new.words) c.mark_all.new.lists.items
    (subst (IsFirst (union_of c.least_ahead-number.new.lists.items)) c.in-Some.is c.least_ahead-number.ensures.number)
    c.mark_all.ensures.rest c.mark_all.ensures.marks

pub returns-in-Some-clause-number : goal.returns-in-Some-clause-number
returns-in-Some-clause-number c =
    begun_first c.args.n c.args.start.now c.as_mut_slice.result.now c.args.lists.now.items
    c.least_ahead-number.new.lists.items c.requires.listed c.least_ahead-number.ensures.rest
    c.as_mut_slice.ensures.value c.in-Some.first (marks_in c.mark_all.new.words) c.mark_all.new.lists.items
    (subst (IsFirst (union_of c.least_ahead-number.new.lists.items)) c.in-Some.is c.least_ahead-number.ensures.number)
    c.mark_all.ensures.rest c.mark_all.ensures.marks
