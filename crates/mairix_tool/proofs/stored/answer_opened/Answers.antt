-- `answer_opened` replies what the table says, by the results of verification and search.
use Rattle.mairix_tool.proofs.Words.{◌≡◌, ℕ, List, Option, None, Some, Err, IfSome, sym, subst, shown_wanted, IsStaleOr, IsAnswerOrStale, RepliesBy, ReportsProved, unproved_archive, reply_of}
use Rattle.std.proofs.lemmas.Result.{err_from_is_err_and}
use Rattle.mairix_tool.proofs.ReplyLaws.Searching.{unverified-searched, verified-searched}
use Rattle.mairix_tool.proofs.ReplyLaws.Stored.{unproved-replied, still-verified}
use Rattle.mail_answer.proofs.ArchiveLaws.CallLemmas.{holds_join}
use Rattle.mairix_tool.proofs.stored.answer_opened.Goals as goal

pub returns-in_err-prove_archives-clause-told : goal.returns-in_err-prove_archives-clause-told
returns-in_err-prove_archives-clause-told g c = λ held holds.
    let w = shown_wanted c.args.wanted.now in
    let t = c.args.view.now in
    let fault = c.in_err-prove_archives.field-0.0 in
    let p = err_from_is_err_and c.from_residual.result c.from_residual.ensures.1 in
    let tells = subst (λ (o : Option (List (List ℕ))). IfSome o
    (λ bytes. ReportsProved {T = Unit {0}} (unproved_archive w.verify t.archives bytes) (Err fault))) holds
    c.in_err-prove_archives.ensures.proved in
    rw (p.1, p.2) (unproved-replied (unproved_archive w.verify t.archives held) (IsAnswerOrStale t w.search held) fault
    (g.O.Out.taken c.args.out.now) tells)

pub returns-clause-told : goal.returns-clause-told
returns-clause-told g c = λ held holds.
    let w = shown_wanted c.args.wanted.now in
    let t = c.args.view.now in
    let held-before : g.A.Archives.held c.prove_archives.new.archives ≡ Some held =
    rw holds at c.answer_view.ensures.searched.keeps.held in
    let none = subst (λ (o : Option (List (List ℕ))). IfSome o
    (λ bytes. unproved_archive w.verify t.archives bytes ≡ None)) held-before c.in_ok-prove_archives.ensures.proved
    in
    let told = c.answer_view.ensures.told held holds in
    subst (λ (o : Option ℕ). RepliesBy (IsStaleOr o (IsAnswerOrStale t w.search held)) (reply_of c.answer_view.result)
    (g.O.Out.taken c.args.out.now) (g.O.Out.taken c.answer_view.new.out)) (sym none) told

pub returns-clause-counted : goal.returns-clause-counted
returns-clause-counted g c = record {
  counted = c.answer_view.ensures.counted;
  read = still-verified c.args.view.now.archives c.args.wanted.now.verify (reply_of c.answer_view.result).fault
      c.in_ok-prove_archives.ensures.read;
}

pub returns-in_err-prove_archives-clause-searched : goal.returns-in_err-prove_archives-clause-searched
returns-in_err-prove_archives-clause-searched g c =
    let w = shown_wanted c.args.wanted.now in
    let p = err_from_is_err_and c.from_residual.result c.from_residual.ensures.1 in
    rw (p.1, p.2) (unverified-searched g.A.Archives g.O.Out c.args.view.now w.search c.args.archives.now
    c.prove_archives.new.archives w.verify c.in_err-prove_archives.field-0.0 c.args.out.now
    c.in_err-prove_archives.ensures.asked)

pub returns-clause-searched : goal.returns-clause-searched
returns-clause-searched g c =
    let w = shown_wanted c.args.wanted.now in
    verified-searched g.A.Archives g.O.Out c.args.view.now w.search c.args.archives.now c.prove_archives.new.archives
    w.verify _ c.answer_view.new.archives c.args.out.now c.answer_view.new.out (reply_of c.answer_view.result)
    c.in_ok-prove_archives.ensures.asked c.answer_view.ensures.searched

pub returns-clause-keeps : goal.returns-clause-keeps
returns-clause-keeps g c =
    holds_join g.A.Archives c.args.archives.now c.prove_archives.new.archives c.answer_view.new.archives
    c.prove_archives.ensures.keeps c.answer_view.ensures.keeps
