-- `Builder::end_message` keeps a draft valid, because the message comes after those before it.
use Rattle.std.specs.Prelude.{IfSome, FitsSigned}
use Rattle.std.specs.Int.{w64}
use Rattle.mail_index.proofs.Words.{◌≡◌, false, arith, sym, subst, Draft, IsNextMessage, IsInMessage}
use Rattle.mail_index.specs.Inside.Drafts.{draft_of_fields}
use Rattle.mail_index.proofs.BuildLaws.Placing.{message-ended_draft}
use Rattle.mail_index.proofs.build.builder.Builder.end_message.Goals as goal

pub invariant_of-self : goal.invariant_of-self
invariant_of-self c =
    let d = draft_of_fields c.self.inside.most c.self.inside.path c.self.inside.in_message c.self.inside.archives.items
    c.self.inside.records.items c.self.inside.keys.keys c.self.inside.failed in
    -- the type of the date says this
    let date : IfSome c.args.message.date (FitsSigned w64) = grind arith in
    let kept : d.failed ≡ false = grind arith in
    let draft =
    rw (← c.in-Ok.ensures.items) at (message-ended_draft d c.args.message c.self.invariant.0 kept
    (subst IsInMessage (sym c.self.view_is) c.requires.phase)
    (subst (λ (e : Draft). e.failed ≡ false → IsNextMessage e c.args.message) (sym c.self.view_is) c.requires.next
    kept) date) in (draft, c.self.invariant.1)
