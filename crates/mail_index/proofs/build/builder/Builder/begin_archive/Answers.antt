-- `Builder::begin_archive` keeps a draft valid, and the new archive has no message, because all belong to earlier
-- archives.
use Rattle.mail_index.proofs.Words.{◌≡◌, None, false, rules, arith, common_steps}
use Rattle.mail_index.specs.Inside.Drafts.{draft_of_fields}
use Rattle.mail_index.proofs.BuildLaws.Placing.{archive-opened, none-of-next}
use Rattle.mail_index.proofs.build.builder.Builder.begin_archive.Goals as goal

pub invariant_of-self : goal.invariant_of-self
invariant_of-self c =
    let d = draft_of_fields c.self.inside.most c.self.inside.path c.self.inside.in_message c.self.inside.archives.items
    c.self.inside.records.items c.self.inside.keys.keys c.self.inside.failed in
    let kept : d.failed ≡ false = grind arith in
    let closed : d.path ≡ None = grind arith in (
      archive-opened d _ c.self.invariant.0 kept closed (first_of (search rules, grind (arith, common_steps)))
          (rw c.in-Ok.ensures.ok (c.requires.path (grind arith))),
      λ none. absurd cc,
    )

pub returns-in-Ok-clause-empty : goal.returns-in-Ok-clause-empty
returns-in-Ok-clause-empty c = grind (arith, none-of-next)
