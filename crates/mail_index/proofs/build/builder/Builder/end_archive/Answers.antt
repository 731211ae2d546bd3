-- `Builder::end_archive` keeps a draft valid, because all messages of the archive end within its length, and all keys
-- are in order.
use Rattle.mail_index.proofs.Words.{◌≡◌, false, arith, ◌≤◌, [], ◌∷◌, ◌++◌, map, string_bytes, ap, sym, subst, ◌∙◌, option_map, map-append, Draft, end_of, archive_count}
use Rattle.mail_index.specs.Inside.Drafts.{draft_of_fields, kept_archive}
use Rattle.mail_index.proofs.BuildLaws.Placing.{archive-ended_draft}
use Rattle.mail_index.proofs.build.builder.Builder.end_archive.Goals as goal

pub invariant_of-self-in-Ok : goal.invariant_of-self-in-Ok
invariant_of-self-in-Ok c =
    let d = draft_of_fields c.self.inside.most c.self.inside.path c.self.inside.in_message c.self.inside.archives.items
    c.self.inside.records.items c.self.inside.keys.keys c.self.inside.failed in
    let named = ap (map _) c.in-Ok.ensures.items ∙ map-append kept_archive c.self.inside.archives.items _ in
    let kept : d.failed ≡ false = grind arith in (
      rw (c.take.ensures.after, named, c.sort.ensures.keys)
          (archive-ended_draft d _ _ _ c.self.invariant.0 kept
          (ap (option_map string_bytes) (sym c.take.ensures.value ∙ c.in-Some.is)) (c.requires.within (grind arith))
          (search) (subst (λ (e : Draft). e.failed ≡ false → end_of (archive_count e) e.table.messages ≤ c.args.length)
          (sym c.self.view_is) c.requires.last kept)),
      λ _. grind arith,
    )
