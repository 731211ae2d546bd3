-- `Builder::write_table` sends the file of the table: its body, and then the digest of the body.
use Rattle.mail_index.proofs.Words.{◌≡◌, ℕ, List, [], ◌++◌, ap, sym, subst, ◌∙◌, append-nil, body}
use Rattle.contract_words.specs.Devices.{Sends}
use Rattle.contract_words.proofs.Sending.{appends_join, sends_more}
use Rattle.mail_index.proofs.BuildLaws.SigningLemmas.{on-failure, sends-longer}
use Rattle.mail_index.proofs.BuildLaws.Placing.{well_formed}
use Rattle.mail_index.proofs.BuildLaws.Sizes.{file-is, counted_length-is, small-sections}
use Rattle.mail_index.proofs.build.builder.Builder.write_table.Goals as goal

pub returns-in_err-digest-clause-err : goal.returns-in_err-digest-clause-err
returns-in_err-digest-clause-err g c = on-failure _
    (subst (λ (l : List ℕ). Sends (g.O.Out.taken c.args.out.now) (g.O.Out.taken c.send_undigested.new.out) l)
    (sym (file-is _ _)) (sends-longer _ _ _ _ c.in_err-digest.ensures.err))

pub returns-in_err-send-clause-err : goal.returns-in_err-send-clause-err
returns-in_err-send-clause-err g c =
    let digest = c.as_slice.ensures ∙ c.in_ok-digest.ensures.digest in
    let whole = file-is c.args.digests c.args.self.now.table
    ∙ ap (λ (l : List ℕ). body c.args.self.now.table ++ l) (sym digest ∙ sym (append-nil _)) in
    on-failure _ (sends_more _ _ _ _ _ _ _ whole c.in_ok-digest.ensures.ok c.in_err-send.ensures.err)

pub returns-clause-ok : goal.returns-clause-ok
returns-clause-ok g c =
    let digest = c.as_slice.ensures ∙ c.in_ok-digest.ensures.digest in
    let whole = ap (λ (l : List ℕ). body c.args.self.now.table ++ l) digest ∙ sym (file-is _ _) in (
      counted_length-is _ _ _ c.counts-counts.ensures.counts,
      rw (← whole) (appends_join _ _ _ _ _ c.in_ok-digest.ensures.ok c.in_ok-send.ensures.ok),
    )

pub returns-clause-formed : goal.returns-clause-formed
returns-clause-formed g c = (
  well_formed _ c.counts-counts.ensures.draft c.requires.phase,
  small-sections _ _ c.counts-counts.ensures.counts c.counts-counts.ensures.small,
)
