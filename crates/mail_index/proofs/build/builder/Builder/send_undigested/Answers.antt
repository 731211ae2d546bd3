-- `Builder::send_undigested` sends all bytes before the digest, because it sends the last gathered bytes at the end.
use Rattle.mail_index.proofs.Words.{◌≡◌, ℕ, List, ◌++◌, Ok, Err, IfOk, OnOk, OnErr, Appends, body}
use Rattle.contract_words.specs.Devices.{Sends}
use Rattle.mail_index.specs.Files.{digest_or_zeros}
use Rattle.mail_index.specs.declared.digests.Digests.{Digests}
use Rattle.mail_index.specs.Inside.Signing.{Seals}
use Rattle.mail_index.proofs.BuildLaws.SigningLemmas.{on-failure, appends-all, sends-all, digests-all}
use Rattle.mail_index.proofs.build.builder.Builder.send_undigested.Goals as goal

pub returns-in_err-send_sections-clause-err : goal.returns-in_err-send_sections-clause-err
returns-in_err-send_sections-clause-err g c =
    on-failure _ (rw (c.new-signer.ensures.pending, c.as_slice.ensures) at c.in_err-send_sections.ensures.written)

pub returns-clause-ok : goal.returns-clause-ok
returns-clause-ok g c = (elim c.finish.result as
    (λ r. OnOk r (Appends (g.O.Out.taken c.send_sections.new.out) (g.O.Out.taken c.finish.new.out)
    c.send_sections.new.signer.pending) → OnOk r
    (Appends (g.O.Out.taken c.args.out.now) (g.O.Out.taken c.finish.new.out) (body c.args.self.now.table))) [
      | Ok _ ↦ λ rest. appends-all _ c.new-signer.ensures.pending
          (rw c.as_slice.ensures at c.in_ok-send_sections.ensures.written) rest
      | Err _ ↦ λ _. tt
    ]) c.finish.ensures.ok

pub returns-clause-digest : goal.returns-clause-digest
returns-clause-digest g c = (elim c.finish.result as
    (λ r. IfOk r (λ digest. (digests : Digests) (m : List ℕ) → Seals digests c.send_sections.new.signer.seal m → digest
    ≡ digest_or_zeros digests (m ++ c.send_sections.new.signer.pending))
    → IfOk r (λ digest. digest ≡ digest_or_zeros c.args.digests (body c.args.self.now.table))) [
      | Ok digest ↦ λ told. digests-all _ _ c.new-signer.ensures.pending c.new-signer.ensures.seal
          (rw c.as_slice.ensures at c.in_ok-send_sections.ensures.written) told
      | Err _ ↦ λ _. tt
    ]) c.finish.ensures.digest

pub returns-clause-err : goal.returns-clause-err
returns-clause-err g c = (elim c.finish.result as
    (λ r. OnErr r (Sends (g.O.Out.taken c.send_sections.new.out) (g.O.Out.taken c.finish.new.out)
    c.send_sections.new.signer.pending) → OnErr r
    (Sends (g.O.Out.taken c.args.out.now) (g.O.Out.taken c.finish.new.out) (body c.args.self.now.table))) [
      | Ok _ ↦ λ _. tt
      | Err _ ↦ λ rest. sends-all _ c.new-signer.ensures.pending
          (rw c.as_slice.ensures at c.in_ok-send_sections.ensures.written) rest
    ]) c.finish.ensures.err
