-- `Builder::send_sections` writes its sections as one text, section by section.
use Rattle.std.proofs.Common.{◌∙◌}
use Rattle.mail_index.proofs.BuildLaws.SigningLemmas.{signing-next, signing-stop, bytes-from}
use Rattle.mail_index.proofs.build.builder.Builder.send_sections.Goals as goal

pub returns-in_err-send_section-clause-written : goal.returns-in_err-send_section-clause-written
returns-in_err-send_section-clause-written g c =
    signing-stop _ _ _ _ _ c.from_residual.ensures.0 c.loop-section.invariant.0
    (bytes-from _ _ _ _ c.loop-section-test.true) c.in_err-send_section.ensures.written

pub loop-section-preserved : goal.loop-section-preserved
loop-section-preserved g c = (
  signing-next _ _ c.loop-section.invariant.0 (bytes-from _ _ _ _ c.loop-section-test.true)
      c.in_ok-send_section.ensures.written,
  c.in_ok-send_section.ensures.count ∙ c.loop-section.invariant.1,
)
