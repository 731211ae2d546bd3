-- The sections so far were written, and the others are to come.
use Rattle.std.proofs.Common.{◌≡◌, drop, flat_map}
use Rattle.mail_index.specs.Inside.SectionCounts.{section_of}
use Rattle.mail_index.specs.Inside.Signing.{IsSigning}
use Rattle.mail_index.proofs.build.builder.Builder.send_sections.Given as goal

abbrev pub invariant-loop-section : goal.invariant-loop-section
invariant-loop-section g l =
    IsSigning (g.O.Out.taken l.fn.out) (g.O.Out.taken l.out) l.fn.signer l.signer
    (flat_map (section_of l.self.table) l.sections)
    (flat_map (section_of l.self.table) (drop l.section-index l.sections))
    × (g.O.Out.failures l.out ≡ g.O.Out.failures l.fn.out)
