-- `IndexView::of_file` always finds version and sections, because the bytes are the file of a table.
use Rattle.mail_index.proofs.Words.{◌∙◌, arith, Fits-lt-pow}
use Rattle.mail_index.proofs.FileLaws.KnownFile.{parts, has_version, known_checked, known_table}
use Rattle.mail_index.proofs.view.index_view.IndexView.of_file.Goals as goal

pub u32_at-requires : goal.u32_at-requires
u32_at-requires c = omega (arith, (parts _ c.well_formed.0.0 c.requires.0 c.requires.1 c.requires.2).long)

pub unreachable-requires : goal.unreachable-requires
unreachable-requires c = c.in_default.ensures
    (rw c.u32_at.ensures (has_version c.args.bytes.now c.well_formed.0.0 c.requires.0 c.requires.1 c.requires.2))

pub of-requires-2-clause-version : goal.of-requires-2-clause-version
of-requires-2-clause-version c = c.in-Some.ensures ∙ c.u32_at.ensures

pub of-requires-2-clause-long : goal.of-requires-2-clause-long
of-requires-2-clause-long c = (parts _ c.well_formed.0.0 c.requires.0 c.requires.1 c.requires.2).long

pub unreachable-requires-in_default-of : goal.unreachable-requires-in_default-of
unreachable-requires-in_default-of c = c.in_default-of.ensures
    (parts _ c.well_formed.0.0 c.requires.0 c.requires.1 c.requires.2).adds_up

pub invariant_of-result : goal.invariant_of-result
invariant_of-result c =
    known_checked c.args.bytes.now c.well_formed.0.0 c.requires.0 c.requires.1 c.requires.2 c.in-Some-of.layout
    c.in-Some-of.ensures (record { below = λ i. Fits-lt-pow (c.type_inv.bytes i) })

pub returns : goal.returns
returns c digests t w =
    known_table c.args.bytes.now c.well_formed.0.0 digests t w c.in-Some-of.layout c.in-Some-of.ensures
    (record { below = λ i. Fits-lt-pow (c.type_inv.bytes i) })
