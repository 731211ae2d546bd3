-- `split_archive` refuses only bytes that begin with no archive, by the cases of its tests.
use Rattle.mail_index.proofs.Words.{◌≡◌, ◌∙◌, true, false, sym, Fits-lt-pow}
use Rattle.mail_index.proofs.ViewLaws.ArchiveReads.{cut_has_none, unnamed_has_none, undigested_has_none, found}
use Rattle.mail_index.proofs.view.archive.split_archive.Goals as goal

pub returns-then-tail-size : goal.returns-then-tail-size
returns-then-tail-size c = cut_has_none _ _ _ _ c.u32_at-size.ensures c.split_at.ensures.back c.if-tail-size.true

pub returns-in_default : goal.returns-in_default
returns-in_default c = unnamed_has_none _ _ _ _ _ c.u32_at-size.ensures c.split_at.ensures.back
    c.split_at-2.ensures.front (λ p. c.in_default.ensures.cases.0 p.text)

pub returns-then-not-is_path : goal.returns-then-not-is_path
returns-then-not-is_path c = unnamed_has_none _ _ _ _ _ c.u32_at-size.ensures c.split_at.ensures.back
    (c.in-Ok.ensures.cases.0 ∙ c.split_at-2.ensures.front)
    (λ p. let g = sym c.if-not-is_path.true ∙ c.is_path.ensures.1 p in cc)

pub returns-in_err-digest : goal.returns-in_err-digest
returns-in_err-digest c = rw c.from_residual.ensures
    (undigested_has_none _ _ _ _ _ c.u32_at-size.ensures c.split_at.ensures.back c.split_at-2.ensures.back
    c.in_err-digest.ensures)

pub returns : goal.returns
returns c =
    found _ _ _ _ _ _ _ _ _ (record { below = λ i. Fits-lt-pow (c.type_inv.bytes i) }) c.if-bytes-lt-ARCHIVE_FRONT.false
    c.u64_at-length.ensures c.u32_at-size.ensures c.split_at.ensures.back c.if-tail-size.false
    (c.in-Ok.ensures.cases.0 ∙ c.split_at-2.ensures.front) c.split_at-2.ensures.back
    (c.is_path.ensures.0 c.if-not-is_path.false) c.if-length-gt-MOST_LENGTH.false
    c.in_ok-digest.ensures.0 c.in_ok-digest.ensures.1 c.in_ok-digest.ensures.2
