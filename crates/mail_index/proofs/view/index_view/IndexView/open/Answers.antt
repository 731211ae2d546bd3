-- `IndexView::open` accepts exactly the files of tables, because each walk refuses only what no table has.
use Rattle.std.proofs.Common.{arith}
use Rattle.mail_index.proofs.Words.{◌≡◌, true, false, sym, ◌∙◌, Fits-lt-pow, table_of}
use Rattle.mail_index.proofs.FileLaws.SameTable.{same-table}
use Rattle.mail_index.proofs.FileLaws.FileLemmas.{these_archives, has_archives, has_records, these_records}
use Rattle.mail_index.specs.declared.view.fault.IndexFault.TheVariants.{BadLayout}
use Rattle.mail_index.specs.declared.view.fault.Section.TheVariants.{Counts, Archives, Records, Directory, Postings}
use Rattle.mail_index.proofs.FileLaws.Accepts.{no_fault}
use Rattle.mail_index.proofs.FileLaws.WholeFile.{laid_out, has_directory, these_entries, has_postings, these_lists, is_file, checked}
use Rattle.mail_index.proofs.view.index_view.IndexView.open.Goals as goal

pub returns-then-not-are_archives-clause-fault : goal.returns-then-not-are_archives-clause-fault
returns-then-not-are_archives-clause-fault c = grind (arith, laid_out, Fits-lt-pow, these_archives)

pub returns-then-not-are_records-clause-fault : goal.returns-then-not-are_records-clause-fault
returns-then-not-are_records-clause-fault c =
    let f = laid_out _ _ c.in_ok-version.ensures.0 c.in-Some.ensures
    (record { below = λ i. Fits-lt-pow (c.type_inv.bytes i) }) in
    let a = c.are_archives.ensures.0 c.if-not-are_archives.false in (
      _,
      has_archives _ _ f a,
      λ ms h. let g = sym c.if-not-are_records.true ∙ c.are_records.ensures.1 (these_records _ _ f a _ h) in cc,
    )

pub returns-then-not-has_entries-clause-fault : goal.returns-then-not-has_entries-clause-fault
returns-then-not-has_entries-clause-fault c =
    let f = laid_out _ _ c.in_ok-version.ensures.0 c.in-Some.ensures
    (record { below = λ i. Fits-lt-pow (c.type_inv.bytes i) }) in
    let a = c.are_archives.ensures.0 c.if-not-are_archives.false in
    let r = c.are_records.ensures.0 c.if-not-are_records.false in (
      _,
      _,
      has_records _ _ f a r,
      λ es h. let g = sym c.if-not-has_entries.true ∙ c.has_entries.ensures.1 (these_entries _ _ f _ h) in cc,
    )

pub returns-then-not-has_lists-clause-fault : goal.returns-then-not-has_lists-clause-fault
returns-then-not-has_lists-clause-fault c =
    let f = laid_out _ _ c.in_ok-version.ensures.0 c.in-Some.ensures
    (record { below = λ i. Fits-lt-pow (c.type_inv.bytes i) }) in
    let a = c.are_archives.ensures.0 c.if-not-are_archives.false in
    let r = c.are_records.ensures.0 c.if-not-are_records.false in
    let d = c.has_entries.ensures.0 c.if-not-has_entries.false in (
      _,
      _,
      _,
      has_directory _ _ f (record { archives = a; records = r }) d,
      λ ks h. let g = sym c.if-not-has_lists.true ∙ c.has_lists.ensures.1 (these_lists _ _ f _ h) in cc,
    )

pub returns-clause-ok : goal.returns-clause-ok
returns-clause-ok c = grind (arith, laid_out, Fits-lt-pow, is_file, has_postings)

-- ---- bytes with a fault are the file of no table

pub returns-in_err-version-clause-accepts : goal.returns-in_err-version-clause-accepts
returns-in_err-version-clause-accepts c t f = absurd (no_fault _ t c.well_formed.0.0 f _ c.in_err-version.ensures)

pub returns-in_default-clause-accepts : goal.returns-in_default-clause-accepts
returns-in_default-clause-accepts c t f =
    absurd (no_fault _ t c.well_formed.0.0 f (BadLayout Counts) (c.in_ok-version.ensures.0, c.in_default.ensures))

pub returns-then-not-are_archives-clause-accepts : goal.returns-then-not-are_archives-clause-accepts
returns-then-not-are_archives-clause-accepts c t f =
    absurd (no_fault _ t c.well_formed.0.0 f (BadLayout Archives) (returns-then-not-are_archives-clause-fault c))

pub returns-then-not-are_records-clause-accepts : goal.returns-then-not-are_records-clause-accepts
returns-then-not-are_records-clause-accepts c t f =
    absurd (no_fault _ t c.well_formed.0.0 f (BadLayout Records) (returns-then-not-are_records-clause-fault c))

pub returns-then-not-has_entries-clause-accepts : goal.returns-then-not-has_entries-clause-accepts
returns-then-not-has_entries-clause-accepts c t f =
    absurd (no_fault _ t c.well_formed.0.0 f (BadLayout Directory) (returns-then-not-has_entries-clause-fault c))

pub returns-then-not-has_lists-clause-accepts : goal.returns-then-not-has_lists-clause-accepts
returns-then-not-has_lists-clause-accepts c t f =
    absurd (no_fault _ t c.well_formed.0.0 f (BadLayout Postings) (returns-then-not-has_lists-clause-fault c))

pub returns-clause-same : goal.returns-clause-same
returns-clause-same c t f = same-table _ t (table_of c.in-Some.layout) c.well_formed.0.0 f (returns-clause-ok c)

pub invariant_of-result : goal.invariant_of-result
invariant_of-result c =
    let f = laid_out _ _ c.in_ok-version.ensures.0 c.in-Some.ensures
    (record { below = λ i. Fits-lt-pow (c.type_inv.bytes i) }) in
    checked _ _ f (record {
      archives = c.are_archives.ensures.0 c.if-not-are_archives.false;
      records =
          c.are_records.ensures.0 c.if-not-are_records.false;
    })
    (c.has_entries.ensures.0 c.if-not-has_entries.false) (c.has_lists.ensures.0 c.if-not-has_lists.false)
