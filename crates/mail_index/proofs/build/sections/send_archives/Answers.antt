-- `send_archives` writes all archives as one text, archive by archive.
use Rattle.mail_index.proofs.Words.{◌≡◌, ℕ, ◌+◌, ◌<◌, List, ◌++◌, length, map, drop, get_or, flat_map, ap, ◌∙◌, archive_bytes}
use Rattle.mail_index.specs.declared.build.builder.NamedArchive.{NamedArchive}
use Rattle.mail_index.specs.Inside.Drafts.{kept_archive}
use Rattle.mail_index.proofs.BuildLaws.SigningLemmas.{signing-next, signing-stop, from-item}
use Rattle.mail_index.proofs.build.sections.send_archives.Goals as goal

abbrev told : List NamedArchive → List ℕ
told archives = flat_map archive_bytes (map kept_archive archives)

front : (archives : List NamedArchive) (i : ℕ) (a : NamedArchive) → a ≡ get_or archives i a → i < length archives
    → told (drop i archives) ≡ archive_bytes (kept_archive a) ++ told (drop (i + 1) archives)
front archives i a is low = ap told (from-item _ i a is low)

pub returns-in_err-send_parts-clause-written : goal.returns-in_err-send_parts-clause-written
returns-in_err-send_parts-clause-written g c =
    signing-stop _ _ _ _ _ c.from_residual.ensures.0 c.loop-archive.invariant.0
    (front _ _ _ c.archive-item.is c.loop-archive-test.true) (rw (
      c.as_slice.ensures,
      c.to_be_bytes-length.ensures,
      c.as_slice-in-loop-archive.ensures,
      c.to_be_bytes-path_length.ensures,
      c.as_bytes-path.ensures.value,
      c.as_slice-in-loop-archive-2.ensures,
    ) at c.in_err-send_parts.ensures.written)

pub loop-archive-preserved : goal.loop-archive-preserved
loop-archive-preserved g c = (
  signing-next _ _ c.loop-archive.invariant.0 (front _ _ _ c.archive-item.is c.loop-archive-test.true) (rw (
    c.as_slice.ensures,
    c.to_be_bytes-length.ensures,
    c.as_slice-in-loop-archive.ensures,
    c.to_be_bytes-path_length.ensures,
    c.as_bytes-path.ensures.value,
    c.as_slice-in-loop-archive-2.ensures,
  ) at c.in_ok-send_parts.ensures.written),
  c.in_ok-send_parts.ensures.count ∙ c.loop-archive.invariant.1,
)
