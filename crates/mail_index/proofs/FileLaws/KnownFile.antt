-- If bytes are known to be a table's file, with its digest or without, each section of their layout keeps its rules.
-- All sections of a file without its digest are those of the file with it.
use Rattle.mail_index.proofs.Words.{◌≡◌, ◌∙◌, ◌<◌, ◌^◌, ℕ, List, length, refl, ap, sym, subst, arith, take, take-append_seam, entry_of_key, Table, body, index_file, IsVersion, version_told, IsFileOfTable, IsLayout, IsChecked, table_of}
use Rattle.sha2.specs.Sha256.{sha256}
use Rattle.sha2.proofs.Facts256.{length-sha256}
use Rattle.mail_index.specs.Faults.{IsFileBy}
use Rattle.mail_index.specs.Files.{digest_or_zeros}
use Rattle.mail_index.specs.declared.digests.Digests.{Digests}
use Rattle.mail_index.specs.declared.view.layout.Layout.{Layout}
use Rattle.mail_index.proofs.BuildLaws.Sizes.{file-is, length-digest, length-index_file}
use Rattle.mail_index.proofs.FileLaws.Accepts.{HasParts, has_parts, keeps_rules, same_records}
use Rattle.mail_index.proofs.FileLaws.Bytes.{AreBytes, bytes_before, bytes_of_both, sha256_bytes}
use Rattle.mail_index.proofs.FileLaws.FileLemmas.{these_archives, these_records, has_records}
use Rattle.mail_index.proofs.FileLaws.SameTable.{same-table}
use Rattle.mail_index.proofs.FileLaws.WholeFile.{laid_out, these_entries, these_lists, checked, is_file, has_postings}

known_file : (bytes : List ℕ) (l : Layout) → IsLayout bytes l → AreBytes bytes → (t : Table) → IsFileOfTable bytes t
    → IsChecked l × IsFileOfTable bytes (table_of l)
known_file _ l y b t w = grind (
  arith,
  keeps_rules,
  laid_out,
  these_archives,
  these_records,
  table_of,
  same_records,
  has_records,
  these_entries,
  entry_of_key,
  these_lists,
  checked,
  is_file,
  has_postings,
)

module _ (bytes : List ℕ) (few : length bytes < 2 ^ 64) (digests : Digests) (t : Table)
    (file : IsFileBy bytes digests t)
  where
    pub parts : HasParts bytes t
    parts = has_parts bytes t (digest_or_zeros digests (body t)) few file.0 (length-digest digests (body t))
        (file.1 ∙ file-is digests t)

    pub has_version : IsVersion (version_told bytes)
    has_version = subst IsVersion (sym parts.told.known) file.0.version

    same-length : length (index_file t) ≡ length bytes
    same-length = length-index_file t ∙ sym parts.size

    few-whole : length (index_file t) < 2 ^ 64
    few-whole = omega (arith, few, same-length)

    whole : HasParts (index_file t) t
    unfolding index_file
    whole = has_parts (index_file t) t (sha256 (body t)) few-whole file.0 (length-sha256 (body t)) refl

    -- the layout of the file with its digest
    whole-layout : (l : Layout) → IsLayout bytes l → IsLayout (index_file t) l
    whole-layout l y = record {
      adds_up = whole.adds_up;
      few = few-whole;
      version = y.version ∙ parts.told.known ∙ sym whole.told.known;
      archive_count = y.archive_count ∙ parts.told.archives ∙ sym whole.told.archives;
      few_messages = y.few_messages;
      message_count = y.message_count ∙ parts.told.messages ∙ sym whole.told.messages;
      key_count = y.key_count ∙ parts.told.keys ∙ sym whole.told.keys;
      archives = y.archives ∙ parts.archives ∙ sym whole.archives;
      records = y.records ∙ parts.records ∙ sym whole.records;
      directory = y.directory ∙ parts.directory ∙ sym whole.directory;
      texts = y.texts ∙ parts.texts ∙ sym whole.texts;
      postings = y.postings ∙ parts.postings ∙ sym whole.postings;
    }

    whole-bytes : AreBytes bytes → AreBytes (index_file t)
    unfolding index_file
    whole-bytes b =
        let front : take (length (body t)) bytes ≡ body t =
        ap (take (length (body t))) (file.1 ∙ file-is digests t)
        ∙ take-append_seam (body t) (digest_or_zeros digests (body t)) in
        bytes_of_both (body t) (sha256 (body t)) (subst AreBytes front (bytes_before (length (body t)) bytes b))
        (sha256_bytes (body t))

    known : (l : Layout) → IsLayout bytes l → AreBytes bytes → IsChecked l × IsFileOfTable (index_file t) (table_of l)
    known l y b = known_file (index_file t) l (whole-layout l y) (whole-bytes b) t (file.0, refl)

    pub known_checked : (l : Layout) → IsLayout bytes l → AreBytes bytes → IsChecked l
    known_checked l y b = (known l y b).0

    pub known_table : (l : Layout) → IsLayout bytes l → AreBytes bytes → table_of l ≡ t
    known_table l y b = same-table (index_file t) t (table_of l) few-whole (file.0, refl) (known l y b).1
