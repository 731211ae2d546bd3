-- The sections of an index file have the sizes that its counts give, and these stay below 2 ^ 64 by the limits.
use Rattle.mail_index.proofs.Words.{◌≡◌, ℕ, ◌+◌, ◌*◌, ◌^◌, ◌<◌, ◌≤◌, List, [], ◌∷◌, ◌++◌, length, map, flat_map, Option, refl, ap, ◌∙◌, length-append, arith, unwrap_or, AllByRecursion, concat, length-map, newest, IsDigest, Archive, Key, Table, IsArchive, IsKey, postings, archive_bytes, record_bytes, entry_of_key, directory_from, texts_of, postings_of, entries, archive_section, counts, body, index_file, HasSmallSections}
use Rattle.sha2.specs.Sha256.{sha256}
use Rattle.sha2.proofs.Facts256.{length-sha256}
use Rattle.mail_index.specs.Files.{digest_or_zeros, file_by}
unfoldable use Rattle.mail_index.specs.Files.{undigested_file}
use Rattle.mail_index.specs.declared.digests.Digests.{Digests}
use Rattle.mail_index.specs.declared.digests.Digests.TheVariants.{Computed, LeftOut}
use Rattle.mail_index.specs.declared.build.sections.Counts.{Counts}
use Rattle.mail_index.specs.Inside.SectionCounts.{IsCountOf, counted_length}
use Rattle.mail_index.proofs.ViewLaws.DigestReads.{digest_size}
use Rattle.mail_index.proofs.ViewLaws.Opening.{length_records, length_directory}
use Rattle.mail_index.proofs.BuildLaws.DraftLemmas.{length-postings}

pub length-archive_bytes : (a : Archive) → length (archive_bytes a)
    ≡ 12 + length a.path + length (unwrap_or a.digest [])
length-archive_bytes a = grind (arith, length-append, unwrap_or)

most-digest : (d : Option (List ℕ)) → IsDigest newest d → length (unwrap_or d []) ≤ 32
most-digest d h = grind (arith, digest_size, newest)

pub length-archives : (archives : List Archive) → AllByRecursion (IsArchive newest) archives
    → length (flat_map archive_bytes archives) ≤ 4140 * length archives
length-archives [] all = omega arith
length-archives (a ∷ archives) all = grind
    (arith, length-append, archive_bytes, flat_map, length-archive_bytes, most-digest, length-archives archives all.1)

pub length-texts : (count : ℕ) (ks : List Key) → AllByRecursion (IsKey newest count) ks
    → length (texts_of (map entry_of_key ks)) ≤ 2 ^ 32 * length ks
length-texts _ [] all = omega arith
length-texts count (k ∷ ks) all = omega (
  arith,
  length-append k.text (texts_of (map entry_of_key ks)),
  all.0.short,
  length-texts count ks all.1,
)

pub length-all_postings : (count : ℕ) (ks : List Key) → count ≤ 2 ^ 31 → AllByRecursion (IsKey newest count) ks
    → length (postings_of (map entry_of_key ks)) ≤ 2 ^ 31 * length ks
length-all_postings _ [] h all = omega arith
length-all_postings count (k ∷ ks) h all = omega (
  arith,
  length-append (postings k.numbers) (postings_of (map entry_of_key ks)),
  length-postings _ k all.0,
  length-all_postings count ks h all.1,
)

length-counts : (t : Table) → length (concat (counts t)) ≡ 48
length-counts t = refl

pub length-body : (t : Table) → length (body t)
    ≡ 48 + length (archive_section t) + 40 * length t.messages + 24 * length t.keys + length (texts_of (entries t)) +
    length (postings_of (entries t))
length-body t = grind (
  arith,
  flat_map,
  record_bytes,
  length-counts,
  length_records,
  length_directory,
  entries,
  length-map,
  entry_of_key,
  length-append,
  concat,
  counts,
  archive_section,
  directory_from,
  texts_of,
  postings_of,
)

pub length-index_file : (t : Table) → length (index_file t) ≡ length (body t) + 32
unfolding index_file
length-index_file t = length-append (body t) (sha256 (body t)) ∙ ap (λ n. length (body t) + n) (length-sha256 (body t))

pub length-digest : (digests : Digests) (bytes : List ℕ) → length (digest_or_zeros digests bytes) ≡ 32
length-digest Computed bytes = length-sha256 _
length-digest LeftOut _ = refl

pub file-is : (digests : Digests) (t : Table) → file_by digests t ≡ body t ++ digest_or_zeros digests (body t)
unfolding index_file undigested_file
file-is Computed t = refl
file-is LeftOut t = refl

length-file : (digests : Digests) (t : Table) → length (file_by digests t) ≡ length (body t) + 32
length-file digests t = grind (arith, length, file-is, length-append, body, digest_or_zeros, length-digest)

-- the counts give the file's length
pub counted_length-is : (digests : Digests) (t : Table) (c : Counts) → IsCountOf t c → counted_length c
    ≡ length (file_by digests t)
counted_length-is digests t c is = omega (arith, length-file, length-body)

-- this length is below 2 ^ 64
pub counted_length-small : (t : Table) (c : Counts) (count : ℕ) → IsCountOf t c → length t.archives < 2 ^ 31
    → length t.messages < 2 ^ 31 → length t.keys < 2 ^ 31 → count ≤ 2 ^ 31
    → AllByRecursion (IsArchive newest) t.archives → AllByRecursion (IsKey newest count) t.keys
    → counted_length c < 2 ^ 64
counted_length-small t c _ is archives messages keys h named listed =
    grind (arith, length-archives, length-texts, length-all_postings)

pub small-sections : (t : Table) (c : Counts) → IsCountOf t c → counted_length c < 2 ^ 64 → HasSmallSections t
small-sections t c is small = grind (arith, postings)
