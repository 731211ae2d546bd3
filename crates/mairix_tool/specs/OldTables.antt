-- Tables without what some index files lack: files of version 1 have neither digests of archives nor names of
-- attachments, and some of version 2 have zeros for digests.
use Rattle.std.specs.Prelude.{◌≡◌, ◌⊎◌, ℕ, not, false, List, All, map, filter, None}
use Rattle.mail_words.specs.declared.kind.TextKind.TheVariants.{Name}
use Rattle.mail_index.specs.declared.kind.Kind.TheVariants.{Text}
use Rattle.mail_index.specs.Files.{index_file}
use Rattle.mail_index.specs.LookUps.{is_of_kind}
use Rattle.mail_index.specs.Tables.{Archive, Key, Table}
use Rattle.mail_index.specs.Versions.{newest, IsDigest}
use Rattle.mail_query.specs.Query.{uses_names}
use Rattle.mairix_tool.specs.Asked.{Wanted}

-- an archive's entry without its digest
abbrev pub without_digest : Archive → Archive
without_digest a = record a { digest = None }

-- the keys that aren't names of attachments
abbrev pub keys_but_names : List Key → List Key
keys_but_names keys = filter (λ k. not (is_of_kind (Text Name) k)) keys

-- the table without digests
abbrev pub but_digests : Table → Table
but_digests t = record t { archives = map without_digest t.archives }

-- the table as version 1 has it, without digests and names
abbrev pub old_table : Table → Table
old_table t = record {
  version = 1;
  archives = map without_digest t.archives;
  messages = t.messages;
  keys =
      keys_but_names t.keys;
}

-- each archive has a digest of 32 bytes, whatever they are
abbrev pub HasDigests : Table → Type 0
HasDigests t = All (λ a. IsDigest newest a.digest) t.archives

-- the file of this table, but with any digests
abbrev pub IsFileOtherwise : Table → List ℕ → Type 0
IsFileOtherwise whole index = (t : Table) × (but_digests t ≡ but_digests whole) × HasDigests t × (index ≡ index_file t)

-- The index says the same as this table about what is wanted. It is the table's file; or, if the archives aren't to be
-- verified, such a file with other digests, or one of version 1 while the query uses no names of attachments.
abbrev pub ServesFor : Wanted → Table → List ℕ → Type 0
ServesFor w whole index =
    (index ≡ index_file whole)
    ⊎ ((w.verify ≡ false)
    × (IsFileOtherwise whole index ⊎ ((uses_names w.search.query ≡ false) × (index ≡ index_file (old_table whole)))))
