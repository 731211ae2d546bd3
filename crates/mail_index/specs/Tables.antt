-- What an index says about archives, apart from its file.
use Rattle.std.specs.Prelude.{◌≡◌, ◌≢◌, ℕ, zero, suc, ◌+◌, ◌<◌, ◌≤◌, ◌⊎◌, FitsSigned, List, [], ◌∷◌, length, Option}
use Rattle.std.specs.Prelude.{IfSome, IsUtf8}
use Rattle.std.specs.Int.{w64}
use Rattle.std.specs.List.{AllByRecursion}
use Rattle.std.specs.declared.cmp.Ordering.TheVariants.{Less}
use Rattle.mail_index.specs.declared.kind.Kind.{Kind}
use Rattle.mail_index.specs.declared.record.Record.{Record}
use Rattle.mail_index.specs.Kinds.{kind_number}
use Rattle.mail_index.specs.Versions.{IsVersion, last_kind, IsDigest}
use Rattle.mail_index.specs.Limits.{four_byte_limit, most_in_archive, most_in_path}
use Rattle.mail_index.specs.OrderOfKeys.{key_cmp}

-- an archive: its path, its length in bytes, and the SHA-256 of its bytes, which version 1 doesn't have
pub record Archive : Type 0 where
  pub path : List ℕ
  pub length : ℕ
  pub digest : Option (List ℕ)

-- a key: a word or an id, and the numbers of the messages that have it
pub record Key : Type 0 where
  pub kind : Kind
  pub text : List ℕ
  pub numbers : List ℕ

-- what an index says: its version, archives, messages and keys
pub record Table : Type 0 where
  pub version : ℕ
  pub archives : List Archive
  pub messages : List Record
  pub keys : List Key

-- ---- which tables are well-formed

-- UTF-8 text within the limit, which isn't empty and has no line feed and no zero
pub record IsPath (path : List ℕ) : Type 0 where
  pub text : IsUtf8 path
  pub some : 0 < length path
  pub most : length path ≤ most_in_path
  pub one_line : AllByRecursion (λ b. (b ≢ 0x0A) × (b ≢ 0)) path

-- an archive with a path, a length within the limit, and a digest as the version has it
abbrev pub IsArchive : ℕ → Archive → Type 0
IsArchive version a = IsPath a.path × (a.length ≤ most_in_archive) × IsDigest version a.digest

-- the length of the archive of that number, or 0 if there is none
abbrev pub archive_length : List Archive → ℕ → ℕ
archive_length [] n = 0
archive_length (a ∷ rest) zero = a.length
archive_length (a ∷ rest) (suc n) = archive_length rest n

-- a message in one of these archives
pub record IsMessage (archives : List Archive) (m : Record) : Type 0 where
  pub exists : m.archive < length archives
  pub within : m.offset + m.length ≤ archive_length archives m.archive
  pub size : m.size < m.length
  pub date : IfSome m.date (FitsSigned w64)

-- n comes after m: in a later archive, or in the same one from the end of m on
abbrev pub Follows : Record → Record → Type 0
Follows m n = (m.archive < n.archive) ⊎ ((m.archive ≡ n.archive) × (m.offset + m.length ≤ n.offset))

-- R holds for each item and the next one
abbrev pub AllNext : {A : Type 0} → (A → A → Type 0) → List A → Type 0
AllNext R [] = Unit {0}
AllNext R (x ∷ []) = Unit {0}
AllNext R (x ∷ y ∷ ys) = R x y × AllNext R (y ∷ ys)

-- the first key comes before the second
abbrev pub KeyBefore : Key → Key → Type 0
KeyBefore a b = key_cmp (kind_number a.kind) a.text (kind_number b.kind) b.text ≡ Less

-- the numbers rise strictly, and none is below `low`
abbrev pub RisesFrom : ℕ → List ℕ → Type 0
RisesFrom low [] = Unit {0}
RisesFrom low (n ∷ ns) = (low ≤ n) × RisesFrom (suc n) ns

-- a key of one or more of `count` messages, with a kind of the version
pub record IsKey (version count : ℕ) (k : Key) : Type 0 where
  pub kind : kind_number k.kind ≤ last_kind version
  pub some_text : 0 < length k.text
  pub short : length k.text < four_byte_limit
  pub some_number : 0 < length k.numbers
  pub rises : RisesFrom 0 k.numbers
  pub below : AllByRecursion (λ n. n < count) k.numbers

-- a table that keeps all rules: its counts fit, its archives, messages and keys are valid, and messages and keys are in
-- order
pub record IsWellFormed (t : Table) : Type 0 where
  pub version : IsVersion t.version
  pub archive_count : length t.archives < four_byte_limit
  pub message_count : length t.messages < four_byte_limit
  pub key_count : length t.keys < four_byte_limit
  pub archives : AllByRecursion (IsArchive t.version) t.archives
  pub messages : AllByRecursion (IsMessage t.archives) t.messages
  pub in_order : AllNext Follows t.messages
  pub keys : AllByRecursion (IsKey t.version (length t.messages)) t.keys
  pub sorted : AllNext KeyBefore t.keys
