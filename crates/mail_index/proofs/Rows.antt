-- Rows of index files; the bytes on the right come from a separate reading of the format.
use Rattle.std.proofs.Common.{◌≡◌, ℕ, List, [], ◌∷◌, map, refl, length, Some, None, true, false}
use Rattle.std.specs.Prelude.{codes, negsuc}
use Rattle.mail_words.specs.declared.kind.TextKind.TheVariants.{Subject, Body, Name}
use Rattle.mail_words.specs.declared.flags.Flags.{Flags}
use Rattle.mail_index.specs.declared.kind.Kind.TheVariants.{Text, LinkId}
use Rattle.mail_index.specs.Tables.{Table}
use Rattle.mail_index.specs.Postings.{leb128, postings}
use Rattle.mail_index.specs.Files.{body, record_bytes, entry_bytes}

abbrev pub nothing : Table
nothing = record { version = 2; archives = []; messages = []; keys = [] }

abbrev pub nothing_bytes : List ℕ
nothing_bytes =
    0x4d ∷ 0x41 ∷ 0x49 ∷ 0x52 ∷ 0x49 ∷ 0x58 ∷ 0x0d ∷ 0x0a ∷ 0 ∷ 0 ∷ 0 ∷ 2 ∷ 0 ∷ 0 ∷ 0 ∷ 0 ∷ 0 ∷ 0 ∷ 0 ∷ 0 ∷ 0 ∷ 0 ∷ 0 ∷
    0
    ∷ 0 ∷ 0 ∷ 0 ∷ 0 ∷ 0 ∷ 0 ∷ 0 ∷ 0 ∷ 0 ∷ 0 ∷ 0 ∷ 0 ∷ 0 ∷ 0 ∷ 0 ∷ 0 ∷ 0 ∷ 0 ∷ 0 ∷ 0 ∷ 0 ∷ 0 ∷ 0 ∷ 0 ∷ []

abbrev plain : Flags
plain = record { seen = false; replied = false; flagged = false }

abbrev pub hello : Table
hello = record {
  version = 1;
  archives = record { path = codes "m.mbox"; length = 58; digest = None } ∷ [];
  messages = record { archive = 0; offset = 0; length = 58; size = 19; date = None; flags = plain } ∷ [];
  keys = record { kind = Text Subject; text = codes "hello"; numbers = 0 ∷ [] } ∷ record
      { kind = Text Body; text = codes "hi"; numbers = 0 ∷ [] } ∷ [];
}

abbrev pub hello_bytes : List ℕ
hello_bytes =
    0x4d ∷ 0x41 ∷ 0x49 ∷ 0x52 ∷ 0x49 ∷ 0x58 ∷ 0x0d ∷ 0x0a ∷ 0 ∷ 0 ∷ 0 ∷ 1 ∷ 0 ∷ 0 ∷ 0 ∷ 1 ∷ 0 ∷ 0 ∷ 0 ∷ 1 ∷ 0 ∷ 0 ∷ 0 ∷
    2
    ∷ 0 ∷ 0 ∷ 0 ∷ 0 ∷ 0 ∷ 0 ∷ 0 ∷ 0x12 ∷ 0 ∷ 0 ∷ 0 ∷ 0 ∷ 0 ∷ 0 ∷ 0 ∷ 7 ∷ 0 ∷ 0 ∷ 0 ∷ 0 ∷ 0 ∷ 0 ∷ 0 ∷ 2
    ∷ 0 ∷ 0 ∷ 0 ∷ 0 ∷ 0 ∷ 0 ∷ 0 ∷ 0x3a ∷ 0 ∷ 0 ∷ 0 ∷ 6 ∷ 0x6d ∷ 0x2e ∷ 0x6d ∷ 0x62 ∷ 0x6f ∷ 0x78
    ∷ 0 ∷ 0 ∷ 0 ∷ 0 ∷ 0 ∷ 0 ∷ 0 ∷ 0 ∷ 0 ∷ 0 ∷ 0 ∷ 0 ∷ 0 ∷ 0 ∷ 0 ∷ 0 ∷ 0 ∷ 0 ∷ 0 ∷ 0 ∷ 0 ∷ 0 ∷ 0 ∷ 0x3a ∷ 0 ∷ 0 ∷ 0 ∷ 0 ∷
    0 ∷ 0 ∷ 0 ∷ 0x13 ∷ 0 ∷ 0 ∷ 0 ∷ 0 ∷ 0 ∷ 0 ∷ 0 ∷ 0
    ∷ 5 ∷ 0 ∷ 0 ∷ 0 ∷ 0 ∷ 0 ∷ 0 ∷ 5 ∷ 0 ∷ 0 ∷ 0 ∷ 0 ∷ 0 ∷ 0 ∷ 0 ∷ 0 ∷ 0 ∷ 0 ∷ 0 ∷ 0 ∷ 0 ∷ 0 ∷ 0 ∷ 0
    ∷ 6 ∷ 0 ∷ 0 ∷ 0 ∷ 0 ∷ 0 ∷ 0 ∷ 2 ∷ 0 ∷ 0 ∷ 0 ∷ 0 ∷ 0 ∷ 0 ∷ 0 ∷ 5 ∷ 0 ∷ 0 ∷ 0 ∷ 0 ∷ 0 ∷ 0 ∷ 0 ∷ 1
    ∷ 0x68 ∷ 0x65 ∷ 0x6c ∷ 0x6c ∷ 0x6f ∷ 0x68 ∷ 0x69 ∷ 1 ∷ 1 ∷ []

-- 32 different bytes
abbrev some_digest : List ℕ
some_digest =
    0xe0 ∷ 0xe1 ∷ 0xe2 ∷ 0xe3 ∷ 0xe4 ∷ 0xe5 ∷ 0xe6 ∷ 0xe7 ∷ 0xe8 ∷ 0xe9 ∷ 0xea ∷ 0xeb ∷ 0xec ∷ 0xed ∷ 0xee ∷ 0xef
    ∷ 0xf0 ∷ 0xf1 ∷ 0xf2 ∷ 0xf3 ∷ 0xf4 ∷ 0xf5 ∷ 0xf6 ∷ 0xf7 ∷ 0xf8 ∷ 0xf9 ∷ 0xfa ∷ 0xfb ∷ 0xfc ∷ 0xfd ∷ 0xfe ∷ 0xff ∷ []

-- the same table in version 2
abbrev pub new : Table
new = record hello {
  version = 2;
  archives =
      record { path = codes "m.mbox"; length = 58; digest = Some some_digest } ∷ [];
}

abbrev pub new_bytes : List ℕ
new_bytes =
    0x4d ∷ 0x41 ∷ 0x49 ∷ 0x52 ∷ 0x49 ∷ 0x58 ∷ 0x0d ∷ 0x0a ∷ 0 ∷ 0 ∷ 0 ∷ 2 ∷ 0 ∷ 0 ∷ 0 ∷ 1 ∷ 0 ∷ 0 ∷ 0 ∷ 1 ∷ 0 ∷ 0 ∷ 0 ∷
    2
    ∷ 0 ∷ 0 ∷ 0 ∷ 0 ∷ 0 ∷ 0 ∷ 0 ∷ 0x32 ∷ 0 ∷ 0 ∷ 0 ∷ 0 ∷ 0 ∷ 0 ∷ 0 ∷ 7 ∷ 0 ∷ 0 ∷ 0 ∷ 0 ∷ 0 ∷ 0 ∷ 0 ∷ 2
    ∷ 0 ∷ 0 ∷ 0 ∷ 0 ∷ 0 ∷ 0 ∷ 0 ∷ 0x3a ∷ 0 ∷ 0 ∷ 0 ∷ 6 ∷ 0x6d ∷ 0x2e ∷ 0x6d ∷ 0x62 ∷ 0x6f ∷ 0x78
    ∷ 0xe0 ∷ 0xe1 ∷ 0xe2 ∷ 0xe3 ∷ 0xe4 ∷ 0xe5 ∷ 0xe6 ∷ 0xe7 ∷ 0xe8 ∷ 0xe9 ∷ 0xea ∷ 0xeb ∷ 0xec ∷ 0xed ∷ 0xee ∷ 0xef
    ∷ 0xf0 ∷ 0xf1 ∷ 0xf2 ∷ 0xf3 ∷ 0xf4 ∷ 0xf5 ∷ 0xf6 ∷ 0xf7 ∷ 0xf8 ∷ 0xf9 ∷ 0xfa ∷ 0xfb ∷ 0xfc ∷ 0xfd ∷ 0xfe ∷ 0xff
    ∷ 0 ∷ 0 ∷ 0 ∷ 0 ∷ 0 ∷ 0 ∷ 0 ∷ 0 ∷ 0 ∷ 0 ∷ 0 ∷ 0 ∷ 0 ∷ 0 ∷ 0 ∷ 0 ∷ 0 ∷ 0 ∷ 0 ∷ 0 ∷ 0 ∷ 0 ∷ 0 ∷ 0x3a ∷ 0 ∷ 0 ∷ 0 ∷ 0 ∷
    0 ∷ 0 ∷ 0 ∷ 0x13 ∷ 0 ∷ 0 ∷ 0 ∷ 0 ∷ 0 ∷ 0 ∷ 0 ∷ 0
    ∷ 5 ∷ 0 ∷ 0 ∷ 0 ∷ 0 ∷ 0 ∷ 0 ∷ 5 ∷ 0 ∷ 0 ∷ 0 ∷ 0 ∷ 0 ∷ 0 ∷ 0 ∷ 0 ∷ 0 ∷ 0 ∷ 0 ∷ 0 ∷ 0 ∷ 0 ∷ 0 ∷ 0
    ∷ 6 ∷ 0 ∷ 0 ∷ 0 ∷ 0 ∷ 0 ∷ 0 ∷ 2 ∷ 0 ∷ 0 ∷ 0 ∷ 0 ∷ 0 ∷ 0 ∷ 0 ∷ 5 ∷ 0 ∷ 0 ∷ 0 ∷ 0 ∷ 0 ∷ 0 ∷ 0 ∷ 1
    ∷ 0x68 ∷ 0x65 ∷ 0x6c ∷ 0x6c ∷ 0x6f ∷ 0x68 ∷ 0x69 ∷ 1 ∷ 1 ∷ []

files : (body nothing ≡ nothing_bytes) × (body hello ≡ hello_bytes) × (length (body hello) ≡ 163)
    × (body new ≡ new_bytes) × (length (body new) ≡ 195)
files = (refl, refl, refl, refl, refl)

-- a second before 1970, and all flags; then entries of a name and of a link id
records : (record_bytes (record {
  archive = 258;
  offset = 1;
  length = 65536;
  size = 255;
  date = Some (negsuc 0);
  flags =
      record { seen = true; replied = true; flagged = true };
})
    ≡ 0 ∷ 0 ∷ 1 ∷ 2 ∷ 15 ∷ 0 ∷ 0 ∷ 0 ∷ 0 ∷ 0 ∷ 0 ∷ 0 ∷ 0 ∷ 0 ∷ 0 ∷ 1 ∷ 0 ∷ 0 ∷ 0 ∷ 0 ∷ 0 ∷ 1 ∷ 0 ∷ 0 ∷ 0 ∷ 0 ∷ 0 ∷ 0 ∷ 0
    ∷ 0 ∷ 0 ∷ 255
    ∷ 255 ∷ 255 ∷ 255 ∷ 255 ∷ 255 ∷ 255 ∷ 255 ∷ 255 ∷ [])
    × (entry_bytes 256 65535 (record { kind = Text Name; text = codes "pdf"; postings = 1 ∷ [] })
    ≡ 9 ∷ 0 ∷ 0 ∷ 0 ∷ 0 ∷ 0 ∷ 0 ∷ 3 ∷ 0 ∷ 0 ∷ 0 ∷ 0 ∷ 0 ∷ 0 ∷ 1 ∷ 0 ∷ 0 ∷ 0 ∷ 0 ∷ 0 ∷ 0 ∷ 0 ∷ 255 ∷ 255 ∷ [])
    × (entry_bytes 256 65535 (record { kind = LinkId; text = codes "a@b"; postings = 1 ∷ [] })
    ≡ 8 ∷ 0 ∷ 0 ∷ 0 ∷ 0 ∷ 0 ∷ 0 ∷ 3 ∷ 0 ∷ 0 ∷ 0 ∷ 0 ∷ 0 ∷ 0 ∷ 1 ∷ 0 ∷ 0 ∷ 0 ∷ 0 ∷ 0 ∷ 0 ∷ 0 ∷ 255 ∷ 255 ∷ [])
records = (refl, refl, refl)

-- the greatest difference is that of the number 2 ^ 32 - 1, if no number comes before it
numbers : (map (leb128 5) (300 ∷ 127 ∷ 128 ∷ []) ≡ (0xAC ∷ 2 ∷ []) ∷ (0x7F ∷ []) ∷ (0x80 ∷ 1 ∷ []) ∷ [])
    × (postings (0xFFFF_FFFF ∷ []) ≡ 0x80 ∷ 0x80 ∷ 0x80 ∷ 0x80 ∷ 0x10 ∷ [])
    × (postings (0 ∷ 2 ∷ 300 ∷ []) ≡ 1 ∷ 2 ∷ 0xAA ∷ 2 ∷ [])
numbers = (refl, refl, refl)
