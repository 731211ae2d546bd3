-- The limits of an index.
use Rattle.std.specs.Prelude.{ℕ, ◌^◌}

-- the most archives, messages and keys
abbrev pub most_in_index : ℕ
most_in_index = 2147483647

-- the most bytes of a key
abbrev pub most_in_key : ℕ
most_in_key = 262144

-- the most bytes of the path of an archive
abbrev pub most_in_path : ℕ
most_in_path = 4096

-- the most bytes of an archive
abbrev pub most_in_archive : ℕ
most_in_archive = 2 ^ 40

-- the numbers that a file has in four bytes are below this one
abbrev pub four_byte_limit : ℕ
four_byte_limit = 2 ^ 32
