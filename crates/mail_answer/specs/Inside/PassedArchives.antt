-- The archives of an index, some of which were passed.
use Rattle.std.specs.Prelude.{◌≡◌, ℕ, ◌-◌, ◌<◌, ◌^◌, List, length, drop}
use Rattle.mail_index.specs.Tables.{Archive, Table}
use Rattle.mail_answer.specs.Shapes.{path_at}

-- the table, and how many of its archives were passed
pub record Passed : Type 0 where
  pub table : Table
  pub passed : ℕ

-- the rest are the archives after the passed ones, and the last path is that of the last passed one
pub record ArePassed (archives : List Archive) (passed : ℕ) (rest : List Archive) (last : List ℕ) : Type 0 where
  pub few : length archives < 2 ^ 32
  pub after : rest ≡ drop passed archives
  pub path : 0 < passed → last ≡ path_at archives (passed - 1)
