-- Folded words, one after another in memory.
use Rattle.std.specs.Prelude.{◌≡◌, ℕ, List, [], ◌∷◌, length, map, take, drop, string_bytes}
use Rattle.std.specs.List.{AllByRecursion, concat}
use Rattle.index_job.specs.declared.folding_room.FoldingRoom.{FoldingRoom}
use Rattle.index_job.specs.MessageTerms.{HasTermLength}

-- the bytes, cut from the front into parts of these lengths
abbrev pub parts_of_lengths : List ℕ → List ℕ → List (List ℕ)
parts_of_lengths [] bytes = []
parts_of_lengths (n ∷ ns) bytes = take n bytes ∷ parts_of_lengths ns (drop n bytes)

-- the room has exactly these folded words
pub record HoldsWords (room : FoldingRoom) (ws : List (List ℕ)) : Type 0 where
  pub bytes : string_bytes room.folded ≡ concat ws
  pub lengths : room.lengths.items ≡ map length ws
  pub sizes : AllByRecursion HasTermLength ws
