-- The numbers of an answer that are still to come.
use Rattle.std.specs.Prelude.{ℕ, List}
use Rattle.std.specs.Vec.Iter.{into_iter_items}
use Rattle.mail_answer.specs.declared.numbers.Source.{Source}
use Rattle.mail_answer.specs.declared.numbers.Source.TheVariants.{Walked, Listed}

-- the numbers that a source still has
abbrev pub to_come : Source → List ℕ
to_come (Walked cursor) = cursor.numbers
to_come (Listed numbers) = into_iter_items numbers
