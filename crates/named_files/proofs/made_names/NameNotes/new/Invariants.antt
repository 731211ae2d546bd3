-- At first no name is made.
use Rattle.std.specs.Prelude.{[]}
use Rattle.named_files.proofs.made_names.NameNotes.new.Given as goal

-- no names
abbrev pub ghost-of : goal.ghost-of
ghost-of a = []
