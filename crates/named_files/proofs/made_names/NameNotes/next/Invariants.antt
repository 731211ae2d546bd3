-- The next notes are those that the caller names.
use Rattle.named_files.proofs.made_names.NameNotes.next.Given as goal

-- these names
abbrev pub ghost-of : goal.ghost-of
ghost-of g a = g.said
