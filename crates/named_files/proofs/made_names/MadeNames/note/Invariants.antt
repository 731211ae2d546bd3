-- The next notes are the same with one more name.
use Rattle.std.specs.Prelude.{◌∷◌}
use Rattle.named_files.proofs.made_names.MadeNames.note.Given as goal

-- the names with the new one
abbrev pub ghost-next : goal.ghost-next
ghost-next g a = (a._text.now, g.agree) ∷ a.self.now.made
