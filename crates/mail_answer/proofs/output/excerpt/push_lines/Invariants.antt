-- The lines so far, and those of the names that still come.
use Rattle.mail_answer.proofs.Words.{◌≡◌, ℕ, List, ◌∷◌, ◌++◌, drop, flat_map, fields_of, excerpt_lines}
use Rattle.header_text.specs.HeldLines.{HasLines}
use Rattle.mail_answer.specs.Excerpts.{field_line}
use Rattle.mail_answer.proofs.output.excerpt.push_lines.Given as goal

abbrev pub invariant-loop-name : goal.invariant-loop-name
invariant-loop-name l = (ls : List (List ℕ)) → HasLines l.header ls
    → l.text.items ++ flat_map (λ name. field_line (fields_of ls) name.now) (drop l.name-index l.name-items)
    ≡ l.fn.text.items ++ l.path ++ 10 ∷ excerpt_lines (fields_of ls)
