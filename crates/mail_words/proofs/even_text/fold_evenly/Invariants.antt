-- The text before the rest folds evenly, and `into` has its folding. The loop ends because the rest gets shorter.
use Rattle.mail_words.proofs.Imports.{◌≤◌, length, string_bytes}
use denote.Text.{Utf8}
use denote.Shadow.{shadow}
use Rattle.std.specs.String.{string_capacity}
use Rattle.mail_words.proofs.EvenTexts.{FoldsSoFar}
use Rattle.mail_words.proofs.even_text.fold_evenly.Given as goal

abbrev pub invariant-pieces : goal.invariant-pieces
invariant-pieces l =
    shadow (Utf8 l.rest) × (string_capacity l.fn.into ≤ string_capacity l.into)
    × FoldsSoFar l.fn.text (string_bytes l.into) l.rest

abbrev pub decreases-pieces : goal.decreases-pieces
decreases-pieces l = length l.rest
