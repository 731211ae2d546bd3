-- The parameters are those of the pieces, and no others are, because each piece has one result and is shorter than its
-- text.
use Rattle.mime_text.proofs.Words.{after_semicolon}
use Rattle.mime_text.proofs.ParameterLaws.{are_parameters, only_parameters}
use Rattle.mime_text.proofs.law.parameters_are_of_pieces.Goals as goal

pub returns-clause-some : goal.returns-clause-some
returns-clause-some c value = are_parameters (after_semicolon value)

pub returns-clause-only : goal.returns-clause-only
returns-clause-only c value ps = only_parameters (after_semicolon value) ps
