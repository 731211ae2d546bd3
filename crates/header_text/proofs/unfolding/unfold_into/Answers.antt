-- `unfold_into` adds the unfolded body, because the blanks at its end are cut off last. What a failed call added is
-- taken back.
use Rattle.header_text.proofs.Words.{◌≤◌, ◌≡◌, take_rest, ◌∙◌, ◌++◌, arith, length-append}
use Rattle.header_text.proofs.Fronts.{take-before_blanks}
use Rattle.header_text.proofs.HeaderLaws.UnfoldSizes.{length-unfolded}
use Rattle.header_text.proofs.HeaderLaws.UnfoldLemmas.{unfolded-trimmed}
use Rattle.header_text.proofs.TextFronts.{taken_back}
use Rattle.header_text.proofs.unfolding.unfold_into.Goals as goal

pub returns-in-Err-clause-refused : goal.returns-in-Err-clause-refused
returns-in-Err-clause-refused c = grind (arith, taken_back)

pub returns-clause-text : goal.returns-clause-text
returns-clause-text c =
    grind (arith, length-append, take_rest, take-before_blanks, unfolded-trimmed)

pub returns-clause-size : goal.returns-clause-size
returns-clause-size c = let text = returns-clause-text c in grind (arith, length-append, length-unfolded)
