-- Each turn copies one text, so there is a copy of each text so far, in order.
use Rattle.mairix_options.proofs.Words.{◌≡◌, map, take}
use Rattle.mairix_options.proofs.owned_text.Texts.of.Given as goal

-- the copies so far are those of the texts so far
abbrev pub invariant-loop-text : goal.invariant-loop-text
invariant-loop-text l = l.copies ≡ map (λ text. text.now) (take l.text-index l.texts)
