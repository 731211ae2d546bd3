-- No parameter so far has the name, so those that are left decide. The loop ends because each piece makes the rest
-- shorter.
use Rattle.mime_text.proofs.Words.{◌≡◌, suc, length, option_map, option_map_or, first_named, parameters_after, parameter}
use Rattle.mime_text.proofs.parts.parameter.read_parameter.Given as goal

-- no parameter so far had the name, so those that are left decide
abbrev pub invariant-loop-rest : goal.invariant-loop-rest
invariant-loop-rest l = first_named l.name (parameters_after (option_map (λ rest. rest.now) l.rest))
    ≡ parameter l.name l.fn.value

abbrev pub decreases-loop-rest : goal.decreases-loop-rest
decreases-loop-rest l = option_map_or (λ rest. suc (length rest)) (option_map (λ rest. rest.now) l.rest) 0
