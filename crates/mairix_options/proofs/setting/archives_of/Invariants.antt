-- Each turn adds one piece unless it is empty, so the names are the pieces so far without the empty ones.
use Rattle.mairix_options.proofs.Words.{◌≡◌, map, filter, length, nat_lt}
use Rattle.mairix_options.proofs.setting.archives_of.Given as goal

-- the names so far are the pieces so far, without empty ones
abbrev pub invariant-loop-name : goal.invariant-loop-name
invariant-loop-name l = l.names ≡ filter (λ text. nat_lt 0 (length text)) (map (λ piece. piece.now) l.yielded)
