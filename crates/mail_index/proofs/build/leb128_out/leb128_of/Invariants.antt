-- `more` groups of seven bits may come after the next.
use Rattle.mail_index.proofs.Words.{◌≡◌, ◌+◌, ◌++◌, ℕ, suc, length, IsShort, leb128}
use Rattle.mail_index.proofs.build.leb128_out.leb128_of.Given as goal

abbrev pub invariant-loop-rest : goal.invariant-loop-rest
invariant-loop-rest l = (more : ℕ) × (length l.bytes + more ≡ 4) × IsShort (suc more) l.rest
    × (l.bytes ++ leb128 (suc more) l.rest ≡ leb128 5 l.value)

abbrev pub decreases-loop-rest : goal.decreases-loop-rest
decreases-loop-rest l = l.rest
