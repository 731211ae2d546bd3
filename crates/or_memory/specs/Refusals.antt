-- Which errors of a reader are refusals, and so are given by definitions: all but lack of memory.
use Rattle.std.specs.Prelude.{Option, Some, None, Result, IfErr, IfSome}
use Rattle.or_memory.specs.declared.or_memory.OrMemory.{OrMemory}
use Rattle.or_memory.specs.declared.or_memory.OrMemory.TheVariants.{Refused, Memory}

-- the refusal, which depends only on what is read; lack of memory is none
abbrev pub refusal : {E : Type 0} → OrMemory E → Option E
refusal (Refused fault) = Some fault
refusal Memory = None

-- P holds of the refusal, if there is one
abbrev pub IfRefused : {A E : Type 0} → Result A (OrMemory E) → (E → Type 0) → Type 0
IfRefused result P = IfErr result (λ given. IfSome (refusal given) P)
