-- What comes between two messages of a known archive.
use Rattle.index_job.proofs.Words.{ℕ, List, [], ◌∷◌, Option, None, Some, refl, arith, Message, CutFault, Start, Done, ComingEvents, TakesKnown, coming_ahead, Heads}
use Rattle.index_job.specs.declared.archive_reading.Heading.TheVariants as heading

-- if a message begins, it is the first of those that were to come
pub heads-message : (all : ℕ) (ms : Option (List Message)) (refusal : Option CutFault) (at : ℕ) (line : List ℕ)
    (new : Option ComingEvents)
    → TakesKnown (Start at line) (Some (coming_ahead all ms refusal)) new
    → Heads (heading.Message at) all ms refusal new
heads-message _ None _ _ _ _ (after, is, (events, same)) = absurd cc
heads-message _ (Some []) _ _ _ _ (after, is, (events, same)) = absurd cc
heads-message _ (Some (m ∷ later)) _ _ _ _ (after, is, (events, same)) = grind arith

-- if the archive ends, no message was to come, and nothing is refused
pub heads-end : (all : ℕ) (ms : Option (List Message)) (refusal : Option CutFault) (length : ℕ)
    (new : Option ComingEvents)
    → TakesKnown (Done length) (Some (coming_ahead all ms refusal)) new → Heads (heading.End length) all ms refusal new
heads-end _ None _ _ _ (after, is, (events, none, same)) = absurd cc
heads-end _ (Some (m ∷ ms)) _ _ _ (after, is, (events, none, same)) = absurd cc
heads-end _ (Some []) _ _ _ (after, is, (events, none, same)) = (refl, cc, none)
