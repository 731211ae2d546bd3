-- What was gathered of a message so far, and the faults of gathering.
use Rattle.std.specs.Prelude.{◌≡◌, ⊤, ℕ, List, flat_map}
use Rattle.mail_index.specs.Builders.{Draft}
use Rattle.mime_text.specs.declared.message_text.MessageText.{MessageText}
use Rattle.mime_text.specs.Sinks.{Pair}
use Rattle.mime_text.specs.Fed.{Fed}
use Rattle.index_job.specs.declared.job_fault.JobFault.{JobFault}
use Rattle.index_job.specs.declared.job_fault.JobFault.TheVariants.{Cut, OutOfMemory, TooMany, Failed}
use Rattle.index_job.specs.Indexing.{draft_with_terms, RefusesTerms, IsOpenAt}
use Rattle.index_job.specs.MessageTerms.{text_terms}

-- the draft with the terms of these texts
abbrev pub with_texts : List Pair → Draft → Draft
with_texts ps d = draft_with_terms (flat_map text_terms ps) d

-- the reader was given these lines, and the texts that they have so far were added to the draft
pub record HasGathered (text : MessageText) (builder draft : Draft) (ls : List (List ℕ)) : Type 0 where
  pub pairs : List Pair
  pub fed : Fed text ls pairs
  pub added : builder ≡ with_texts pairs draft

-- lines of a message were gathered, and this message of the archive with this number is open, at this place or after it
abbrev pub IsGatheringMessage : ℕ → ℕ → MessageText → Draft → Type 0
IsGatheringMessage archive place text builder = (d : Draft) × (ls : List (List ℕ)) × HasGathered text builder d ls
    × IsOpenAt archive place d

-- a fault of gathering; `whole` is the draft with all that is gathered
abbrev pub IsGatherFault : Draft → JobFault → Type 0
IsGatherFault whole (Cut fault) = ⊥
IsGatherFault whole OutOfMemory = ⊤
IsGatherFault whole TooMany = RefusesTerms whole
IsGatherFault whole Failed = ⊥
