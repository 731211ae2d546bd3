-- Waiting lines of a body, which are still to be added to a builder.
use Rattle.std.specs.Prelude.{ℕ, List}
use Rattle.mail_index.specs.Builders.{Draft}
use Rattle.mail_words.specs.declared.kind.TextKind.TheVariants.{Body}
use Rattle.index_job.specs.Indexing.{draft_with_terms}
use Rattle.index_job.specs.MessageTerms.{word_terms}

-- the draft with the words of waiting lines added
abbrev pub with_waiting : List (List ℕ) → Draft → Draft
with_waiting ws d = draft_with_terms (word_terms Body ws) d
