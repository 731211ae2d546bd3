-- What a message itself says to a query.
use Rattle.std.specs.Prelude.{ℕ, Bool, true, false, List, [], ◌∷◌, map, flat_map, if◌then◌else◌, Option, Some, None}
use Rattle.header_text.specs.Headers.{fields_of}
use Rattle.mail_query.specs.Truth.{Facts}
use Rattle.mail_words.specs.declared.kind.TextKind.{TextKind}
use Rattle.mail_words.specs.declared.kind.TextKind.TheVariants as kind
use Rattle.mail_words.specs.Words.{words}
use Rattle.mail_words.specs.Folding.{folding}
use Rattle.mbox_cutter.specs.Archives.{Message, text, size}
use Rattle.mime_text.specs.MessageFacts.{facts_of}
use Rattle.mime_text.specs.Sinks.{Pair}
use Rattle.mime_text.specs.Texts.{texts_of_message}
use Rattle.index_job.specs.ArchiveTables.{date_in_field}

-- whether two kinds of text are the same
abbrev pub is_kind : TextKind → TextKind → Bool
is_kind kind.To kind.To = true
is_kind kind.Cc kind.Cc = true
is_kind kind.Bcc kind.Bcc = true
is_kind kind.From kind.From = true
is_kind kind.Subject kind.Subject = true
is_kind kind.Body kind.Body = true
is_kind kind.Name kind.Name = true
is_kind _ _ = false

-- the words of the texts of a kind, folded
abbrev pub words_of : TextKind → List Pair → List (List ℕ)
words_of kind texts = flat_map (λ p. if is_kind p.0 kind then map folding (words p.1) else []) texts

-- the id, if there is one
abbrev pub id_list : Option (List ℕ) → List (List ℕ)
id_list None = []
id_list (Some id) = id ∷ []

-- what a message itself says: the folded words of its own decoded texts, its own id, its date, size and flags
abbrev pub facts_of_message : Message → Facts
facts_of_message m = record {
  words = λ kind. words_of kind (texts_of_message (text m));
  own_ids = id_list (facts_of (fields_of (text m))).own_id;
  date = date_in_field (facts_of (fields_of (text m))).date_text;
  size = size m;
  flags = (facts_of (fields_of (text m))).flags;
}
