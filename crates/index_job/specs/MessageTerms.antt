-- The terms of a message in an index: the folded words of its texts, its own id, and the ids that link it to others.
use Rattle.std.specs.Prelude.{ℕ, ◌≤◌, Bool, ◌&&◌, nat_eq, List, length, [], ◌∷◌, ◌++◌, map, flat_map, Option, Some}
use Rattle.std.specs.Prelude.{None}
use Rattle.std.specs.List.{list_any}
use Rattle.std.specs.Str.{bytes_eq}
use Rattle.header_text.specs.Headers.{fields_of}
use Rattle.mail_words.specs.declared.kind.TextKind.{TextKind}
use Rattle.mail_words.specs.Words.{words}
use Rattle.mail_words.specs.Folding.{folding}
use Rattle.mail_index.specs.declared.kind.Kind.{Kind}
use Rattle.mail_index.specs.declared.kind.Kind.TheVariants.{Text, OwnId, LinkId}
use Rattle.mail_index.specs.Kinds.{kind_number}
use Rattle.mime_text.specs.declared.header.facts.Facts.{Facts}
use Rattle.mime_text.specs.MessageFacts.{facts_of}
use Rattle.mime_text.specs.Sinks.{Pair}
use Rattle.mime_text.specs.Texts.{texts_of_message}

-- a folded word or an id, with its kind
abbrev pub Term : Type 0
Term = Kind × List ℕ

-- the word has 1 to 1,024 bytes, as each folded word has
abbrev pub HasTermLength : List ℕ → Type 0
HasTermLength word = (1 ≤ length word) × (length word ≤ 1024)

-- the terms of folded words from texts of this kind
abbrev pub word_terms : TextKind → List (List ℕ) → List Term
word_terms kind folded = map (λ w. (Text kind, w)) folded

-- the terms of a text: its words, folded
abbrev pub text_terms : Pair → List Term
text_terms p = map (λ w. (Text p.0, folding w)) (words p.1)

-- the term of a message's own id, if it has one
abbrev pub own_id_terms : Option (List ℕ) → List Term
own_id_terms None = []
own_id_terms (Some id) = (OwnId, id) ∷ []

-- the terms of ids that link a message to others
abbrev pub link_terms : List (List ℕ) → List Term
link_terms ids = map (λ id. (LinkId, id)) ids

-- the terms of the ids in a message's own header
abbrev pub id_terms : Facts → List Term
id_terms facts = own_id_terms facts.own_id ++ link_terms facts.ids

-- the terms of the message whose text has these lines
abbrev pub message_terms : List (List ℕ) → List Term
message_terms ls = flat_map text_terms (texts_of_message ls) ++ id_terms (facts_of (fields_of ls))

-- whether one of the terms has this kind and this text
abbrev pub has_term : Kind → List ℕ → List Term → Bool
has_term kind text terms = list_any (λ (t : Term). nat_eq (kind_number t.0) (kind_number kind) && bytes_eq text t.1)
    terms
