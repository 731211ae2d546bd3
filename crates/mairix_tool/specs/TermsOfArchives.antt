-- Which messages have a term, by the keys of a table.
use Rattle.std.specs.Prelude.{ℕ, Bool, List}
use Rattle.std.specs.List.{list_any}
use Rattle.std.specs.Str.{bytes_eq}
use Rattle.mail_answer.specs.TableFacts.{texts_with}
use Rattle.mail_index.specs.declared.kind.Kind.{Kind}
use Rattle.mail_index.specs.Tables.{Key}

-- whether one of the keys has this kind and this text, and the number among its numbers
abbrev pub has_number : Kind → List ℕ → ℕ → List Key → Bool
has_number kind text n keys = list_any (bytes_eq text) (texts_with kind n keys)
