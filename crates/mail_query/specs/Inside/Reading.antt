-- What private functions of the readers return.
use Rattle.std.specs.Prelude.{ℕ, true, Option, Some, None, option_map}
use Rattle.mail_words.specs.Words.{is_one_word, is_part_of_word}
use Rattle.mail_words.specs.Folding.{folding}
use Rattle.or_memory.specs.declared.or_memory.OrMemory.{OrMemory}
use Rattle.or_memory.specs.declared.or_memory.OrMemory.TheVariants.{Refused, Memory}
use Rattle.mail_query.specs.declared.fault.QueryFault.{QueryFault}
use Rattle.mail_query.specs.declared.fault.QueryFaultKind.{QueryFaultKind}
use Rattle.mail_query.specs.declared.kinds.Kinds.{Kinds}
use Rattle.mail_query.specs.declared.boolean.field.Field.{Field}
use Rattle.mail_query.specs.declared.boolean.field.Field.TheVariants as field
use Rattle.mail_query.specs.declared.mairix.forms.Target.{Target}
use Rattle.mail_query.specs.declared.mairix.forms.Target.TheVariants.{Words, OwnId}
use Rattle.mail_query.specs.BooleanTerms.{bare_kinds}
use Rattle.mail_query.specs.Kinds.{no_kinds, union}
use Rattle.mail_query.specs.Mairix.{Forms, id_forms, kinds_of_letter, some_if}

-- words of mail are looked for in texts of these kinds, with case folded
abbrev pub mail_forms : Kinds → Forms
mail_forms kinds = record {
  kinds = kinds;
  word = λ text. some_if (is_one_word text) (folding text);
  part = λ text. some_if (is_part_of_word text) (folding text);
}

-- the forms of what a pattern looks for: words or the own id
abbrev pub forms_of : Target → Forms
forms_of (Words kinds) = mail_forms kinds
forms_of OwnId = id_forms

-- these kinds and those of a letter; None if the letter names nothing
abbrev pub kinds_added : Kinds → ℕ → Option Kinds
kinds_added kinds letter = option_map (union kinds) (kinds_of_letter letter)

-- the kinds of text in which a term with this prefix is looked for
abbrev pub kinds_sought : Option Field → Kinds
kinds_sought None = bare_kinds
kinds_sought (Some field.From) = record no_kinds { from = true }
kinds_sought (Some field.To) = record no_kinds { to = true; cc = true; bcc = true }
kinds_sought (Some field.Subject) = record no_kinds { subject = true }
kinds_sought (Some field.Body) = record no_kinds { body = true }
kinds_sought (Some field.Id) = record no_kinds { own_id = true }
kinds_sought (Some field.Date) = no_kinds

-- the fault of the pattern or token with this number; lack of memory has no number
abbrev pub fault_with_number : ℕ → OrMemory QueryFaultKind → OrMemory QueryFault
fault_with_number number (Refused kind) = Refused (record { number = number; kind = kind })
fault_with_number number Memory = Memory
