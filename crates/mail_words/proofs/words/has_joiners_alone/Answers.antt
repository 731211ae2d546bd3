-- All characters are joiners exactly if all bytes are, because each joiner is a character of one byte.
use Rattle.mail_words.proofs.Imports.{ap, ◌∙◌, list_all, is_joiner}
use Rattle.mail_words.proofs.Characters.{joiners-bytes, none-before}
use Rattle.mail_words.proofs.words.has_joiners_alone.Goals as goal

pub returns : goal.returns
returns c =
    let told = c.len_before_joiners.ensures in
    none-before _ _ told.within told.joiners told.last ∙ ap (list_all is_joiner) c.as_bytes.ensures.value
    ∙ joiners-bytes c.args.text.now c.utf8.text
