-- `push_list` adds the messages of one list.
use Rattle.mail_answer.proofs.CursorLaws.Texts.{joins_list}
use Rattle.mail_answer.proofs.cursor.texts.push_list.Goals as goal

pub returns : goal.returns
returns c =
    joins_list _ _ _ _ _ c.requires
    c.new.ensures.truths c.new.ensures.left c.in_ok-push.ensures.items
