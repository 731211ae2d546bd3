-- Each run replies as worked out by hand, from the rows.
use Rattle.mairix_tool.proofs.RowsReplies as shown
use Rattle.mairix_tool.proofs.worked_replies.replies_are_as_worked_by_hand.Goals as goal

pub returns-clause-raw : goal.returns-clause-raw
returns-clause-raw c = shown.raw

pub returns-clause-no_message : goal.returns-clause-no_message
returns-clause-no_message c = shown.no_message

pub returns-clause-mbox : goal.returns-clause-mbox
returns-clause-mbox c = shown.mbox

pub returns-clause-excerpt : goal.returns-clause-excerpt
returns-clause-excerpt c = shown.excerpt_row

pub returns-clause-negated : goal.returns-clause-negated
returns-clause-negated c = shown.negated

pub returns-clause-alone : goal.returns-clause-alone
returns-clause-alone c = shown.alone

pub returns-clause-threads : goal.returns-clause-threads
returns-clause-threads c = shown.threads

pub returns-clause-boolean : goal.returns-clause-boolean
returns-clause-boolean c = shown.boolean

pub returns-clause-bad_words : goal.returns-clause-bad_words
returns-clause-bad_words c = shown.bad_words

pub returns-clause-bad_query : goal.returns-clause-bad_query
returns-clause-bad_query c = shown.bad_query

pub returns-clause-no_mbox : goal.returns-clause-no_mbox
returns-clause-no_mbox c = shown.no_mbox

pub returns-clause-several : goal.returns-clause-several
returns-clause-several c = shown.several

pub returns-clause-folded : goal.returns-clause-folded
returns-clause-folded c = shown.folded

pub returns-clause-parts : goal.returns-clause-parts
returns-clause-parts c = shown.parts

pub returns-clause-bad_rcfile : goal.returns-clause-bad_rcfile
returns-clause-bad_rcfile c = shown.bad_rcfile
