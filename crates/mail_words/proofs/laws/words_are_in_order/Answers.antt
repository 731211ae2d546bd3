-- Words are in the order of where they begin, and then of where they end: `order-word_ranges`, for the ranges of a
-- text.
use Rattle.mail_words.proofs.Order.{order-word_ranges}
use Rattle.mail_words.proofs.laws.words_are_in_order.Goals as goal

pub returns : goal.returns
returns c text = order-word_ranges text
