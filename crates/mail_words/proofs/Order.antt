-- The ranges of words are in the order of where they begin, and then of where they end.
use Rattle.mail_words.proofs.Imports.{ℕ, List, is_word_character, is_word_range, word_ranges}
use Rattle.std.proofs.Common.{chars}
use Rattle.contract_words.specs.Ranges.{ranges_from, AreInOrder}
use Rattle.contract_words.proofs.RangeOrder.{order-filter, order-ranges_from}

pub order-word_ranges : (text : List ℕ) → AreInOrder (word_ranges text)
order-word_ranges text = order-filter (is_word_range is_word_character (chars text)) (ranges_from 0 (chars text))
    (order-ranges_from 0 (chars text))
