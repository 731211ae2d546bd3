-- Placing this operand gives what placing the first one did. The loop ends because each turn takes one `not` away.
use Rattle.mail_query.proofs.Words.{◌≡◌, vec_len, query_of, shown_stack, shown_level, state_after_operand}
use Rattle.mail_query.proofs.boolean.reader.Reader.place.Given as goal

abbrev pub decreases-nots : goal.decreases-nots
decreases-nots l = vec_len l.self.waiting

abbrev pub invariant-nots : goal.invariant-nots
invariant-nots l =
    state_after_operand (shown_stack l.self.waiting.items) (shown_level l.self.level) (query_of l.node)
    ≡ state_after_operand (shown_stack l.fn.self.waiting.items) (shown_level l.fn.self.level) (query_of l.fn.node)
