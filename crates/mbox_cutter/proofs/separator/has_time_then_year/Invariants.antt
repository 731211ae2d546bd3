-- After a time, a year in the rest is enough; before it, the rest decides. The loop ends because the rest gets shorter.
use Rattle.mbox_cutter.proofs.Words.{◌≡◌, ◌&&◌, ◌||◌, length, list_any, has_time_then_year, separator_tokens, is_year}
use Rattle.mbox_cutter.proofs.separator.has_time_then_year.Given as goal

abbrev pub invariant-tokens : goal.invariant-tokens
invariant-tokens l = has_time_then_year (separator_tokens l.fn.text)
    ≡ ((l.timed && list_any is_year (separator_tokens l.rest)) || has_time_then_year (separator_tokens l.rest))

abbrev pub decreases-tokens : goal.decreases-tokens
decreases-tokens l = length l.rest
