-- The lines before the rest were given. The loop ends because each line makes the rest shorter.
use Rattle.mime_text.proofs.Words.{◌≡◌, ◌-◌, ◌≤◌, ◌++◌, length, drop, concat, length_before_feed, Gave, pairs_of_bytes}
use Rattle.mime_text.proofs.leaf.held_line.give_lines.Given as goal

-- the lines before the rest have been given
abbrev pub invariant-loop-len : goal.invariant-loop-len
invariant-loop-len g l = record {
  free : l.searched ≤ length_before_feed l.rest;
  few : l.searched ≤ 65536;
  fits : length l.rest ≤ length l.fn.bytes;
  rest : l.rest ≡ drop (length l.fn.bytes - length l.rest) l.fn.bytes;
  gave : Gave g.S.TextSink.takes g.S.TextSink.refuses (λ ls. pairs_of_bytes l.fn.texts (l.fn.bytes ++ concat ls))
      (λ ls. pairs_of_bytes l.texts (l.rest ++ concat ls)) l.fn.sink l.sink;
}

abbrev pub decreases-loop-len : goal.decreases-loop-len
decreases-loop-len g l = length l.rest
