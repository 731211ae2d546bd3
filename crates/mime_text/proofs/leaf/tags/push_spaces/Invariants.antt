-- The spaces added, with those that are left, are `count`. The loop ends because each turn leaves fewer.
use Rattle.mime_text.proofs.Words.{◌≡◌, ◌++◌, replicate, string_bytes}
use Rattle.mime_text.proofs.leaf.tags.push_spaces.Given as goal

-- the spaces written so far, and those that are left
abbrev pub invariant-loop-left : goal.invariant-loop-left
invariant-loop-left l = string_bytes l.into ++ replicate l.left 0x20
    ≡ string_bytes l.fn.into ++ replicate l.fn.count 0x20

abbrev pub decreases-loop-left : goal.decreases-loop-left
decreases-loop-left l = l.left
