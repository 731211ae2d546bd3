-- The spans so far were added, and the rest is still to come. The loop ends because each span makes the rest shorter.
use Rattle.mime_text.proofs.Words.{length, string_bytes}
use denote.Text.{Utf8}
use denote.Shadow.{shadow}
use Rattle.mime_text.proofs.TagReads.{TagsRead}
use Rattle.mime_text.proofs.leaf.tags.blank_tags.Given as goal

abbrev pub invariant-loop-span : goal.invariant-loop-span
invariant-loop-span l = shadow (Utf8 l.rest)
    × TagsRead l.fn.text l.fn.open_before (string_bytes l.fn.into) (string_bytes l.into) l.is_open l.rest

abbrev pub decreases-loop-span : goal.decreases-loop-span
decreases-loop-span l = length l.rest
