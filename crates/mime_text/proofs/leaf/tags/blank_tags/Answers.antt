-- `blank_tags` blanks a text span by span, because a tag begins at the next `<` and ends at the next `>`.
use Rattle.mime_text.proofs.Words.{Some, None, ◌∷◌, sym, arith, rules, IsCut, IsCut-from, Lacks-from, span_end}
use Rattle.mime_text.proofs.TagReads.{cut_from_split, tags_read-start, tags_read-step, tags_read-end}
use Rattle.mime_text.proofs.leaf.tags.blank_tags.Goals as goal
use Rattle.mime_text.proofs.leaf.tags.blank_tags.Goals.{In_ok-push}

cut : (c : In_ok-push) → IsCut (span_end c.loop-span.is_open) c.loop-span.rest.now c.in-Some.span.now
    c.in-Some.after.now
cut c = IsCut-from (span_end c.loop-span.is_open) c.loop-span.rest.now c.in-Some.span.now c.in-Some.after.now
    (sym (cut_from_split c.loop-span.is_open _ c.loop-span.rest.now (Some (c.in-Some.span, c.in-Some.after))
    c.end_of_span.ensures c.in-Some.ensures.cases))

pub loop-span-init : goal.loop-span-init
loop-span-init c = (search rules, tags_read-start _ _ _ c.utf8.text)

pub loop-span-preserved : goal.loop-span-preserved
loop-span-preserved c = (
  search rules,
  tags_read-step _ _ _ _ _ _ _ _ _ _ c.loop-span.invariant.1 (cut c)
      c.in_ok-push_span.ensures c.in_ok-push.ensures.bytes,
)

pub returns : goal.returns
returns c =
    let blanked = tags_read-end _ _ _ _ _ _ _ c.loop-span.invariant.1
    (Lacks-from (span_end c.loop-span.is_open) c.loop-span.rest.now
    (sym (cut_from_split c.loop-span.is_open _ c.loop-span.rest.now None c.end_of_span.ensures
    c.in_default.ensures.cases))) c.in_ok-push_span-2.ensures in
    grind arith
