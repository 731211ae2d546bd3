-- `decode_text` decodes whole groups at once and other symbols one by one. Each step only adds at the end.
use Rattle.header_text.proofs.Words.{◌∙◌, ◌++◌, sym, arith, take_rest, Extends-trans, symbols_of}
use Rattle.header_text.proofs.WordLaws.GroupLemmas.{text-groups, text-other, sextet-other}
use Rattle.header_text.proofs.base64_reader.decode_text.Goals as goal

pub loop-first-preserved-then-count-gt0 : goal.loop-first-preserved-then-count-gt0
loop-first-preserved-then-count-gt0 c = record {
  sofar = λ later. grind (arith, take_rest, text-groups);
  kept = Extends-trans _ _ _ c.loop-first.invariant.kept (_, c.in_ok-decode_groups.ensures.bytes);
}

pub loop-first-preserved : goal.loop-first-preserved
loop-first-preserved c = record {
  sofar = λ later. cc (
    text-other (symbols_of c.loop-first.held) c.loop-first.rest.now c.in-Some.others.now
        c.in-Some.first.now c.in-Some.ensures.cases.0
        (sextet-other c.in-Some.first.now (omega arith) (sym c.is_symbol.ensures ∙ c.if-is_symbol.false)) later,
    c.loop-first.invariant.sofar later,
  );
  kept = c.loop-first.invariant.kept;
}
