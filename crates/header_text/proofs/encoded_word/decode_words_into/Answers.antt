-- `decode_words_into` adds the text of a value word by word. A fault leaves a front of it, because each step adds at
-- the end.
use Rattle.header_text.proofs.Words.{◌∙◌, ◌++◌, true, refl, arith, append_assoc, string_bytes, Extends-refl, Extends-trans, value_pieces, word_text, shown_found}
use Rattle.header_text.proofs.WordLaws.DecodedLemmas.{rest_text, decoded-start, decoded-step}
use Rattle.header_text.proofs.TextFronts.{front-more}
use Rattle.header_text.proofs.encoded_word.decode_words_into.Goals as goal

pub loop-found-init : goal.loop-found-init
loop-found-init c = grind (arith, decoded-start, Extends-refl)

pub loop-found-preserved : goal.loop-found-preserved
loop-found-preserved c = record {
  sofar = decoded-step c.loop-found.follows_word (shown_found c.in-Some.found) (value_pieces c.loop-found.rest.now)
      c.in-Some.found.later.now (string_bytes c.loop-found.into)
      (string_bytes c.push_between.new.into) (string_bytes c.push_word.new.into) c.in-Some.ensures.pieces
      c.in_ok-push_between.ensures.text c.in_ok-push_word.ensures.text
      ∙ c.loop-found.invariant.sofar;
  size = omega (
    arith,
    c.in-Some.ensures.smaller,
    c.in_ok-push_between.ensures.size,
    c.in_ok-push_word.ensures.size,
    c.loop-found.invariant.size,
  );
  kept = Extends-trans _ _ _ (Extends-trans _ _ _ c.loop-found.invariant.kept c.push_between.ensures.kept)
      c.push_word.ensures.kept;
}

pub returns-in_err-push_between-clause-kept : goal.returns-in_err-push_between-clause-kept
returns-in_err-push_between-clause-kept c = Extends-trans _ _ _ c.loop-found.invariant.kept c.push_between.ensures.kept

pub returns-in_err-push_word-clause-kept : goal.returns-in_err-push_word-clause-kept
returns-in_err-push_word-clause-kept c =
    Extends-trans _ _ _ (Extends-trans _ _ _ c.loop-found.invariant.kept c.push_between.ensures.kept)
    c.push_word.ensures.kept

pub returns-clause-kept : goal.returns-clause-kept
returns-clause-kept c = Extends-trans _ _ _ c.loop-found.invariant.kept c.push_lossy.ensures.kept

pub returns-in_err-push_between-clause-front : goal.returns-in_err-push_between-clause-front
returns-in_err-push_between-clause-front c = grind (arith, append_assoc, rest_text, decoded-step, front-more)

pub returns-in_err-push_word-clause-front : goal.returns-in_err-push_word-clause-front
returns-in_err-push_word-clause-front c =
    let found = shown_found c.in-Some.found in
    let before = string_bytes c.push_between.new.into in
    let some = before ++ word_text found.word in
    let step = decoded-step c.loop-found.follows_word found (value_pieces c.loop-found.rest.now)
    c.in-Some.found.later.now
    (string_bytes c.loop-found.into) before some
    c.in-Some.ensures.pieces c.in_ok-push_between.ensures.text refl in
    front-more _ some (rest_text true (value_pieces c.in-Some.found.later.now)) _ c.push_word.ensures.front
    (step ∙ c.loop-found.invariant.sofar)
