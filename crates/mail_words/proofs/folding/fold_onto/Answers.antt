-- `fold_onto` adds the folding of a word, character by character or, if the word keeps all, as it is. What a failed
-- call added is taken back.
use Rattle.mail_words.proofs.Imports.{◌≡◌, ◌+◌, ◌≤◌, ◌++◌, List, ℕ, length, encode_utf8, string_bytes, ap, ◌∙◌, arith, length-append, folding}
use Rattle.std.proofs.Common.{Global, String, string_len}
use Rattle.std.proofs.lemmas.List.{take_all, take-append-le}
use Rattle.std.proofs.lemmas.Str.{IsCharBoundary-from_take, IsUtf8-had}
use Rattle.mail_words.proofs.FoldingLemmas.{length-folding, folding-same, folding_some, folds_from_start, folds_further, folds_to_end, folds_within}
use Rattle.mail_words.proofs.folding.fold_onto.Goals as goal

-- the text grew by the length of the folding
grown : (old new : String Global) (word : List ℕ) → string_bytes new ≡ string_bytes old ++ folding word → string_len new
    ≡ string_len old + length (folding word)
grown old new word is = omega (
  arith,
  ap length is,
  length-append (string_bytes old) (folding word),
  old.bytes.ok.0,
  new.bytes.ok.0,
)

pub returns-then-keeps_all-clause-exact : goal.returns-then-keeps_all-clause-exact
returns-then-keeps_all-clause-exact c = grind (arith, folding-same)

pub returns-then-keeps_all-clause-full : goal.returns-then-keeps_all-clause-full
returns-then-keeps_all-clause-full c = grind (arith, folding-same)

pub loop-c-init : goal.loop-c-init
loop-c-init c =
    let old = string_bytes c.args.into.now in
    let whole : length old ≤ c.len-start.result = omega (arith, c.args.into.now.bytes.ok.0) in
    record {
      folds = rw c.into_iter-c-iterator.ensures.into_iter_gives
          (folds_from_start _ _ _ _ c.utf8.word c.chars.ensures.rest c.default_case_fold-c-items.ensures.text);
      roomy = omega arith;
      kept = take_all c.len-start.result old whole;
      within = omega (arith, c.args.into.now.bytes.ok.0);
    }

pub loop-c-preserved : goal.loop-c-preserved
loop-c-preserved c =
    grind (arith, folds_further, take-append-le)

pub truncate-requires : goal.truncate-requires
truncate-requires c =
    grind (arith, IsUtf8-had, IsCharBoundary-from_take)

pub returns-in-Err-clause-full : goal.returns-in-Err-clause-full
returns-in-Err-clause-full c =
    let all : List ℕ = string_bytes c.args.into.now ++ folding c.args.word.now in
    let inv = c.loop-c.invariant in
    let within : length (string_bytes c.loop-c.into ++ encode_utf8 c.in-Some.c) ≤ length all =
    folds_within _ _ _ (folds_further _ _ _ _ _ inv.folds c.in-Some.ensures.steps) in
    omega (
      arith,
      c.in-Err.ensures.full,
      inv.roomy,
      length-append (string_bytes c.loop-c.into) (encode_utf8 c.in-Some.c),
      length-append (string_bytes c.args.into.now) (folding c.args.word.now),
      c.args.into.now.bytes.ok.0,
    )

pub returns-clause-exact : goal.returns-clause-exact
returns-clause-exact c = folds_to_end _ _ _ _ c.loop-c.invariant.folds c.in-None.ensures.steps

pub returns-clause-of_word : goal.returns-clause-of_word
returns-clause-of_word c =
    λ word.
    let written = grown c.args.into.now c.loop-c.into c.args.word.now (returns-clause-exact c)
    in grind (arith, folding_some, length-folding)

pub returns-clause-bound : goal.returns-clause-bound
returns-clause-bound c = omega (
  arith,
  grown c.args.into.now c.loop-c.into c.args.word.now (returns-clause-exact c),
  length-folding c.args.word.now c.utf8.word,
)
