-- `fold_evenly` has the folding of what it has read, piece by piece: a piece that folding keeps, then one character.
use Rattle.mail_words.proofs.Imports.{◌<◌, length-append, arith}
use Rattle.mail_words.proofs.EvenTexts.{folds-same, folds-piece, piece_boundary, folds-character, folds-uneven, folds-even, folds-end}
use Rattle.mail_words.proofs.even_text.fold_evenly.Goals as goal

pub split_at-requires : goal.split_at-requires
split_at-requires c = piece_boundary _ _ c.pieces.invariant.2.utf8 c.kept_len.ensures

pub returns-in_default-clause-is_even : goal.returns-in_default-clause-is_even
returns-in_default-clause-is_even c =
    let piece = folds-piece _ _ _ _ _ _ c.pieces.invariant.2 c.kept_len.ensures c.split_at.ensures.front
    c.split_at.ensures.back in
    grind (arith, folds-even)

pub returns-in_default-clause-exact : goal.returns-in_default-clause-exact
returns-in_default-clause-exact c _ =
    let piece = folds-piece _ _ _ _ _ _ c.pieces.invariant.2 c.kept_len.ensures c.split_at.ensures.front
    c.split_at.ensures.back in
    grind (arith, folds-end)

pub returns-in_default-even_folding-clause-is_even : goal.returns-in_default-even_folding-clause-is_even
returns-in_default-even_folding-clause-is_even c =
    let piece = folds-piece _ _ _ _ _ _ c.pieces.invariant.2 c.kept_len.ensures c.split_at.ensures.front
    c.split_at.ensures.back in
    grind (arith, folds-uneven)

pub pieces-preserved : goal.pieces-preserved
pieces-preserved c =
    let piece = folds-piece _ _ _ _ _ _ c.pieces.invariant.2 c.kept_len.ensures c.split_at.ensures.front
    c.split_at.ensures.back in
    let found = folds-same _ _ _ _ _ piece c.in_ok-push_str.ensures.bytes c.chars-left.ensures.rest in
    let next = folds-character _ _ _ _ _ _ found c.in-Some.ensures.steps.0 c.in-Some-even_folding.ensures.0
    c.in-Some-even_folding.ensures.1 in
    grind arith

pub returns-in_err-push-clause-full : goal.returns-in_err-push-clause-full
returns-in_err-push-clause-full c =
    let piece = folds-piece _ _ _ _ _ _ c.pieces.invariant.2 c.kept_len.ensures c.split_at.ensures.front
    c.split_at.ensures.back in
    let found = folds-same _ _ _ _ _ piece c.in_ok-push_str.ensures.bytes c.chars-left.ensures.rest in
    let next = folds-character _ _ _ _ _ _ found c.in-Some.ensures.steps.0 c.in-Some-even_folding.ensures.0
    c.in-Some-even_folding.ensures.1 in
    grind (arith, length-append)
