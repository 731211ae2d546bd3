-- `has_time_then_year` looks for a time and then for a year, piece by piece; the last piece has no space after it.
use Rattle.mbox_cutter.proofs.Words.{◌≡◌, Bool, true, false, ◌&&◌, ◌∷◌, drop, refl, ◌∙◌, separator_tokens, arith}
use Rattle.mbox_cutter.proofs.Tokens.{tokens-split, tokens-none}
use Rattle.mbox_cutter.proofs.separator.has_time_then_year.Goals as goal

pub tokens-preserved : goal.tokens-preserved
tokens-preserved c =
    let e : separator_tokens c.tokens.rest.now
    ≡ c.split_at.result.0.now ∷ separator_tokens c.split_at-in-Some.result.1.now =
    tokens-split c.tokens.rest.now c.split_at.result.0.now c.split_at.result.1.now c.split_at-in-Some.result.1.now
    c.in-Some.end c.in-Some.ensures c.split_at.ensures.front c.split_at.ensures.back c.split_at-in-Some.ensures.back
    in
    grind arith

pub returns-then-is_year : goal.returns-then-is_year
returns-then-is_year c =
    let e : separator_tokens c.tokens.rest.now
    ≡ c.split_at.result.0.now ∷ separator_tokens (drop 1 c.split_at.result.1.now) =
    tokens-split c.tokens.rest.now c.split_at.result.0.now c.split_at.result.1.now (drop 1 c.split_at.result.1.now)
    c.in-Some.end c.in-Some.ensures c.split_at.ensures.front c.split_at.ensures.back refl in
    grind arith

one : {b y r : Bool} → b ≡ true → r ≡ y → (b && y) ≡ r
one e f = rw (e, f) refl

none : {b : Bool} (y : Bool) → b ≡ false → (b && y) ≡ false
none y e = rw e refl

pub returns-in-None : goal.returns-in-None
returns-in-None c = grind (arith, tokens-none, one)

pub returns-in-None-2 : goal.returns-in-None-2
returns-in-None-2 c = grind (arith, tokens-none)
