-- `push_characters` adds ASCII as it is and a character for each other byte. A fault leaves a front of the text.
use Rattle.header_text.proofs.Words.{◌≡◌, ◌∙◌, ◌≤◌, ◌+◌, ◌-◌, ◌++◌, map, length, take, drop, slice_index, encode_utf8_all, ap, refl, arith, append_assoc, length-append, length-drop, length-take, string_bytes, encode_utf8, take_rest, lossy_chars, Extends-trans, Extends-append, Extends-tried, character}
use Rattle.header_text.proofs.WordLaws.CharacterLemmas.{characters-step, IsAscii-before, IsAscii-all, length-encode_small, lossy-ascii}
use Rattle.header_text.proofs.TextFronts.{front-more}
use Rattle.header_text.proofs.text.push_characters.Goals as goal

pub loop-at-preserved : goal.loop-at-preserved
loop-at-preserved c =
    let rest = c.loop-at.rest.now in
    let at = c.in-Some.at in
    let after : take (length rest - (at + 1)) (drop (at + 1) rest) ≡ drop (at + 1) rest = take_rest rest (at + 1) in
    let pushed : string_bytes c.push.new.self
    ≡ string_bytes c.push_lossy.new.into ++ encode_utf8 (character c.args.charset (slice_index rest at)) =
    grind arith in
    let step = characters-step c.args.charset rest (string_bytes c.loop-at.into) (string_bytes c.push_lossy.new.into)
    (string_bytes c.push.new.self) at
    c.in-Some.ensures.0.high (IsAscii-before rest at c.in-Some.ensures.0.before) c.in_ok-push_lossy.ensures.text pushed
    in
    let one : length (encode_utf8 c.character.result) ≤ 3 =
    grind (arith, length-encode_small) in
    let front : length (take at rest) ≤ at = omega (arith, length-take at rest) in
    let sizes = ap length c.in_ok-push.ensures.bytes
    ∙ length-append (string_bytes c.push_lossy.new.into) (encode_utf8 c.character.result) in
    let left = length-drop (at + 1) rest in
    record {
      sofar = rw after (step ∙ c.loop-at.invariant.sofar);
      size = grind arith;
      kept = Extends-append _ _ _ _ _ (Extends-trans _ _ _ c.loop-at.invariant.kept c.push_lossy.ensures.kept)
          c.push.ensures.bytes;
    }

pub returns-clause-text : goal.returns-clause-text
returns-clause-text c = grind (arith, IsAscii-all, lossy-ascii)

pub returns-in_err-push_lossy-clause-front : goal.returns-in_err-push_lossy-clause-front
returns-in_err-push_lossy-clause-front c =
    let rest = c.loop-at.rest.now in
    let at = c.in-Some.at in
    let some = string_bytes c.loop-at.into ++ encode_utf8_all (lossy_chars (take at rest)) in
    let one = encode_utf8 (character c.args.charset (slice_index rest at)) in
    let later = encode_utf8_all (map (character c.args.charset) (drop (at + 1) rest)) in
    let step = characters-step c.args.charset rest (string_bytes c.loop-at.into) some (some ++ one) at
    c.in-Some.ensures.0.high (IsAscii-before rest at c.in-Some.ensures.0.before) refl refl in
    grind (arith, append_assoc)

pub returns-in_err-push-clause-front : goal.returns-in_err-push-clause-front
returns-in_err-push-clause-front c =
    let rest = c.loop-at.rest.now in
    let at = c.in-Some.at in
    let before = string_bytes c.push_lossy.new.into in
    let some = before ++ encode_utf8 c.character.result in
    let later = encode_utf8_all (map (character c.args.charset) (drop (at + 1) rest)) in
    let step = characters-step c.args.charset rest (string_bytes c.loop-at.into) before some at c.in-Some.ensures.0.high
    (IsAscii-before rest at c.in-Some.ensures.0.before)
    c.in_ok-push_lossy.ensures.text (cc c.character.ensures.value) in
    front-more _ some later _ (Extends-tried before _ (encode_utf8 c.character.result) _ c.push.ensures.bytes)
    (step ∙ c.loop-at.invariant.sofar)

pub returns-clause-front : goal.returns-clause-front
returns-clause-front c = grind (arith, IsAscii-all, lossy-ascii)
