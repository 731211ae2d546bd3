-- `Ending::with_bytes` reads only the bytes after the last LF that isn't the last byte, because those before make no
-- difference.
use Rattle.mail_answer.proofs.Words.{◌≡◌, ◌∙◌, ◌+◌, ◌-◌, ◌<◌, ◌≤◌, ◌==◌, true, ℕ, List, [], ◌∷◌, ◌++◌, length, get_or, take, drop, drop-cons, add-one, append_assoc, ap, sym, arith, eqb-true, take-append-drop, take_rest, get_or-take, ending_of_bytes}
use Rattle.std.proofs.lemmas.List.{length-take, length-drop}
use Rattle.mail_answer.proofs.OutputLaws.Endings.{ending_after}
use Rattle.mail_answer.proofs.output.ending.Ending.with_bytes.Goals as goal

-- an LF at this place, and the bytes after it
split_at : (bytes : List ℕ) (at most : ℕ) → at < most → most ≤ length bytes → (get_or (take most bytes) at 0 == 10)
    ≡ true → bytes ≡ take at bytes ++ 10 ∷ drop (at + 1) bytes
split_at bytes at most lt le is = grind (arith, get_or-take, eqb-true, take-append-drop, drop-cons, add-one)

pub returns-in-Some : goal.returns-in-Some
returns-in-Some c =
    λ bytes is.
    let more = c.args.more.now in
    let at = c.in-Some.at in
    let most = c.saturating_sub-most.result in
    let low = c.in-Some.ensures.0.high in
    let after = take_rest more (at + 1) in
    let before : at < most = omega (arith, low, length-take most more) in
    let split =
    split_at _ at most before (omega arith) c.in-Some.ensures.1 in
    c.with_each.ensures [] c.new.ensures ∙ ap ending_of_bytes after
    ∙ sym (ending_after _ _
    (omega (arith, before, length-drop (at + 1) more)))
    ∙ ap ending_of_bytes (append_assoc bytes (take at more) (10 ∷ drop (at + 1) more)
    ∙ ap (λ l. bytes ++ l) (sym split))
