-- `send_parts` writes its parts as one text, part by part.
use Rattle.std.proofs.Common.{arith}
use Rattle.mail_index.proofs.Words.{◌≡◌, ℕ, ◌+◌, ◌<◌, List, [], ◌++◌, length, map, drop, get_or, Bor, ap, concat}
use Rattle.mail_index.proofs.BuildLaws.SigningLemmas.{signing-next, signing-stop, from-place}
use Rattle.mail_index.proofs.build.file_out.send_parts.Goals as goal

-- the bytes of these parts
abbrev told : List (Bor (List ℕ)) → List ℕ
told parts = concat (map (λ p. p.now) parts)

abbrev nothing : Bor (List ℕ)
nothing = record { ref_ptr = (0, 0); now = [] }

front : (parts : List (Bor (List ℕ))) (i : ℕ) → i < length parts → told (drop i parts)
    ≡ (get_or parts i nothing).now ++ told (drop (i + 1) parts)
front parts i low = ap told (from-place _ i _ low)

pub returns-in_err-send_signed-clause-written : goal.returns-in_err-send_signed-clause-written
returns-in_err-send_signed-clause-written g c =
    signing-stop _ _ _ _ _ c.from_residual.ensures.0 c.loop-part.invariant.0 (front _ _ c.loop-part-test.true)
    c.in_err-send_signed.ensures.written

pub loop-part-preserved : goal.loop-part-preserved
loop-part-preserved g c = grind (arith, signing-next, front)
