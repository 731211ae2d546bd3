-- Laws of bytes that were sent, whether it is known what the device has taken or not.
use Rattle.std.proofs.Common.{◌≡◌, ℕ, ◌-◌, List, [], ◌++◌, length, take, drop, Option, append_assoc, append-nil, arith}
use Rattle.std.proofs.lemmas.List.{take-append-drop}
use Rattle.std.proofs.lemmas.Grind.{common_steps}
use Rattle.std.specs.Io.KnownBytes.{Appends}
use Rattle.contract_words.specs.Devices.{Sends}

pub appends-nil : (a : Option (List ℕ)) → Appends a a []
appends-nil a = grind (arith, append-nil)

-- what was appended in two steps is appended as a whole
pub appends_join : (a b c : Option (List ℕ)) (x y : List ℕ) → Appends a b x → Appends b c y → Appends a c (x ++ y)
appends_join a b c x y h h2 = grind (arith, append_assoc)

-- if a front was sent, and then a front of the rest, then a front of the whole was sent
pub sends_more : (a b d : Option (List ℕ)) (whole sent next left : List ℕ) → whole ≡ sent ++ (next ++ left)
    → Appends a b sent → Sends b d next → Sends a d whole
sends_more a b d whole sent next left h s m = grind (arith, append_assoc, appends_join)

-- a slice up to the end of a list is the tail of the list
pub tail_slice : (n : ℕ) (rest : List ℕ) → take (length rest - n) (drop n rest) ≡ drop n rest
tail_slice n rest = grind (arith, common_steps)

-- n more bytes were sent
pub send_step : (bytes sent rest : List ℕ) (n : ℕ) → bytes ≡ sent ++ rest → bytes
    ≡ (sent ++ take n rest) ++ take (length rest - n) (drop n rest)
send_step bytes sent rest n h = grind (arith, take-append-drop, append_assoc, tail_slice)
