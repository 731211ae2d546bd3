-- What a call leaves if it fails: a front of what it was to leave, or what was there before.
use Rattle.header_text.proofs.Words.{◌≡◌, ℕ, List, [], ◌++◌, length, take, sym, ◌∙◌, append_assoc, take_at, Extends, IsFront, arith}

-- a front of a part at the front is a front of the whole
pub front-more : (new some rest whole : List ℕ) → Extends new some → some ++ rest ≡ whole → Extends new whole
front-more new some rest whole h joined =
    grind (arith, append_assoc)

-- the added items are cut off
pub taken_back : {A : Type 0} (old new : List A) (start : ℕ) → IsFront old new → start ≡ length old → take start new
    ≡ old
taken_back {A} old new start h e = cc (h.1, take_at old h.0 start (sym e))
