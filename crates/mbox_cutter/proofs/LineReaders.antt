-- How the calls of a reader change the bytes to come.
use Rattle.mbox_cutter.proofs.Words.{still_known, IsSome, ◌≡◌, ℕ, ◌+◌, ◌-◌, ◌<◌, ◌≤◌, Bool, false, Result, List, ◌++◌, Option, Some, None, IfSome, IfOk, length, take, drop, append-nil, ap, ◌∙◌, arith, append_assoc, ReadConsumes, IsAtEnd, prepend_known, take-append-add, take-append-le, length-take-le, drop-append-le, Ghosts, line_end_of, first_length, BytesAhead, ReadsAfter, ReadsOn, Extends, TakesFirstLine}
use Rattle.std.proofs.lemmas.List.{length-append}
use borrow.Rule.Slice.PartMut.{put_mid}
use Rattle.mbox_cutter.specs.declared.device.DeviceFault.{DeviceFault}
use Rattle.mbox_cutter.proofs.FirstLines.{line_end-more, line_end-whole}
use Rattle.mbox_cutter.proofs.Parts.{take_front}

take_after : (front into post : List ℕ) (held n : ℕ) → length front ≡ held → n ≤ length into
    → take (held + n) (front ++ (into ++ post)) ≡ front ++ take n into
take_after front into post held n e h =
    grind (arith, take-append-add, take-append-le)

pub reads_after : (held : ℕ) (old new : Option (List ℕ)) (result : Result ℕ DeviceFault) (before into : List ℕ) →
    held < length before → length into ≡ length before - held → IfOk result (λ n. n ≤ length into)
    → ReadConsumes old new result into →
    ReadsAfter held old new result before (put_mid held (length before - held) before into)
reads_after held old new result before into h h2 h3 h4 = grind (arith, length-take-le, take_after, take_front)

-- the end of the line is in what was read
pub at_some : (skip n : ℕ) (u : List ℕ) (old now : Option (List ℕ)) → skip ≤ length u → Some n
    ≡ line_end_of (drop skip u) →
    IfSome old (λ b. prepend_known u now ≡ Some b) → IfSome old (λ b. n ≡ first_length (drop skip b))
at_some skip n u old now h h2 h3 = grind (arith, line_end-more, drop-append-le)

-- no byte is to come, so what was read is the line
pub at_end : (skip : ℕ) (u : List ℕ) (old now : Option (List ℕ)) → None ≡ line_end_of (drop skip u) → IsAtEnd now →
    IfSome old (λ b. prepend_known u now ≡ Some b) → IfSome old (λ b. length (drop skip u) ≡ first_length (drop skip b))
at_end skip u old now h h2 h3 = grind (arith, append-nil, line_end-whole)

pub known_taken : (n : ℕ) (u : List ℕ) (r : Option (List ℕ)) → n ≤ length u →
    IfSome (prepend_known u r) (λ b. prepend_known (drop n u) r ≡ Some (drop n b))
known_taken n u r h = grind (arith, drop-append-le)

pub line_taken : (n : ℕ) (u : List ℕ) (r : Option (List ℕ)) → n ≤ length u
    → IfSome (prepend_known u r) (λ b. take n u ≡ take n b)
line_taken n u r h = grind (arith, take-append-le)

pub Extends-join : (a b c : List ℕ) → Extends a b → Extends b c → Extends a c
Extends-join a b c h k = grind (arith, append_assoc)

pub length-Extends : (a b : List ℕ) → Extends a b → length a ≤ length b
length-Extends a b h = omega (arith, ap length h.1, length-append a h.0)

pub take-Extends : (n : ℕ) (a b : List ℕ) → n ≤ length a → Extends a b → take n b ≡ take n a
take-Extends n a b fits h = grind (arith, take-append-le)

-- one read after another
pub ReadsOn-join : {S : Type 0} (g : Ghosts S) (failed : Bool) (a b c : BytesAhead S) → ReadsOn g false a b
    → ReadsOn g failed b c → ReadsOn g failed a c
ReadsOn-join g failed a b c h k = record {
  source = grind arith;
  bytes = grind arith;
  keeps = Extends-join a.unread b.unread c.unread h.keeps k.keeps;
}

-- the first line of the bytes to come is the one that was found in what was read
pub takes_line : (before unread : List ℕ) (old new : Option (List ℕ)) (n : ℕ) → (IsSome new → IsSome old)
    → IfSome (still_known (prepend_known before old) new) (λ b. prepend_known unread new ≡ Some b)
    → IfSome (still_known (prepend_known before old) new) (λ b. n ≡ first_length b) → n ≤ length unread
    → IfSome (prepend_known (drop n unread) new) (λ after. (bytes : List ℕ) × (prepend_known before old ≡ Some bytes)
    × TakesFirstLine bytes n (take n unread) after)
takes_line before unread old new n h h2 h3 h4 = grind (arith, drop-append-le, take-append-le)
