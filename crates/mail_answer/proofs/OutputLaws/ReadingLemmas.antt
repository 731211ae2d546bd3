-- A read of an archive gives the bytes of a part that come first, and leaves those after them.
use Rattle.mail_answer.proofs.Words.{◌≡◌, ℕ, ◌+◌, ◌-◌, ◌<◌, ◌≤◌, List, [], ◌∷◌, ◌++◌, Some, Result, Ok, Err, IfOk, length, take, drop, refl, subst, ap, ◌∙◌, arith, take-append-add, take-append-le, drop-drop, DeviceFault, archive_at, IsReadFromArchive, Reading, ReadsTail, IsInsideArchive, Ghosts}
use Rattle.std.proofs.Math.Seq.{take-add}
use Rattle.std.proofs.lemmas.List.{length-take-le, length-drop}
use Rattle.mail_answer.specs.Archives.{bytes_of_read}
use borrow.Rule.Slice.PartMut.{put_mid}

take_after : (front into post : List ℕ) (held n : ℕ) → length front ≡ held → n ≤ length into
    → take (held + n) (front ++ (into ++ post)) ≡ front ++ take n into
take_after front into post held n e h =
    rw (← e) (take-append-add _ _ n ∙ ap (λ s. front ++ s) (take-append-le n into post h))

pub tail_read : {A : Type 0} (g : Ghosts A) (archive offset from n k : ℕ) (before after : A) (old into : List ℕ)
    → from < length old → n ≤ length into → IsReadFromArchive archive offset (take n into) (g.held after)
    → g.reads before archive offset (Ok (take n into)) after
    → ReadsTail g archive offset from n before after old (put_mid from k old into)
tail_read =
    grind (arith, take_after, length-take-le)

pub tail_result : {A : Type 0} (g : Ghosts A) (archive offset from k : ℕ) (before after : A) (old into : List ℕ)
    (r : Result ℕ DeviceFault) → from < length old → IfOk r (λ n. n ≤ length into)
    → IfOk r (λ n. IsReadFromArchive archive offset (take n into) (g.held after))
    → g.reads before archive offset (bytes_of_read r into) after
    → IfOk r (λ n. ReadsTail g archive offset from n before after old (put_mid from k old into))
tail_result g archive offset from k before after old into (Ok n) room bound r told =
    tail_read g _ _ _ n k _ _ _ _ room bound r told
tail_result g archive offset from k before after old into (Err fault) room bound r told = tt

-- a read of no bytes gave none
pub tail_none : {A : Type 0} (g : Ghosts A) (archive offset from count : ℕ) (before after : A) (old new : List ℕ)
    → ReadsTail g archive offset from count before after old new → count ≡ 0
    → g.reads before archive offset (Ok []) after
tail_none g archive offset from count before after old new tail none =
    subst (λ bytes. g.reads before archive offset (Ok bytes) after)
    (empty _ (tail.number ∙ none)) tail.told
  where
    empty : (l : List ℕ) → length l ≡ 0 → l ≡ []
    empty [] long = refl
    empty (x ∷ xs) long = absurd (omega (arith, long))

-- the bytes of a part are those of its first piece and those after them
pub piece_first : (bytes : List ℕ) (next left n : ℕ) → n ≤ left
    → take left (drop next bytes) ≡ take n (drop next bytes) ++ take (left - n) (drop (next + n) bytes)
piece_first bytes next left n le = ap (λ k. take k (drop next bytes)) (omega arith)
    ∙ take-add n (left - n) (drop next bytes)
    ∙ ap (λ l. take n (drop next bytes) ++ take (left - n) l) (drop-drop n next bytes)

-- how many bytes are left
pub count_known : (archives : List (List ℕ)) (number : ℕ) (r : Reading) → IsInsideArchive number (Some archives) r
    → length (take r.left (drop r.next (archive_at archives r.archive))) ≡ r.left
count_known = grind (arith, length-drop, length-take-le)
