-- What is read piece by piece is read as one part, because each piece begins where the one before it ended.
use Rattle.mail_answer.proofs.Words.{◌≡◌, ◌∙◌, ℕ, ◌+◌, ◌-◌, ◌<◌, ◌≤◌, false, List, [], ◌∷◌, ◌++◌, Result, Ok, Err, length, length-append, refl, ap₂, sym, subst, append-nil, arith, concat, concat-append, AllByRecursion, TellPieces, Reading, reading, span_reading, Record, record_at, Excerpt, Mbox, Stale, Device, OutOfMemory, OutFailed, AnswerFaultKind, Ghosts}
use Rattle.std.specs.Result.{IsErrAnd}
use Rattle.mail_answer.specs.Faults.{has_fault, is_stale, IfStale}
use Rattle.mail_answer.specs.Inside.Readings.{ReadsOrEnds, ReadsUntil}
use Rattle.mail_answer.specs.MessageReads.{ReadsEach, ReadsMessage}
use Rattle.mail_answer.specs.Pieces.{ReadsBytes, EndsWithin}
use Rattle.mail_answer.specs.declared.format.Format.{Format}

each_join : (P : List ℕ → Type 0) (xs ys : List (List ℕ)) → AllByRecursion P xs → AllByRecursion P ys
    → AllByRecursion P (xs ++ ys)
each_join P [] ys first second = second
each_join P (x ∷ xs) ys first second = (first.0, each_join P xs _ first.1 second)

module _ {A : Type 0} (g : Ghosts A) where
  tell_join : (n offset : ℕ) (xs ys : List (List ℕ)) (a b c : A) → TellPieces g n offset xs a b
      → TellPieces g n (offset + length (concat xs)) ys b c → TellPieces g n offset (xs ++ ys) a c
  tell_join n offset [] ys a b c first second =
      subst (λ s. TellPieces g n offset ys s c) first
      (subst (λ k. TellPieces g n k ys b c) (omega arith) second)
  tell_join n offset (x ∷ xs) ys a b c first second =
      let place : offset + length (x ++ concat xs) ≡ offset + length x + length (concat xs) =
      omega (arith, length-append x (concat xs)) in (
        first.0,
        first.1,
        tell_join n (offset + length x) xs _ _ b c first.2
            (grind arith),
      )

  bytes_join : (n offset : ℕ) (xs ys : List ℕ) (a b c : A) → ReadsBytes g n offset xs a b
      → ReadsBytes g n (offset + length xs) ys b c → ReadsBytes g n offset (xs ++ ys) a c
  bytes_join n offset xs ys a b c first second = record {
    pieces = first.pieces ++ second.pieces;
    joined = concat-append first.pieces second.pieces ∙ ap₂ (λ ps qs. ps ++ qs) first.joined second.joined;
    some = each_join _ _ _ first.some second.some;
    told = tell_join n _ _ _ a b c first.told
        (subst (λ bytes. TellPieces g n (offset + length bytes) second.pieces b c) (sym first.joined)
        second.told);
  }

  pub until_self : (a : A) (r : Reading) → ReadsUntil g a a r r
  until_self = grind arith

  -- a part was read on, and then once more
  pub until_join : (r s t : Reading) (a b c : A) → ReadsUntil g a b r s → ReadsUntil g b c s t → ReadsUntil g a c r t
  until_join r s t a b c first second = record {
    bytes = first.bytes ++ second.bytes;
    read = bytes_join _ _ _ _ a b c first.read
        (subst (λ k. ReadsBytes g r.archive k second.bytes b c) first.next
        (subst (λ n. ReadsBytes g n s.next second.bytes b c) first.archive second.read));
    archive = second.archive ∙ first.archive;
    next = omega (arith, first.next, second.next, length-append first.bytes second.bytes);
    left = omega (arith, first.left, second.left, length-append first.bytes second.bytes);
  }

  -- one piece was read
  pub until_piece : (archive next left n : ℕ) (piece : List ℕ) (a b : A) → g.reads a archive next (Ok piece) b
      → length piece ≡ n → 0 < n → n ≤ left
      → ReadsUntil g a b (reading archive next left) (reading archive (next + n) (left - n))
  until_piece archive next left n piece a b told long some within = record {
    bytes = piece;
    read = record {
      pieces = piece ∷ [];
      joined = append-nil piece;
      some = grind arith;
      told = (b, told, refl);
    };
    archive = refl;
    next = omega (arith, long);
    left = omega (arith, long, within);
  }

  -- the archive has no byte where the part goes on
  pub until_ends : (r s : Reading) (a b c : A) → ReadsUntil g a b r s → 0 < s.left
      → g.reads b s.archive s.next (Ok []) c → EndsWithin g r.archive r.next r.left a c
  until_ends = grind arith

  -- ---- messages

  -- all bytes of a message were read
  pub whole_read : (m : Record) (s : Reading) (a b : A) → ReadsUntil g a b (span_reading m) s → s.left ≡ 0
      → ReadsMessage g Mbox m a b
  whole_read m s a b reads none = (reads.bytes, omega (arith, reads.left, none), reads.read)

  -- a front of a message was read
  pub front_read : (m : Record) (s : Reading) (a b : A) → ReadsUntil g a b (span_reading m) s
      → ReadsMessage g Excerpt m a b
  front_read m s a b reads = (reads.bytes, omega (arith, reads.left), reads.read)

  -- a message was read, and no archive is stale
  pub read_fresh : {T : Type 0} (format : Format) (m : Record) (a b : A) (r : Result T AnswerFaultKind)
      → has_fault is_stale r ≡ false → ReadsMessage g format m a b → ReadsOrEnds g format m a b r
  read_fresh format m a b (Ok x) fresh reads = reads
  read_fresh format m a b (Err (Stale n)) fresh reads = absurd (cc fresh)
  read_fresh format m a b (Err Device) fresh reads = tt
  read_fresh format m a b (Err OutOfMemory) fresh reads = tt
  read_fresh format m a b (Err OutFailed) fresh reads = tt

  -- an archive ended within a message, when a part of it was read
  pub ends_read : {T : Type 0} (format : Format) (m : Record) (s : Reading) (a b c : A) (kind : AnswerFaultKind)
      (r : Result T AnswerFaultKind) → IsErrAnd r (λ k. k ≡ kind) → ReadsUntil g a b (span_reading m) s → 0 < s.left
      → s.archive ≡ m.archive → IfStale kind (λ n. n ≡ s.archive)
      → IfStale kind (λ _. g.reads b s.archive s.next (Ok []) c) → ReadsOrEnds g format m a c r
  ends_read format m s a b c kind (Ok x) err reads some same own last = absurd err
  ends_read format m s a b c kind (Err k) err reads some same own last = grind (arith, until_ends)

  -- one more message was read
  pub each_more : (format : Format) (ms : List Record) (done : List ℕ) (n : ℕ) (a b c : A)
      → ReadsEach g format ms done a b
      → ReadsMessage g format (record_at ms n) b c → ReadsEach g format ms (done ++ n ∷ []) a c
  each_more format ms [] n a b c so_far reads = grind arith
  each_more format ms (m ∷ done) n a b c so_far reads =
      (so_far.0, so_far.1, each_more _ _ done n _ b c so_far.2 reads)
