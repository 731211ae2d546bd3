-- The room has what was read, and that is in the file; without a piece nothing is said.
use Rattle.std.proofs.Common.{◌≡◌, ℕ, List, take, length, vec_len, refl, sym, subst, arith}
use Rattle.std.proofs.lemmas.List.{with_items_is}
use Rattle.named_files.specs.Entries.{IsReadFromFile}
use Rattle.named_archives.specs.Ahead.{IsPiece}
use Rattle.named_archives.proofs.Pieces.{is-piece}
use Rattle.named_archives.proofs.read_ahead.ReadAhead.read_piece.Goals as goal

-- if nothing was read, the piece is empty
pub invariant_of-self : goal.invariant_of-self
invariant_of-self g c = record {
  in_room = omega (arith, c.requires.none);
  piece = λ all e. rw c.requires.none refl;
  in_state = λ some. absurd (omega (arith, some, c.requires.none));
}

pub invariant_of-self-2 : goal.invariant_of-self-2
invariant_of-self-2 g c =
    let ahead = c.args.self.now in
    let read : ℕ = c.in_ok-read.read in
    let long : length c.fill.new.room ≡ vec_len ahead.room =
    omega (arith, c.fill.auto.room, c.as_mut_slice-room.ensures.len) in
    record {
      in_room = omega (arith, long, c.in_ok-read.ensures.bytes.0);
      piece = subst
          (λ (items : List ℕ). IsPiece c.args.offset (take read items) (g.F.KeptFile.bytes c.fill.new.file))
          (sym (with_items_is ahead.room c.fill.new.room long))
          (is-piece c.args.offset (take read c.fill.new.room) (g.F.KeptFile.bytes c.fill.new.file)
          c.in_ok-read.ensures.bytes.1);
      in_state = λ some. c.in_ok-read.ensures.call.in_state;
    }

pub returns-clause-bytes : goal.returns-clause-bytes
returns-clause-bytes g c =
    let ahead = c.args.self.now in
    let read : ℕ = c.in_ok-read.read in
    let long : length c.fill.new.room ≡ vec_len ahead.room =
    omega (arith, c.fill.auto.room, c.as_mut_slice-room.ensures.len) in
    subst
    (λ (items : List ℕ). IsReadFromFile c.args.offset (take read items) (g.F.KeptFile.bytes c.fill.new.file))
    (sym (with_items_is ahead.room c.fill.new.room long)) c.in_ok-read.ensures.bytes.1
