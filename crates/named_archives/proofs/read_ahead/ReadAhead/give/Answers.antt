-- The bytes that are copied from the piece are in the file, by `given`.
use Rattle.std.proofs.Common.{◌≡◌, ◌∙◌, ◌≤◌, ◌+◌, length, take, slice_range, vec_items, vec_len, sym, ap, arith}
use Rattle.named_archives.proofs.Pieces.{given, within-piece}
use Rattle.named_archives.proofs.read_ahead.ReadAhead.give.Goals as goal

pub returns-clause-held : goal.returns-clause-held
returns-clause-held g c =
    let ahead = c.args.self.now in
    let items = vec_items ahead.room in
    let front = c.in-Some.front in
    let count = c.copy_front.result in
    let here : c.args.offset ≡ ahead.offset + front = omega arith in
    let all : length items ≡ vec_len ahead.room = sym (ap length c.deref.ensures.value) ∙ c.deref.ensures.len in
    let within : ahead.held ≤ length items = rw all ahead.in_room in
    let bytes : take count c.copy_front.new.into ≡ take count (slice_range items front ahead.held) =
    c.copy_front.ensures.bytes ∙ ap (λ room. take count (slice_range room front ahead.held)) c.deref.ensures.value in
    let fits : front + count ≤ ahead.held = within-piece items front ahead.held (length c.args.into.now) count
    (omega arith) within (rw c.deref.ensures.value at c.copy_front.ensures.count) in
    given c.args.offset ahead.offset front ahead.held count items c.copy_front.new.into (g.F.KeptFile.bytes ahead.file)
    within fits here ahead.piece bytes
