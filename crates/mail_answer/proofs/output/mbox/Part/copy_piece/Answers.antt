-- `Part::copy_piece` adds one piece of a span and keeps its ending, by the result of each call.
use Rattle.mail_answer.proofs.Words.{◌≡◌, ◌∙◌, ℕ, List, ◌++◌, ◌+◌, ◌-◌, ◌≤◌, length, drop, length-append, length-drop, Option, Result, Ok, Err, refl, ap, sym, subst, arith, option_map, ending_of_bytes, Reading, bytes_left, reading, IsInsideArchive, AddsBytes, JoinsFront, AnswerFaultKind}
use Rattle.mail_answer.proofs.ArchiveLaws.KnowledgeLemmas.{inside_later}
use Rattle.mail_answer.proofs.OutputLaws.CopiedPieces.{copies_err, piece_read, after_gathered, tells_after, some_coming, inside_after}
use Rattle.mail_answer.specs.Inside.Readings.{ReadsUntil}
use Rattle.mail_answer.proofs.OutputLaws.PartReads.{until_piece}
use Rattle.mail_answer.proofs.OutputLaws.SheetLemmas.{nothing_went, gathered_went, front_more}
use Rattle.mail_answer.proofs.output.mbox.Part.copy_piece.Goals as goal

pub returns-in_err-n-clause-copies : goal.returns-in_err-n-clause-copies
returns-in_err-n-clause-copies g c =
    let taken = g.O.Out.taken c.args.out.now in
    let held = g.A.Archives.held c.read.new.archives in
    let number = g.A.Archives.number c.args.archives.now in
    let known = bytes_left held c.args.self.now in
    let inside =
    inside_later _ _ _ _ c.in_err-n.ensures.keeps.held
    c.requires.inside in
    let some = some_coming _ _ _ inside in
    copies_err _ _ _ _ _ _ _ _ _ _ c.from_residual.ensures.0
    (some.0, some.1, nothing_went _ _ _ _ refl, some.2)

pub returns-in_err-send_full-clause-copies : goal.returns-in_err-send_full-clause-copies
returns-in_err-send_full-clause-copies g c =
    let s = c.self.inside in
    let held : Option (List (List ℕ)) = g.A.Archives.held c.read.new.archives in
    let taken : Option (List ℕ) = g.O.Out.taken c.args.out.now in
    let taken' : Option (List ℕ) = g.O.Out.taken c.send_full.new.out in
    let reads = c.in_ok-n.ensures.bytes in
    let failed : Result ℕ AnswerFaultKind = Err c.in_err-send_full.field-0.0 in
    let went = gathered_went taken taken' c.args.sheet.now _ c.send_full.new.self reads.bytes failed reads.after refl
    c.in_err-send_full.ensures.writes in
    let after : Option (List ℕ) = bytes_left held (reading s.archive (s.next + c.in_ok-n.n) (s.left - c.in_ok-n.n)) in
    let is : bytes_left held c.args.self.now ≡ option_map (λ bytes. reads.bytes ++ bytes) after =
    sym (ap (λ (r : Reading). bytes_left held r) c.self.view_is)
    ∙ piece_read s.archive s.next s.left c.in_ok-n.n held c.args.sheet.now.text c.read.new.self reads
    (omega (arith, c.in_ok-n.ensures.bound)) in
    let few : c.in_ok-n.n ≤ s.left = omega (arith, c.in_ok-n.ensures.bound) in
    let number : ℕ = g.A.Archives.number c.args.archives.now in
    let was =
    inside_later (g.A.Archives.held c.args.archives.now) held number c.args.self.now c.in_ok-n.ensures.keeps.held
    c.requires.inside in
    let inside = inside_after number held s.archive s.next s.left c.in_ok-n.n few
    (subst (IsInsideArchive number held) (sym c.self.view_is) was) in
    let rest = some_coming held number _ inside in
    let whole : c.args.self.now.left ≡ s.left = ap (λ (r : Reading). r.left) (sym c.self.view_is) in
    copies_err taken taken' c.args.sheet.now c.send_full.new.self (bytes_left held c.args.self.now) after _ _
    c.args.before
    c.from_residual-in_err-send_full.result c.from_residual-in_err-send_full.ensures.0 (
      reads.bytes ++ rest.0,
      rw is (tells_after after reads.bytes rest.0 rest.1),
      front_more rest.0 (subst (JoinsFront taken taken' c.args.sheet.now c.send_full.new.self) (sym went.1) went.2),
      omega (arith, length-append reads.bytes rest.0, reads.number, rest.2, few, whole),
    )

pub returns-clause-copies : goal.returns-clause-copies
returns-clause-copies g c =
    let s = c.self.inside in
    let held : Option (List (List ℕ)) = g.A.Archives.held c.read.new.archives in
    let taken : Option (List ℕ) = g.O.Out.taken c.args.out.now in
    let taken' : Option (List ℕ) = g.O.Out.taken c.send_full.new.out in
    let reads = c.in_ok-n.ensures.bytes in
    let done : Result ℕ AnswerFaultKind = Ok 0 in
    let went = gathered_went taken taken' c.args.sheet.now _ c.send_full.new.self reads.bytes done reads.after refl
    c.in_ok-send_full.ensures.writes in (
      reads.bytes,
      sym (ap (λ (r : Reading). bytes_left held r) c.self.view_is)
          ∙ piece_read s.archive s.next s.left c.in_ok-n.n held c.args.sheet.now.text c.read.new.self reads
          (omega (arith, c.in_ok-n.ensures.bound)),
      subst (AddsBytes taken taken' c.args.sheet.now c.send_full.new.self) (sym went.1) went.2,
      λ text is. c.with_bytes-ending.ensures text is
          ∙ ap (λ (l : List ℕ). ending_of_bytes (text ++ l))
          (after_gathered c.args.sheet.now.text reads.bytes c.as_slice.result.now c.len-gathered.result
          (c.as_slice.ensures ∙ reads.after) (omega arith)),
      omega (arith, reads.number, c.in_ok-n.ensures.bound, ap (λ (r : Reading). r.left) c.self.view_is),
    )

pub returns-clause-read : goal.returns-clause-read
returns-clause-read g c =
    let s = c.self.inside in
    let reads = c.in_ok-n.ensures.bytes in
    let few : c.in_ok-n.n ≤ s.left = omega (arith, c.in_ok-n.ensures.bound) in
    let piece = drop (length c.args.sheet.now.text) c.read.new.self in
    let long : length piece ≡ c.in_ok-n.n =
    omega (
      arith,
      length-drop (length c.args.sheet.now.text) c.read.new.self,
      ap length reads.after,
      length-append c.args.sheet.now.text reads.bytes,
      reads.number,
    ) in
    subst (λ r. ReadsUntil g.A.Archives c.args.archives.now c.read.new.archives r
    (reading s.archive (s.next + c.in_ok-n.n) (s.left - c.in_ok-n.n))) c.self.view_is
    (until_piece _ _ _ _ _ _ _ _
    c.in_ok-n.ensures.read long reads.some few)
