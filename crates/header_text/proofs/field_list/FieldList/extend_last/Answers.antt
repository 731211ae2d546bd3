-- `FieldList::extend_last` makes only the last body longer, because only this one ends at the end of all bytes.
use Rattle.header_text.proofs.Words.{◌≡◌, ◌∙◌, ◌++◌, ◌+◌, ◌<◌, ◌≤◌, ◌==◌, ℕ, Bool, true, false, List, length, sym, subst, arith, FieldPlace, fields_size, most_in_header}
use Rattle.std.specs.Prelude.{if◌then◌else◌}
use Rattle.header_text.specs.Inside.Places.{AreKept, fields_at}
use Rattle.header_text.proofs.HeaderLaws.PlaceLemmas.{AreKept-more, fields_at-append}
use Rattle.header_text.proofs.field_list.FieldList.extend_last.Goals as goal

not_zero : (n : ℕ) → (n == 0) ≡ false → 0 < n
not_zero n h = grind arith

kept : (ok : Bool) (bytes more new : List ℕ) (ps : List FieldPlace) → AreKept bytes ps → new
    ≡ (if ok then bytes ++ more else bytes) → 0 < length ps
    → fields_size (fields_at bytes ps) + length more ≤ most_in_header → AreKept new ps
kept true bytes more new ps k e some room = AreKept-more bytes more new ps k e some room
kept false bytes more new ps k e some room = subst (λ (bs : List ℕ). AreKept bs ps) (sym e) k

pub invariant_of-self : goal.invariant_of-self
invariant_of-self c =
    kept _ c.self.inside.bytes.items c.args.more.now c.extend_from_slice.new.self.items c.self.inside.places.items
    c.self.invariant c.extend_from_slice.ensures.items
    (subst (λ (n : ℕ). 0 < n) c.self.inside.places.ok.0 (not_zero _ (sym c.is_empty.ensures ∙ c.if-is_empty.false)))
    (rw c.self.view_is c.requires)

pub returns-clause-ok : goal.returns-clause-ok
returns-clause-ok c = grind (arith, fields_at-append)
