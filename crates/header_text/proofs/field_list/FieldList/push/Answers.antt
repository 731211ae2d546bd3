-- `FieldList::push` adds one field after the others, because its name and its body are added at the end of all bytes.
use Rattle.header_text.proofs.Words.{◌≡◌, ◌∙◌, ◌++◌, ℕ, List, [], ◌∷◌, arith, append_assoc, FieldPlace}
use Rattle.header_text.proofs.HeaderLaws.PlaceLemmas.{HoldsPushed, pushed}
use Rattle.header_text.proofs.field_list.FieldList.push.Goals as goal
use Rattle.header_text.proofs.field_list.FieldList.push.Goals.{After-unwrap-3}

field : (c : After-unwrap-3) → HoldsPushed c.self.inside.bytes.items c.args.field.name.now c.args.field.body.now
    c.self.inside.places.items c.extend_from_slice-2.new.self.items c.push.new.self.items
field c =
    let p : FieldPlace = record { name = c.len-name.result; body = c.len-body.result } in
    let old : List ℕ = c.self.inside.bytes.items in
    let same : c.reserve.new.self.items ≡ old = grind arith in
    let named : c.extend_from_slice.new.self.items ≡ old ++ c.args.field.name.now =
    grind arith in
    let bytes : c.extend_from_slice-2.new.self.items ≡ old ++ (c.args.field.name.now ++ c.args.field.body.now) =
    grind (arith, append_assoc) in
    let places : c.push.new.self.items ≡ c.self.inside.places.items ++ p ∷ [] =
    grind arith in
    pushed old c.extend_from_slice-2.new.self.items c.args.field.name.now c.args.field.body.now
    c.self.inside.places.items c.push.new.self.items
    p.name p.body c.self.invariant bytes places (grind arith) (grind arith) c.requires.name
    (rw c.self.view_is c.requires.room)

pub invariant_of-self-2 : goal.invariant_of-self-2
invariant_of-self-2 c = (field c).kept

pub returns-clause-ok : goal.returns-clause-ok
returns-clause-ok c = cc ((field c).fields, c.self.view_is)
