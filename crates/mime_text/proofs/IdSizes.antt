-- How many bytes ids have together: never more than the fields in which they are.
use Rattle.mime_text.proofs.Words.{◌≡◌, ◌+◌, ◌<◌, ◌≤◌, ◌++◌, ℕ, true, All, List, [], ◌∷◌, length, map, refl, sym, ap, subst, arith, Ok, Err, OnOk, Result, append_assoc, Vec, Global, All-append, All-map, HeaderField, fields_size, most_in_header, ids_of, ids_size, IsSizedId, is_linking, ids_of_fields}
use Rattle.std.specs.Prelude.{OnErr}
use Rattle.header_text.proofs.HeaderLaws.IdLemmas.{each-kept}

pub ids_size_append : (xs ys : List (List ℕ)) → ids_size (xs ++ ys) ≡ ids_size xs + ids_size ys
ids_size_append [] ys = omega arith
ids_size_append (x ∷ xs) ys = omega (arith, ids_size_append xs ys)

abbrev texts_of : List (Vec ℕ Global) → List (List ℕ)
texts_of ids = map (λ (id : Vec ℕ Global). id.items) ids

-- each id is sized, and so are all together
abbrev AreSized : List (Vec ℕ Global) → Type 0
AreSized ids = All (λ (id : Vec ℕ Global). IsSizedId id.items) ids × (ids_size (texts_of ids) ≤ most_in_header)

-- the ids of a value after others
module _ (old new : List (Vec ℕ Global)) (more : List (List ℕ)) (size : ℕ)
    (each : All (λ (id : Vec ℕ Global). IsSizedId id.items) old) (e : texts_of new ≡ texts_of old ++ more)
    (some : All (λ id. (0 < length id) × (length id ≤ size)) more)
    (room : ids_size (texts_of old) + size ≤ most_in_header) where
  pub all_sized : All IsSizedId (texts_of new)
  all_sized =
      let sized : All IsSizedId more = grind arith in
      rw e (All-append IsSizedId (texts_of old) more (All-map IsSizedId (λ (id : Vec ℕ Global). id.items) old each)
      sized)

  pub sized_append : ids_size more ≤ size → AreSized new
  sized_append small = (
    each-kept IsSizedId new (texts_of new) refl all_sized,
    omega (arith, ap ids_size e, ids_size_append (texts_of old) more),
  )

-- the same after a call that adds the ids, or changes nothing at an error
module _ {T E : Type 0} (old new : List (Vec ℕ Global)) (more : List (List ℕ)) (size : ℕ)
    (room : ids_size (texts_of old) + size ≤ most_in_header) where
  abbrev AddsSized : Result T E → Type 0
  AddsSized r = OnOk r (texts_of new ≡ texts_of old ++ more)
      × OnOk r (All (λ id. (0 < length id) × (length id ≤ size)) more)

  pub all_sized_after : (r : Result T E) → AreSized old → AddsSized r → OnOk r (All IsSizedId (texts_of new))
  all_sized_after (Ok x) are adds = all_sized old new more size are.0 adds.0 adds.1 room
  all_sized_after (Err x) are adds = tt

  pub sized_after : (r : Result T E) → AreSized old → AddsSized r → OnOk r (ids_size more ≤ size) → OnErr r (new ≡ old)
      → AreSized new
  sized_after (Ok x) are adds small same = sized_append old new more size are.0 adds.0 adds.1 room small
  sized_after (Err x) are adds small same = subst AreSized (sym same) are

-- the ids of a linking field after others: they are those of the fields so far, and there is still room for those of
-- the fields that are left
module _ (f : HeaderField) (rest fields : List HeaderField) (ids more new : List (List ℕ)) (split : fields ≡ f ∷ rest)
    (after : new ≡ ids ++ more) where
  pub ids_step : (all : List (List ℕ)) → is_linking f.name ≡ true → more ≡ ids_of f.body → all
      ≡ ids ++ ids_of_fields fields → all ≡ new ++ ids_of_fields rest
  ids_step all links here sofar = grind (arith, append_assoc)

  pub room_step : ids_size more ≤ length f.body → ids_size ids + fields_size fields ≤ most_in_header
      → ids_size new + fields_size rest ≤ most_in_header
  room_step small room = grind (arith, ids_size_append)
