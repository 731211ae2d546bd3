-- The fields at places stay the fields of a list as bytes and places are added.
use Rattle.header_text.proofs.Words.{◌≡◌, ◌∙◌, ◌+◌, ◌-◌, ◌<◌, ◌≤◌, ◌++◌, ℕ, List, [], ◌∷◌, length, refl, ap, arith, length-append, append_assoc, slice_range, take-append-le, drop-append-le, take_all, take_at, drop_at, length-take-le, FieldPlace, HeaderField, fields_size, most_in_header, onto_last}
use Rattle.std.proofs.lemmas.List.{length-drop}
use Rattle.header_text.specs.Inside.Places.{next_start, ArePlacesInOrder, AreKept, fields_at}

length-slice_range : (xs : List ℕ) (i j : ℕ) → i ≤ j → j ≤ length xs → length (slice_range xs i j) ≡ j - i
length-slice_range xs i j low high = grind (arith, length-drop, length-take-le)

-- a range inside the front
pub slice_range-append : (xs ys : List ℕ) (i j : ℕ) → i ≤ j → j ≤ length xs → slice_range (xs ++ ys) i j
    ≡ slice_range xs i j
slice_range-append xs ys i j low high = grind (arith, length-drop, drop-append-le, take-append-le)

-- a range up to the end, with more bytes
pub slice_range-append_end : (xs ys : List ℕ) (i : ℕ) → i ≤ length xs → slice_range (xs ++ ys) i (length (xs ++ ys))
    ≡ slice_range xs i (length xs) ++ ys
slice_range-append_end xs ys i low = grind (arith, length-append, length-drop, drop-append-le, take_all)

pub next_start-le : (end : ℕ) (ps : List FieldPlace) → ArePlacesInOrder end ps → next_start ps end ≤ end
next_start-le end [] h = omega arith
next_start-le end (p ∷ ps) h = grind (arith, next_start-le end ps h.2)

-- places with one more field
AreInOrder-push : (end : ℕ) (ps : List FieldPlace) (p : FieldPlace) (more : ℕ) → ArePlacesInOrder end ps → p.name ≡ end
    → p.name < p.body → p.body ≤ more → ArePlacesInOrder more (ps ++ p ∷ [])
AreInOrder-push end [] p more h e low high = (low, high, tt)
AreInOrder-push end (q ∷ []) p more h e low high = (h.0, omega (arith, h.1), (low, high, tt))
AreInOrder-push end (q ∷ r ∷ ps) p more h e low high = (h.0, h.1, AreInOrder-push end (r ∷ ps) p more h.2 e low high)

next_start-push : (end : ℕ) (ps : List FieldPlace) (p : FieldPlace) (more : ℕ) → p.name ≡ end
    → next_start (ps ++ p ∷ []) more ≡ next_start ps end
next_start-push end ps p more h = grind arith

-- places with more bytes after the last field
AreInOrder-more : (end more : ℕ) (ps : List FieldPlace) → ArePlacesInOrder end ps → end ≤ more
    → ArePlacesInOrder more ps
AreInOrder-more end more [] h le = tt
AreInOrder-more end more (q ∷ []) h le = (h.0, omega (arith, h.1), tt)
AreInOrder-more end more (q ∷ r ∷ ps) h le = (h.0, h.1, AreInOrder-more end more (r ∷ ps) h.2 le)

-- each field has a byte of its own
length-places : (end : ℕ) (ps : List FieldPlace) → ArePlacesInOrder end ps → length ps + next_start ps end ≤ end
length-places end [] h = omega arith
length-places end (p ∷ ps) h = omega (arith, h.0, h.1, length-places end ps h.2)

-- the number of places is limited by the number of bytes
kept : (bytes : List ℕ) (ps : List FieldPlace) → ArePlacesInOrder (length bytes) ps → next_start ps (length bytes) ≡ 0
    → length bytes ≤ most_in_header → AreKept bytes ps
kept bytes ps order first few = record {
  order = order;
  first = first;
  few_bytes = few;
  few_places =
      omega (arith, length-places (length bytes) ps order);
}

abbrev one : List ℕ → List ℕ → HeaderField
one name body = record { name = name; body = body }

-- the field that has the last bytes
last_field : (bytes name body : List ℕ) (at : ℕ) (from : ℕ) → at ≡ length bytes → from ≡ length bytes + length name
    → one (slice_range (bytes ++ (name ++ body)) at from)
    (slice_range (bytes ++ (name ++ body)) from (length (bytes ++ (name ++ body)))) ≡ one name body
last_field bytes name body at from e f =
    let all : List ℕ = bytes ++ (name ++ body) in
    let grouped : (bytes ++ name) ++ body ≡ all = append_assoc bytes name body in
    grind (arith, length-append, drop_at, take_at, take_all)

pub fields_at-push : (bytes name body : List ℕ) (ps : List FieldPlace) (p : FieldPlace)
    → ArePlacesInOrder (length bytes) ps
    → p.name ≡ length bytes → p.body ≡ length bytes + length name
    → fields_at (bytes ++ (name ++ body)) (ps ++ p ∷ []) ≡ fields_at bytes ps ++ one name body ∷ []
fields_at-push bytes name body [] p h e f =
    grind (arith, last_field)
fields_at-push bytes name body (q ∷ []) p h e f = grind (arith, slice_range-append, last_field)
fields_at-push bytes name body (q ∷ r ∷ ps) p h e f =
    grind (arith, next_start-le, slice_range-append, fields_at-push bytes name body (r ∷ ps) p h.2 e f)

-- more bytes for the last field
pub fields_at-append : (bytes more : List ℕ) (ps : List FieldPlace) → ArePlacesInOrder (length bytes) ps
    → fields_at (bytes ++ more) ps ≡ onto_last more (fields_at bytes ps)
fields_at-append bytes more [] h = refl
fields_at-append bytes more (q ∷ []) h = grind (arith, slice_range-append, slice_range-append_end)
fields_at-append bytes more (q ∷ r ∷ ps) h =
    grind (arith, next_start-le, slice_range-append, fields_at-append bytes more (r ∷ ps) h.2)

-- names and bodies fill the bytes from the first name on
fields_size-at : (bytes : List ℕ) (ps : List FieldPlace) → ArePlacesInOrder (length bytes) ps
    → fields_size (fields_at bytes ps) + next_start ps (length bytes) ≡ length bytes
fields_size-at bytes [] h = omega arith
fields_size-at bytes (p ∷ ps) h = grind (arith, next_start-le, length-slice_range, fields_size-at bytes ps h.2)

-- there are no other bytes
pub fields_size-kept : (bytes : List ℕ) (ps : List FieldPlace) → AreKept bytes ps → fields_size (fields_at bytes ps)
    ≡ length bytes
fields_size-kept bytes ps k = grind (arith, fields_size-at)

-- a field was added, given what the two buffers hold
pub record HoldsPushed (bytes name body : List ℕ) (ps : List FieldPlace) (new : List ℕ) (qs : List FieldPlace) : Type 0
  where
    pub kept : AreKept new qs
    pub fields : fields_at new qs ≡ fields_at bytes ps ++ record { name = name; body = body } ∷ []

pub pushed : (bytes new name body : List ℕ) (ps qs : List FieldPlace) (start from : ℕ) → AreKept bytes ps → new
    ≡ bytes ++ (name ++ body)
    → qs ≡ ps ++ record { name = start; body = from } ∷ [] → start ≡ length bytes → from ≡ length new - length body
    → 0 < length name → fields_size (fields_at bytes ps) + (length name + length body) ≤ most_in_header
    → HoldsPushed bytes name body ps new qs
pushed bytes new name body ps qs start from k e f low high some room =
    let size : length new ≡ length bytes + (length name + length body) = grind (arith, length-append) in
    let few : length new ≤ most_in_header = omega (arith, fields_size-kept bytes ps k) in
    let p : FieldPlace = record { name = start; body = from } in
    record {
      kept = rw f (kept new (ps ++ p ∷ []) (AreInOrder-push (length bytes) ps p (length new) k.order low (omega arith)
          (omega arith)) (next_start-push (length bytes) ps p (length new) low ∙ k.first) few);
      fields = grind (arith, fields_at-push);
    }

-- more bytes for the last field, given what the buffers hold
pub AreKept-more : (bytes more new : List ℕ) (ps : List FieldPlace) → AreKept bytes ps → new ≡ bytes ++ more
    → 0 < length ps → fields_size (fields_at bytes ps) + length more ≤ most_in_header → AreKept new ps
AreKept-more bytes more new [] k e some room = absurd (omega arith)
AreKept-more bytes more new (p ∷ ps) k e some room =
    let size : length new ≡ length bytes + length more = ap length e ∙ length-append bytes more in
    let few : length new ≤ most_in_header = omega (arith, fields_size-kept bytes (p ∷ ps) k) in
    kept new (p ∷ ps) (AreInOrder-more (length bytes) (length new) (p ∷ ps) k.order (omega arith)) k.first few
