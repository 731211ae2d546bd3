-- A search for a text within another finds it exactly if it begins at some place, byte by byte.
use Rattle.mail_answer.proofs.Words.{◌≡◌, ◌∙◌, ◌+◌, ◌<◌, ◌≤◌, ℕ, zero, suc, true, false, List, [], ◌∷◌, length, take, Option, Some, None, sym, ap, arith, nat_eq, is_some, starts_with, slice_index, ext_get_or, get_or-take, false_from_ne_true, or_left, or_right, or_from, bytes_eq-Decides, contains_text}
use Rattle.std.proofs.lemmas.List.{length-take-le, length-take}
use Rattle.memchr.specs.Find.{OccursAt, FindsNeedle}

begins_from : (hay needle : List ℕ) → OccursAt hay needle 0 → starts_with nat_eq hay needle ≡ true
begins_from hay needle at =
    (bytes_eq-Decides _ _).1 (
    let fits : length needle ≤ length hay = omega (arith, at.fits) in
    let long = length-take-le (length needle) hay fits in
    ext_get_or 0 needle (take (length needle) hay) (sym long) (λ i lt.
    let here = at.reads i lt in
    let plain : 0 + i ≡ i = omega arith in
    sym (get_or-take (length needle) hay i 0 lt ∙ ap (slice_index hay) (sym plain) ∙ here)))

begins_at : (hay needle : List ℕ) → starts_with nat_eq hay needle ≡ true → OccursAt hay needle 0
begins_at = grind (arith, bytes_eq-Decides, length-take, get_or-take)

-- the same place, one byte later
later : (b : ℕ) (hay needle : List ℕ) (k : ℕ) → OccursAt hay needle k → OccursAt (b ∷ hay) needle (suc k)
later b hay needle k at = grind arith

earlier : (b : ℕ) (hay needle : List ℕ) (k : ℕ) → OccursAt (b ∷ hay) needle (suc k) → OccursAt hay needle k
earlier b hay needle k at = grind arith

contained : (text hay : List ℕ) (k : ℕ) → OccursAt hay text k → contains_text text hay ≡ true
contained text [] zero at = begins_from _ _ at
contained text [] (suc k) at = absurd (omega (arith, at.fits))
contained text (b ∷ hay) zero at = or_left _ _
    (begins_from _ _ at)
contained text (b ∷ hay) (suc k) at = or_right _ _
    (contained _ hay k (earlier b _ _ k at))

not_contained : (text hay : List ℕ) → ((k : ℕ) → k < length hay + 1 → ¬ OccursAt hay text k) → contains_text text hay
    ≡ false
not_contained text [] none = false_from_ne_true _
    (λ e. none 0 (omega arith) (begins_at _ _ e))
not_contained text (b ∷ hay) none =
    or_from _ _
    (false_from_ne_true _ (λ e. none 0 (omega arith) (begins_at _ _ e)))
    (not_contained _ hay (λ k lt at. none (suc k) (omega (arith, lt)) (later b _ _ k at)))

-- what a search for the text finds
pub found : (text hay : List ℕ) (r : Option ℕ) → FindsNeedle hay text 0 r → is_some r ≡ contains_text text hay
found text hay None h = sym (not_contained _ _ (λ k lt at. h k (omega arith) lt at))
found text hay (Some k) h = sym (contained _ _ k h.1)
