-- Laws of a list of devices, of which those from an index on haven't been used yet.
use Rattle.std.proofs.Common.{arith, ◌≡◌, ◌≢◌, ℕ, zero, ◌+◌, ◌<◌, List, [], length, get_or, map, drop, Bool, false, inl, inr, Option, Some, ap, sym, ◌∙◌, subst, add-zero}
use Rattle.std.proofs.lemmas.Bool.Decides.{eqb_tells}
use Rattle.std.proofs.lemmas.List.{get_or-drop, drop-drop, length-map, get_or-map, map-set, get_or-set_same, get_or-set_other, length-set, drop-set-lt}
use Rattle.std.proofs.Math.ListN.{set}
use Rattle.contract_words.specs.Devices.{Counted}

-- the element at the index is as it was
pub same_at : {X : Type 0} (xs ys : List X) (i : ℕ) (d : X) → drop i xs ≡ drop i ys → get_or xs i d ≡ get_or ys i d
same_at xs ys i d h =
    ap (λ k. get_or xs k d) (sym (add-zero i)) ∙ sym (get_or-drop i xs zero d) ∙ ap (λ l. get_or l zero d) h
    ∙ get_or-drop i ys zero d ∙ ap (λ k. get_or ys k d) (add-zero i)

-- after a write at the index, the elements after the index are as they were
pub same_after : {X : Type 0} (xs ys : List X) (i : ℕ) (v : X) → drop i xs ≡ drop i ys → drop (i + 1) (set xs i v)
    ≡ drop (i + 1) ys
same_after xs ys i v h =
    drop-set-lt (i + 1) xs i v (omega arith) ∙ sym (drop-drop 1 i xs) ∙ ap (λ l. drop 1 l) h ∙ drop-drop 1 i ys

-- the bytes at an index, if all are known
pub known_at : {X : Type 0} (r : X → Option (List ℕ)) (xs : List X) (contents : List (List ℕ)) (i : ℕ) (d : X)
    → map r xs ≡ map Some contents → i < length xs → r (get_or xs i d) ≡ Some (get_or contents i [])
known_at r xs contents i d h below =
    let same : length contents ≡ length xs = sym (length-map contents Some) ∙ sym (ap length h) ∙ length-map xs r in
    let inside : i < length contents = omega arith in
    sym (get_or-map r xs i d (Some []) below) ∙ ap (λ l. get_or l i (Some [])) h
    ∙ get_or-map Some contents i [] (Some []) inside

pub known_length : {X : Type 0} (r : X → Option (List ℕ)) (xs : List X) (contents : List (List ℕ)) → map r xs
    ≡ map Some contents → length contents ≡ length xs
known_length r xs contents h = sym (length-map contents Some) ∙ sym (ap length h) ∙ length-map xs r

-- the counts after a call that changed one device
pub counted_at : {X : Type 0} (f : X → ℕ) (failed : ℕ → Bool) (xs ys : List X) (i : ℕ) (v d : X) → i < length xs
    → map f xs ≡ map f ys
    → ((n : ℕ) → n ≢ i → failed n ≡ false) → Counted (failed i) (f (get_or xs i d)) (f v)
    → (n : ℕ) → Counted (failed n) (get_or (map f ys) n 0) (get_or (map f (set xs i v)) n 0)
counted_at f failed xs ys i v d below same others here n =
    let old : get_or (map f ys) i 0 ≡ f (get_or xs i d) = sym (ap (λ l. get_or l i 0) same)
    ∙ get_or-map f xs i d 0 below in
    let inside : i < length (set xs i v) = rw length-set below in
    let new : get_or (map f (set xs i v)) i 0 ≡ f v = get_or-map f (set xs i v) i d 0 inside
    ∙ ap f (get_or-set_same xs i v d below) in
    let at_i : Counted (failed i) (get_or (map f ys) i 0) (get_or (map f (set xs i v)) i 0) = rw (old, new) here in
    elim (eqb_tells n i) [
      | inl p ↦ subst (λ k. Counted (failed k) (get_or (map f ys) k 0) (get_or (map f (set xs i v)) k 0)) (sym p.1) at_i
      | inr p ↦ rw (others n p.1) (ap (λ l. get_or l n 0) (map-set f xs i v)
          ∙ get_or-set_other (map f xs) i n (f v) 0 p.1 ∙ ap (λ l. get_or l n 0) same)
    ]
