-- The ranges of a list that pass a test, found place by place. Whether a range passes depends on the elements before
-- its place, the nearest first, and on those from there on.
use Rattle.std.proofs.Common.{◌≡◌, ℕ, suc, ◌-◌, Bool, cond, List, [], ◌∷◌, ◌++◌, map, reverse, length, take, drop, refl, sym, ap, ap₂, ◌∙◌, arith, append_assoc, append-nil, length-append}
use Rattle.std.proofs.Math.Seq.{take-append_seam, drop-append_seam}
use Rattle.std.proofs.lemmas.List.{map-append, reverse-append}
use Rattle.std.proofs.lemmas.List.Elements.{filter-append}
use Rattle.std.specs.List.{filter, slice_range}
use Rattle.contract_words.specs.Ranges.{numbers_from, ranges_from, passes_at}

-- a list in three parts is cut at the ends of the middle one
cut_before : (front inside rest : List ℕ) → take (length front) (front ++ (inside ++ rest)) ≡ front
cut_before front inside rest = take-append_seam front (inside ++ rest)

cut_inside : (front inside rest : List ℕ)
    → slice_range (front ++ (inside ++ rest)) (length front) (length (front ++ inside)) ≡ inside
cut_inside front inside rest =
    let count : length (front ++ inside) - length front ≡ length inside = omega (arith, length-append front inside) in
    ap₂ (λ n xs. take n xs) count (drop-append_seam front (inside ++ rest)) ∙ take-append_seam inside rest

cut_after : (front inside rest : List ℕ) → drop (length (front ++ inside)) (front ++ (inside ++ rest)) ≡ rest
cut_after front inside rest = ap (drop (length (front ++ inside))) (sym (append_assoc front inside rest))
    ∙ drop-append_seam (front ++ inside) rest

map_one : {X Y : Type 0} (f : X → Y) (x : X) (b : Bool) → map f (cond b (x ∷ []) []) ≡ cond b (f x ∷ []) []
map_one f x b = grind arith

-- a test of ranges, and a view of the elements in one that passes
module _ (passes : List ℕ → List ℕ → List ℕ → Bool) (view : List ℕ → List ℕ) where
  -- the view of the elements, if they pass
  abbrev pub if_passes : List ℕ → List ℕ → List ℕ → List (List ℕ)
  if_passes before inside after = cond (passes before inside after) (view inside ∷ []) []

  -- the views of the ranges that begin with these elements and end in the rest
  abbrev pub seen_on : List ℕ → List ℕ → List ℕ → List (List ℕ)
  seen_on before inside [] = []
  seen_on before inside (c ∷ cs) = if_passes before (inside ++ c ∷ []) cs ++ seen_on before (inside ++ c ∷ []) cs

  -- the views of the ranges that begin in the rest
  abbrev pub seen_from : List ℕ → List ℕ → List (List ℕ)
  seen_from before [] = []
  seen_from before (c ∷ cs) = seen_on before [] (c ∷ cs) ++ seen_from (c ∷ before) cs

  abbrev pub seen_in : List ℕ → List (ℕ × ℕ) → List (List ℕ)
  seen_in cs rs = map (λ r. view (slice_range cs r.0 r.1)) (filter (passes_at passes cs) rs)

  seen_in-append : (cs : List ℕ) (rs ss : List (ℕ × ℕ)) → seen_in cs (rs ++ ss) ≡ seen_in cs rs ++ seen_in cs ss
  seen_in-append cs rs ss = grind (arith, filter-append, map-append)

  -- one range passes if the test passes the three parts that it makes of the list
  seen_in_one : (front inside rest : List ℕ)
      → seen_in (front ++ (inside ++ rest)) ((length front, length (front ++ inside)) ∷ [])
      ≡ if_passes (reverse front) inside rest
  seen_in_one front inside rest = grind (arith, map_one, cut_before, cut_inside, cut_after)

  -- the ranges from one place that end in the rest
  seen_in_place : (front inside rest : List ℕ)
      → seen_in (front ++ (inside ++ rest)) (map (λ end. (length front, end))
      (numbers_from (suc (length (front ++ inside))) (length rest))) ≡ seen_on (reverse front) inside rest
  seen_in_place front inside [] = refl
  seen_in_place front inside (c ∷ cs) =
      let longer : List ℕ = inside ++ c ∷ [] in
      let whole = ap (λ back. front ++ back) (sym (append_assoc inside (c ∷ []) cs)) in
      let end : suc (length (front ++ inside)) ≡ length (front ++ longer) =
      omega (arith, length-append front inside, length-append front longer, length-append inside (c ∷ [])) in
      ap₂ (λ text n. seen_in text ((length front, n) ∷ map (λ end. (length front, end))
      (numbers_from (suc n) (length cs)))) whole end
      ∙ seen_in-append (front ++ (longer ++ cs)) ((length front, length (front ++ longer)) ∷ [])
      (map (λ end. (length front, end)) (numbers_from (suc (length (front ++ longer))) (length cs)))
      ∙ ap₂ ◌++◌ (seen_in_one front longer cs) (seen_in_place front longer cs)

  pub seen_after-places : (front rest : List ℕ) → seen_in (front ++ rest) (ranges_from (length front) rest)
      ≡ seen_from (reverse front) rest
  seen_after-places front [] = refl
  seen_after-places front (c ∷ cs) =
      let front' : List ℕ = front ++ c ∷ [] in
      let here : List (ℕ × ℕ) = map (λ end. (length front, end)) (numbers_from (suc (length front)) (length (c ∷ cs)))
      in
      let place : suc (length front) ≡ length front' = omega (arith, length-append front (c ∷ [])) in
      seen_in-append (front ++ c ∷ cs) here (ranges_from (suc (length front)) cs)
      ∙ ap₂ ◌++◌
      (ap (λ l. seen_in (front ++ c ∷ cs) (map (λ end. (length front, end))
      (numbers_from (suc (length l)) (length (c ∷ cs))))) (sym (append-nil front))
      ∙ seen_in_place front [] (c ∷ cs))
      (ap₂ (λ text n. seen_in text (ranges_from n cs)) (sym (append_assoc front (c ∷ []) cs)) place
      ∙ seen_after-places front' cs ∙ ap (λ before. seen_from before cs) (reverse-append front (c ∷ [])))
