-- The bytes that are word characters, found from the mask of one load.
use lib.Lanes.{Each1, chunk, mask_l, top}
use Rattle.mail_words.proofs.Imports.{◌≡◌, ℕ, ◌+◌, ◌-◌, ◌%◌, ◌^◌, ◌<◌, ◌≤◌, Bool, true, not, List, [], ◌∷◌, length, get_or, Fits, w8, refl, ap, ap₂, ◌∙◌, subst, arith, inl, inr, agree_below, agree_below_at, cases_lt, length-map, map-map, mask_l-mod, length-chunk, get_or-chunk, prefix_len}
use Rattle.std.proofs.Common.{map}
use Rattle.std.proofs.lemmas.List.Sums.{prefix_len-le-length, prefix_len_passes}

-- two tests that agree on each byte agree on lists of bytes
same_tests : (p q : ℕ → Bool) (xs : List ℕ) → Each1 (Fits w8) xs → agree_below p q 256 ≡ true → map p xs ≡ map q xs
same_tests p q [] fits all = refl
same_tests p q (x ∷ xs) fits all = ap₂ ◌∷◌ (agree_below_at p q 256 x all fits.0.fits) (same_tests p q xs fits.1 all)

-- the lanes z, computed from those of a load, mark exactly the bytes that pass the test
pub lanes_mask : (test : ℕ → Bool) (f : ℕ → ℕ) (load z : List ℕ) → length load ≤ 64 → Each1 (Fits w8) load → z
    ≡ map f load → agree_below (λ b. top 7 (f b)) test 256 ≡ true
    → mask_l (map (top 7) z) % 2 ^ 64 ≡ mask_l (map test load)
lanes_mask test f load z few fits lanes all =
    cc (
      lanes,
      map-map (top 7) f load,
      same_tests (λ b. top 7 (f b)) test load fits all,
      mask_l-mod (map test load) 64 (omega (arith, few, length-map load test)),
    )

pub run_of_not : (test : ℕ → Bool) (load : List ℕ) → prefix_len (λ b. not (not (test b))) load ≡ prefix_len test load
run_of_not test load = grind arith

pub run_bound : (test : ℕ → Bool) (bytes : List ℕ) (at r : ℕ) → at + 16 ≤ length bytes → r
    ≡ prefix_len test (chunk at 16 bytes) → r ≤ 16
run_bound test bytes at r room run = omega
    (arith, run, length-chunk at 16 bytes room, prefix_len-le-length test (chunk at 16 bytes))

-- the bytes passed before, and those of one more load
pub passed_on : (test : ℕ → Bool) (bytes : List ℕ) (at r : ℕ) → at + 16 ≤ length bytes → r
    ≡ prefix_len test (chunk at 16 bytes) → ((k : ℕ) → k < at → test (get_or bytes k 0) ≡ true)
    → (k : ℕ) → k < at + r → test (get_or bytes k 0) ≡ true
passed_on test bytes at r room run passed k below =
    elim (cases_lt k at) [
      | inl early ↦ passed k early
      | inr late ↦
          let within : r ≤ 16 = run_bound test bytes at r room run in
          let back : at + (k - at) ≡ k = omega (arith, late) in
          let same = get_or-chunk at 16 bytes (k - at) 0 (omega (arith, within, below, late))
          ∙ ap (λ j. get_or bytes j 0) back in
          subst (λ b. test b ≡ true) same (prefix_len_passes test (chunk at 16 bytes) (k - at) 0
          (omega (arith, run, below, late)))
    ]
