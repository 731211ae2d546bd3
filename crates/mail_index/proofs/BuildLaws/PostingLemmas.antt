-- One more number is one more difference, and the bytes give the numbers back: by the weights of their groups of seven
-- bits.
use Rattle.mail_index.proofs.Words.{◌≡◌, ℕ, zero, suc, ◌+◌, ◌-◌, ◌*◌, ◌/◌, ◌%◌, ◌^◌, ◌<◌, ◌≤◌, true, false, nat_lt, if◌then◌else◌, List, [], ◌∷◌, ◌++◌, length, fold, flat_map, refl, ap, ◌∙◌, append-nil, length-append, arith, nat_tests, fold-append, flat_map-append, add-mul, mul_assoc, leb128, differences_from, postings, end_from, with_number, DecodingState, state_after_numbers, state_after_byte, numbers_so_far, numbers_of, IsPosted}

end_from-snoc : (low : ℕ) (ns : List ℕ) (n : ℕ) → end_from low (ns ++ n ∷ []) ≡ suc n
end_from-snoc _ [] n = refl
end_from-snoc _ (x ∷ ns) n = end_from-snoc (suc x) ns n

differences_from-snoc : (low : ℕ) (ns : List ℕ) (n : ℕ) → differences_from low (ns ++ n ∷ [])
    ≡ differences_from low ns ++ (suc n - end_from low ns) ∷ []
differences_from-snoc _ [] n = refl
differences_from-snoc low (x ∷ ns) n = ap (λ l. (suc x - low) ∷ l) (differences_from-snoc (suc x) ns n)

-- one more number is one more difference
pub postings-snoc : (ns : List ℕ) (n : ℕ) → postings (ns ++ n ∷ []) ≡ postings ns ++ leb128 5 (suc n - end_from 0 ns)
postings-snoc _ n = grind (
  arith,
  flat_map,
  leb128,
  differences_from-snoc,
  flat_map-append,
  differences_from,
  end_from,
  postings,
  append-nil,
)

-- the lowest seven bits, and the rest, each at its weight
weights : (k p w : ℕ) → (p + (128 + k % 128 - 128) * w) + (k / 128) * (128 * w) ≡ p + k * w
weights k p w = grind (arith, mul_assoc, add-mul)

state_after_byte-last : (t : DecodingState) (b : ℕ) → b < 128 → state_after_byte t b
    ≡ state_after_numbers (t.numbers ++ (t.next + (t.part + b * t.weight) - 1) ∷ []) (t.next + (t.part + b * t.weight))
unfolding state_after_byte
state_after_byte-last t b h = grind arith

state_after_byte-followed : (t : DecodingState) (b : ℕ) → 128 ≤ b → state_after_byte t b
    ≡ record { numbers = t.numbers; next = t.next; part = t.part + (b - 128) * t.weight; weight = 128 * t.weight }
unfolding state_after_byte
state_after_byte-followed t b h = grind arith

-- the state after a difference k has been read to its end
abbrev whole_after : DecodingState → ℕ → DecodingState
whole_after t k = state_after_numbers (t.numbers ++ (t.next + (t.part + k * t.weight) - 1) ∷ [])
    (t.next + (t.part + k * t.weight))

-- a step of the bytes of a difference
told-step : (bytes : List ℕ) (t : DecodingState) (k : ℕ) → 128 ≤ k
    → fold state_after_byte (record {
      numbers = t.numbers;
      next = t.next;
      part = t.part + (128 + k % 128 - 128) * t.weight;
      weight = 128 * t.weight;
    }) bytes ≡ whole_after
    (record {
      numbers = t.numbers;
      next = t.next;
      part = t.part + (128 + k % 128 - 128) * t.weight;
      weight =
          128 * t.weight;
    }) (k / 128)
    → fold state_after_byte (state_after_byte t (128 + k % 128)) bytes ≡ whole_after t k
told-step _ t k high e = cc (state_after_byte-followed t (128 + k % 128) (omega arith), weights k t.part t.weight)

-- the bytes of a difference give this difference
told-leb128 : (m : ℕ) (t : DecodingState) (k : ℕ) → k < 128 ^ suc m → fold state_after_byte t (leb128 (suc m) k)
    ≡ whole_after t k
told-leb128 zero t k h = grind (arith, state_after_byte-last)
told-leb128 (suc m) t k h = (elim (nat_lt k 128) as
    (λ v. nat_lt k 128 ≡ v → fold state_after_byte t (if v then k ∷ [] else (128 + k % 128) ∷ leb128 (suc m) (k / 128))
    ≡ whole_after t k) [
      | true ↦ λ e. state_after_byte-last t k (grind (arith, nat_tests))
      | false ↦ λ e. told-step (leb128 (suc m) (k / 128)) t k (grind (arith, nat_tests))
          (told-leb128 m _ (k / 128) (omega arith))
    ]) refl

pub length-leb128 : (m k : ℕ) → 0 < k → length (leb128 m k) ≤ k
length-leb128 zero k h = omega arith
length-leb128 (suc m) k h = (elim (nat_lt k 128) as
    (λ v. nat_lt k 128 ≡ v → length (if v then k ∷ [] else (128 + k % 128) ∷ leb128 m (k / 128)) ≤ k) [
      | true ↦ λ e. omega arith
      | false ↦ λ e.
          let high : 128 ≤ k = grind (arith, nat_tests) in
          omega (arith, length-leb128 m (k / 128) (omega arith))
    ]) refl

-- no bytes
pub posted-nil : IsPosted [] 0
unfolding numbers_of
posted-nil = grind arith

pub numbers_of-nil : numbers_of [] ≡ []
unfolding numbers_of
numbers_of-nil = refl

-- the bytes of one more difference give one more number
told-more : (bytes : List ℕ) (next n : ℕ) → IsPosted bytes next → next ≤ n → n + 1 < 2 ^ 32
    → numbers_so_far (bytes ++ leb128 5 (n + 1 - next)) ≡ state_after_numbers (numbers_of bytes ++ n ∷ []) (n + 1)
told-more bytes next n p low high =
    let number : next + (0 + (n + 1 - next) * 1) - 1 ≡ n = omega arith in
    let end : next + (0 + (n + 1 - next) * 1) ≡ n + 1 = omega arith in
    cc (
      fold-append state_after_byte (state_after_numbers [] 0) bytes (leb128 5 (n + 1 - next)),
      told-leb128 4 (state_after_numbers (numbers_of bytes) next) (n + 1 - next) (omega arith),
    )

pub numbers_of-more : (bytes : List ℕ) (next n : ℕ) → IsPosted bytes next → next ≤ n → n + 1 < 2 ^ 32
    → numbers_of (bytes ++ leb128 5 (n + 1 - next)) ≡ numbers_of bytes ++ n ∷ []
unfolding numbers_of
numbers_of-more bytes next n p low high = ap (λ t. t.numbers) (told-more _ _ n p low high)

pub posted-more : (bytes : List ℕ) (next n : ℕ) → IsPosted bytes next → next ≤ n → n + 1 < 2 ^ 32
    → IsPosted (bytes ++ leb128 5 (n + 1 - next)) (n + 1)
posted-more bytes next n p low high =
    grind (
      arith,
      numbers_of,
      leb128,
      numbers_of-more,
      end_from,
      told-more,
      state_after_numbers,
      postings,
      postings-snoc,
      end_from-snoc,
      length-append,
      length-leb128,
    )

-- a number below the end changes nothing
pub with_number-low : (ns : List ℕ) (n : ℕ) → n < end_from 0 ns → with_number ns n ≡ ns
unfolding with_number
with_number-low ns n h = grind (arith, end_from)

pub with_number-new : (ns : List ℕ) (n : ℕ) → end_from 0 ns ≤ n → with_number ns n ≡ ns ++ n ∷ []
unfolding with_number
with_number-new ns n h = grind (arith, end_from)

pub with_number-nil : (n : ℕ) → with_number [] n ≡ n ∷ []
with_number-nil n = with_number-new _ n (omega arith)
