-- Lists with a truth for each message, and the numbers of those that are true.
use Rattle.mail_answer.proofs.Words.{◌≡◌, ◌∙◌, ◌+◌, ◌<◌, ℕ, zero, suc, Bool, true, false, cond, not, List, [], ◌∷◌, ◌++◌, length, map, Some, refl, sym, ap, arith, filter, range_with_len, slice_get, map-id, ext_get_or, length-map, get_or-map, filter_of_map_range_with_len_more, fill_by_all, Record, record_at, truth_at, each_number, replicate, get_or-replicate, length-replicate, Adds}
use Rattle.std.proofs.lemmas.List.{append-nil}

-- the record that a list has at a number
pub record_known : (messages : List Record) (n : ℕ) → n < length messages → slice_get messages n
    ≡ Some (record_at messages n)
record_known [] n lt = absurd (omega (arith, lt))
record_known (m ∷ ms) zero lt = refl
record_known (m ∷ ms) (suc n) lt = record_known ms n (omega (arith, lt))

-- as many truths as messages, each given by the test
pub told : (count : ℕ) (test : ℕ → Bool) (xs : List Bool) → length xs ≡ count
    → ((n : ℕ) → n < count → truth_at xs n ≡ test n) → xs ≡ each_number count test
told count test xs long each = fill_by_all _ _ _ _ long each

-- each truth is negated
pub turned : (xs ys : List Bool) → length ys ≡ length xs
    → ((n : ℕ) → n < length xs → truth_at ys n ≡ not (truth_at xs n)) → ys ≡ map not xs
turned xs ys long each =
    ext_get_or false ys (map not xs) (long ∙ sym (length-map xs not)) (grind (arith, get_or-map))

-- ---- the numbers of the messages that are true

-- one more number is tested
pub filter_more : (test : ℕ → Bool) (n : ℕ) → filter test (range_with_len 0 (n + 1))
    ≡ filter test (range_with_len 0 n) ++ cond (test n) (n ∷ []) []
filter_more test n =
    sym (ap (filter test) (map-id (range_with_len 0 (n + 1))))
    ∙ filter_of_map_range_with_len_more _ _ 0 n n (omega arith)
    ∙ ap (λ ms. filter test ms ++ cond (test n) (n ∷ []) []) (map-id (range_with_len 0 n))

-- the number passes and is added
pub filter_true : (test : ℕ → Bool) (n : ℕ) (xs ys : List ℕ) → xs ≡ filter test (range_with_len 0 n) → test n ≡ true
    → ys ≡ xs ++ n ∷ [] → ys ≡ filter test (range_with_len 0 (n + 1))
filter_true = grind (arith, filter_more)

-- the number doesn't pass
pub filter_false : (test : ℕ → Bool) (n : ℕ) (xs : List ℕ) → xs ≡ filter test (range_with_len 0 n) → test n ≡ false → xs
    ≡ filter test (range_with_len 0 (n + 1))
filter_false = grind (arith, append-nil, filter_more)

-- truths that were added to none
pub adds_to_none : (f : ℕ → Bool) (count : ℕ) (xs ys : List Bool) → xs ≡ replicate count false → Adds f xs ys → ys
    ≡ each_number count f
adds_to_none = grind (arith, length-replicate, told, get_or-replicate)
