-- Unfolding part by part gives the unfolded body.
use Rattle.header_text.proofs.Words.{suc, ◌≡◌, ◌+◌, ◌-◌, Bor, Option, MatchOption, unwrap_or, bytes_eq, ◌∙◌, ◌++◌, ◌&&◌, ℕ, Bool, true, false, nat_lt, List, [], ◌∷◌, None, length, take, drop, refl, arith, length-append, append_assoc, append-nil, nat_tests, lt-ltb, take_at, drop_at, after_blanks, before_blanks, without_breaks, unfolded_body, without_final_cr, added_part, cut_at}
use Rattle.header_text.proofs.CutLemmas.{Lacks, IsCut, Lacks-from}

-- ---- a CR at the end

abbrev ends_in_cr : List ℕ → Bool
ends_in_cr bs = bytes_eq (drop (length bs - 1) bs) (0x0D ∷ [])

cr-goes : (bs : List ℕ) → ends_in_cr bs ≡ true → without_final_cr bs ≡ take (length bs - 1) bs
cr-goes [] h = refl
cr-goes (b ∷ []) h = grind arith
cr-goes (b ∷ c ∷ bs) h =
    let e : length (b ∷ c ∷ bs) - 1 ≡ suc (length (c ∷ bs) - 1) = omega arith in
    grind (arith, cr-goes (c ∷ bs))

no_cr-stays : (bs : List ℕ) → ends_in_cr bs ≡ false → without_final_cr bs ≡ bs
no_cr-stays [] h = refl
no_cr-stays (b ∷ []) h = grind arith
no_cr-stays (b ∷ c ∷ bs) h =
    let e : length (b ∷ c ∷ bs) - 1 ≡ suc (length (c ∷ bs) - 1) = omega arith in
    grind (arith, no_cr-stays (c ∷ bs))

-- the result of `strip_suffix`
pub without_final_cr-stripped : (bs : Bor (List ℕ)) (r : Option (Bor (List ℕ)))
    → MatchOption r (ends_in_cr bs.now ≡ false)
    (λ x. (ends_in_cr bs.now ≡ true) × (x.now ≡ take (length bs.now - 1) bs.now)
    × (length x.now + 1 ≡ length bs.now))
    → (unwrap_or r bs).now ≡ without_final_cr bs.now
without_final_cr-stripped bs r h = grind (arith, no_cr-stays, cr-goes)

-- ---- breaks

and_false : (b : Bool) → (b && false) ≡ false
and_false b = grind arith

-- a byte before others, which is dropped or kept
chosen : ℕ → List ℕ → Bool → List ℕ
chosen b bs t = elim t [ true ↦ without_breaks bs | false ↦ b ∷ without_breaks bs ]

breaks-feed : (later : List ℕ) → without_breaks (0x0A ∷ later) ≡ without_breaks later
breaks-feed later = grind arith

-- a line without LF, its LF, and what follows
breaks-cut : (line later : List ℕ) → Lacks 0x0A line → without_breaks (line ++ 0x0A ∷ later)
    ≡ without_final_cr line ++ without_breaks later
unfolding chosen
breaks-cut [] later free = breaks-feed later
breaks-cut (b ∷ []) later free = grind arith
breaks-cut (b ∷ c ∷ line) later free = grind (arith, and_false, chosen, breaks-cut (c ∷ line) later free.1)

-- a line without LF has no break
breaks-free : (line : List ℕ) → Lacks 0x0A line → without_breaks line ≡ line
unfolding chosen
breaks-free [] free = refl
breaks-free (b ∷ []) free = rw (free.0, without_breaks) refl
breaks-free (b ∷ c ∷ line) free = grind (arith, and_false, chosen, breaks-free (c ∷ line) free.1)

-- ---- blanks at the front

abbrev pub is_some_bytes : List ℕ → Bool
is_some_bytes [] = false
is_some_bytes (b ∷ bs) = true

after_blanks-append : (p w : List ℕ) → after_blanks p ++ added_part (is_some_bytes (after_blanks p)) w
    ≡ after_blanks (p ++ w)
after_blanks-append [] w = refl
after_blanks-append (b ∷ p) w = grind (arith, after_blanks-append p w)

-- one more part
led-append : (done p w : List ℕ) → (done ++ added_part (is_some_bytes done) p) ++ added_part
    (is_some_bytes (done ++ added_part (is_some_bytes done) p)) w ≡ done ++ added_part (is_some_bytes done) (p ++ w)
led-append done p w = grind (arith, after_blanks-append, append_assoc)

is_some-test : (old done : List ℕ) → nat_lt (length old) (length (old ++ done)) ≡ is_some_bytes done
is_some-test old done = grind (arith, nat_tests, append-nil, length-append, lt-ltb)

-- ---- the whole

-- this much is written, and the rest gives what is missing
pub record Unfolds (old body items rest : List ℕ) : Type 0 where
  pub done : List ℕ
  pub items_are : items ≡ old ++ done
  pub sofar : done ++ added_part (is_some_bytes done) (without_breaks rest) ≡ after_blanks (without_breaks body)

pub unfolds-line : (old body items rest line after new : List ℕ) → Unfolds old body items rest
    → IsCut 0x0A rest line after
    → new ≡ items ++ added_part (nat_lt (length old) (length items)) (without_final_cr line)
    → Unfolds old body new after
unfolds-line old body items rest line after new h cut e =
    grind (arith, is_some-test, breaks-cut, append_assoc, led-append)

pub unfolds-end : (old body items rest new : List ℕ) → Unfolds old body items rest → Lacks 0x0A rest
    → new ≡ items ++ added_part (nat_lt (length old) (length items)) rest → new
    ≡ old ++ after_blanks (without_breaks body)
unfolds-end old body items rest new h free e =
    grind (arith, is_some-test, append_assoc, breaks-free)

-- the end is trimmed
pub unfolded-trimmed : (old body items : List ℕ) → items ≡ old ++ after_blanks (without_breaks body)
    → take (length old) items ++ before_blanks (drop (length old) items) ≡ old ++ unfolded_body body
unfolding unfolded_body
unfolded-trimmed old body items e = grind (arith, take_at, drop_at)

-- the rest has no break
pub unfolds-rest : (old body items rest new : List ℕ) (start : ℕ) → start ≡ length old → Unfolds old body items rest
    → cut_at 0x0A rest ≡ None
    → new ≡ items ++ added_part (nat_lt start (length items)) rest → new ≡ old ++ after_blanks (without_breaks body)
unfolds-rest old body items rest new start s h none e =
    unfolds-end old body items rest new h (Lacks-from 0x0A rest none)
    (cc)
