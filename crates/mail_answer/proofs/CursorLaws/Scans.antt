-- A walk along records gives exactly those that pass the test, because it reads each record once, in order.
use Rattle.mail_answer.proofs.Words.{◌≡◌, ◌≢◌, ◌∙◌, ◌<◌, ◌≤◌, ℕ, Bool, true, false, max, Option, Some, None, sym, arith, ltb-true, ltb-false, cases_lt, cases_order, ne_eqb, lt-leb, truth_at, Drops, IsFirst, is_before, truths_scanned, IsFound, Scans}
use Rattle.std.proofs.lemmas.Bool.{eq-eqb}
use Rattle.mail_answer.proofs.CursorLaws.TruthReads.{each-at, each-past}

module _ (count : ℕ) (test : ℕ → Bool) where
  -- the truth of the number that was found, of others before the next record, of those after it, and past the last
  -- record
  told_found : (next n : ℕ) → n < count → truth_at (truths_scanned count test next (Some n)) n ≡ true
  told_found = grind (arith, each-at, eq-eqb)

  told_none : (next m : ℕ) → m < next → truth_at (truths_scanned count test next None) m ≡ false
  told_none = grind (arith, cases_lt, each-at, lt-leb, each-past)

  told_after : (next m : ℕ) → m < count → next ≤ m → truth_at (truths_scanned count test next None) m ≡ test m
  told_after = grind (arith, each-at)

  told_past : (next m : ℕ) (first : Option ℕ) → count ≤ m → truth_at (truths_scanned count test next first) m ≡ false
  told_past next m first past = each-past _ _ m past

  told_other : (next n m : ℕ) → m ≢ n → truth_at (truths_scanned count test next (Some n)) m
      ≡ truth_at (truths_scanned count test next None) m
  told_other = grind (arith, cases_lt, each-at, ne_eqb, told_past)

  -- a first number that isn't below n stays
  pub stays_drops : (next n : ℕ) (first : Option ℕ) → IsFound count next first → is_before first n ≡ false
      → Drops n (truths_scanned count test next first) (truths_scanned count test next first)
  stays_drops = grind (arith, ltb-false, told_other, told_none)

  pub stays_first : (next n : ℕ) (first : Option ℕ) → IsFound count next first → is_before first n ≡ false
      → IsFirst (truths_scanned count test next first) first
  stays_first = grind (arith, told_found, told_other, told_none)

  -- a first number below n makes no difference from n on
  told_from : (next n m : ℕ) (first : Option ℕ) → is_before first n ≡ true → n ≤ m
      → truth_at (truths_scanned count test next first) m ≡ truth_at (truths_scanned count test next None) m
  told_from = grind (arith, ltb-true, told_other)

  pub scan_first : (start next : ℕ) (found : Option ℕ) → Scans count test start next found
      → IsFirst (truths_scanned count test next found) found
  scan_first = grind (arith, cases_lt, told_none, told_past, told_found, told_other)

  -- no number from n on is lost
  scan_rest : (n old start next : ℕ) (found : Option ℕ) → start ≡ max n old → Scans count test start next found
      → (m : ℕ) → n ≤ m
      → truth_at (truths_scanned count test next found) m ≡ truth_at (truths_scanned count test old None) m
  scan_rest =
      grind (arith, cases_lt, told_past, told_none, told_after, scan_first, told_other, cases_order, told_found)

  scan_below : (n start next : ℕ) (found : Option ℕ) → n ≤ start → Scans count test start next found → (m : ℕ) → m < n
      → truth_at (truths_scanned count test next found) m ≡ false
  scan_below = grind (arith, scan_first, told_other, told_none)

  pub scan_drops : (n old start next : ℕ) (first found : Option ℕ) → is_before first n ≡ true → start ≡ max n old
      → Scans count test start next found
      → Drops n (truths_scanned count test old first) (truths_scanned count test next found)
  scan_drops n old start next first found before is scans = record {
    rest = λ m le. scan_rest n _ _ _ _ is scans m le ∙ sym (told_from _ n m _ before le);
    below = grind (arith, scan_below);
  }
