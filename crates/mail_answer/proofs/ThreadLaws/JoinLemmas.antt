-- Trees are joined by hanging a root at an earlier root, message by message and key by key.
use Rattle.mail_answer.proofs.Words.{◌≡◌, ◌∙◌, ◌<◌, ◌≤◌, ℕ, true, ◌&&◌, List, [], ◌∷◌, length, get_or, inl, inr, refl, sym, ap, eq-eqb, arith, list_any, set, eqb-true, or_cases, or_left, or_right, and_parts, and_from, Table, is_number_among, IsInThread, StaysInThreads, LabelsTrees, Shortens, Unites, AreBothAmong, ShareKey}
use Rattle.std.proofs.Math.ListN.{length-set}
use Rattle.mail_answer.proofs.ThreadLaws.ThreadLemmas.{through, back_again}
use Rattle.mail_answer.proofs.ThreadLaws.ForestLemmas.{still_back, still_threads, still_labels, label_there}

-- a root becomes a child of an earlier root
pub hung : (p q : List ℕ) (number other high low : ℕ) → Shortens p q → high < length q → low ≤ high → get_or q high 0
    ≡ high
    → ((label : ℕ → ℕ) → LabelsTrees label q → label high ≡ label low → label number ≡ label other)
    → ((t : Table) → StaysInThreads t p → IsInThread t number other → IsInThread t high low)
    → Unites (λ m n. (m ≡ number) × (n ≡ other)) p (set q high low)
hung p q number other high low short lt before root joins leads = record {
  long = length-set q high low ∙ short.long;
  back = grind (arith, still_back);
  labels = λ label labels. short.labels label (still_labels _ q _ _ lt (ap label root) labels);
  united = λ m n pair label labels.
      ap label pair.0 ∙ joins label (still_labels _ q _ _ lt (ap label root) labels)
      (sym (label_there _ q _ _ lt labels)) ∙ sym (ap label pair.1);
  threads = grind (arith, still_threads);
}

-- the roots of two messages of one thread are in it
pub roots_linked : (t : Table) (number other first second : ℕ) → IsInThread t number first → IsInThread t other second
    → IsInThread t number other → IsInThread t first second
roots_linked = search (arith, through, back_again)

-- ---- all messages of a key

one_of : (first n : ℕ) (ns : List ℕ) → n ≡ first → is_number_among n (first ∷ ns) ≡ true
one_of first n ns same = or_left _ _ (eq-eqb n first same)

after_first : (first n : ℕ) (ns : List ℕ) → is_number_among n ns ≡ true → is_number_among n (first ∷ ns) ≡ true
after_first first n ns among = or_right _ _ among

between : (first n x : ℕ) (ns : List ℕ) → is_number_among x (first ∷ ns) ≡ true → is_number_among x (first ∷ n ∷ ns)
    ≡ true
between = grind (arith, or_cases, one_of, eqb-true, after_first)

-- if one more number has the label of the first, all have it
as_first : (label : ℕ → ℕ) (first n : ℕ) (ns : List ℕ) → label n ≡ label first
    → ((x : ℕ) → is_number_among x (first ∷ ns) ≡ true → label x ≡ label first)
    → (x : ℕ) → is_number_among x (first ∷ n ∷ ns) ≡ true → label x ≡ label first
as_first = grind (arith, or_cases, eqb-true, after_first)

pub united_one : (p : List ℕ) (first : ℕ) → Unites (AreBothAmong (first ∷ [])) p p
united_one = grind (arith, or_cases, eqb-true)

pub united_more : (p q r : List ℕ) (first n : ℕ) (ns : List ℕ) → Unites (λ x y. (x ≡ first) × (y ≡ n)) p q
    → Unites (AreBothAmong (first ∷ ns)) q r → Unites (AreBothAmong (first ∷ n ∷ ns)) p r
united_more p q r first n ns one rest = record {
  long = rest.long ∙ one.long;
  back = grind arith;
  labels = λ label labels. one.labels label (rest.labels label labels);
  united = λ x y both label labels. all _ labels x both.0 ∙ sym (all _ labels y both.1);
  threads = λ t given stays.
      rest.threads t (λ x y both. given x y (between _ n x _ both.0, between _ n y _ both.1))
      (one.threads t (λ x y pair. given x y (
        one_of _ x (n ∷ ns) pair.0,
        after_first _ y (n ∷ ns) (one_of n y _ pair.1),
      )) stays);
}
  where
    all : (label : ℕ → ℕ) → LabelsTrees label r → (x : ℕ) → is_number_among x (first ∷ n ∷ ns) ≡ true → label x
        ≡ label first
    all label labels =
        as_first _ _ n _ (sym (one.united first n (refl, refl) label (rest.labels label labels)))
        (λ x among. rest.united x first (among, one_of first _ _ refl) label labels)

-- ---- all keys

pub keys_more : (p q r : List ℕ) (k : List ℕ × List ℕ) (ks : List (List ℕ × List ℕ)) → Unites (AreBothAmong k.1) p q
    → Unites (ShareKey ks) q r → Unites (ShareKey (k ∷ ks)) p r
keys_more p q r k ks one rest = record {
  long = rest.long ∙ one.long;
  back = grind arith;
  labels = λ label labels. one.labels label (rest.labels label labels);
  united = λ x y share label labels.
      elim (or_cases (is_number_among x k.1 && is_number_among y k.1)
      (list_any (λ key. is_number_among x key.1 && is_number_among y key.1) ks) share) [
        | inl here ↦ one.united x y (and_parts (is_number_among x k.1) (is_number_among y k.1) here) label
            (rest.labels label labels)
        | inr after ↦ rest.united x y after label labels
      ];
  threads = λ t given stays.
      rest.threads t (λ x y share. given x y
      (or_right _
      _ share))
      (one.threads t (λ x y both. given x y (or_left _
      _
      (and_from _ _ both.0 both.1))) stays);
}
