-- Trees whose paths are made shorter have the same roots, because each step leads from a message to one of its tree.
use Rattle.mail_answer.proofs.Words.{◌≡◌, ◌≢◌, ◌∙◌, ◌+◌, ◌<◌, ◌≤◌, ℕ, List, length, get_or, inl, inr, sym, ap, subst, arith, set, get_or-set_same, get_or-set_other, eqb_tells, Table, IsInThread, LeadsBack, StaysInThreads, LabelsTrees, Shortens}
use Rattle.std.proofs.Math.ListN.{length-set}
use Rattle.mail_answer.proofs.ThreadLaws.ThreadLemmas.{through}

-- ---- one parent is exchanged

same_there : (p : List ℕ) (i g n : ℕ) → i < length p → n ≡ i → get_or (set p i g) n 0 ≡ g
same_there p i g n lt same = ap (λ k. get_or (set p i g) k 0) same ∙ get_or-set_same p i g 0 lt

-- what is true of the new parent at its place, and of the old ones at the others, is true of each
pub each_parent : (P : ℕ → ℕ → Type 0) (p : List ℕ) (i g : ℕ) → i < length p → P i g
    → ((n : ℕ) → n < length p → n ≢ i → P n (get_or p n 0)) → (n : ℕ) → n < length p → P n (get_or (set p i g) n 0)
each_parent P = grind (arith, eqb_tells, same_there, get_or-set_other)

pub still_back : (p : List ℕ) (i g : ℕ) → i < length p → g ≤ i → LeadsBack p → LeadsBack (set p i g)
still_back p i g lt before back = λ n within. each_parent (λ m r. r ≤ m) p i g lt before (λ m h ne. back m h) n
    (subst (λ k. n < k) (length-set p i g) within)

pub still_threads : (t : Table) (p : List ℕ) (i g : ℕ) → i < length p → IsInThread t i g → StaysInThreads t p
    → StaysInThreads t (set p i g)
still_threads t p i g lt leads stays = λ n within. each_parent (IsInThread t) p i g lt leads (λ m h ne. stays m h) n
    (subst (λ k. n < k) (length-set p i g) within)

-- a label of the new trees is one of the old ones, if it is right at the exchanged place
pub still_labels : (label : ℕ → ℕ) (p : List ℕ) (i g : ℕ) → i < length p → label (get_or p i 0) ≡ label i
    → LabelsTrees label (set p i g) → LabelsTrees label p
still_labels = grind (arith, eqb_tells, get_or-set_other, length-set)

pub label_there : (label : ℕ → ℕ) (p : List ℕ) (i g : ℕ) → i < length p → LabelsTrees label (set p i g) → label g
    ≡ label i
label_there label p i g lt labels = ap label (sym (get_or-set_same p i g 0 lt))
    ∙ labels i (subst (λ k. i < k) (sym (length-set p i g)) lt)

-- ---- a message gets its parent's parent

-- a label of the new trees is one of the old ones
same_label : (label : ℕ → ℕ) (p : List ℕ) (i : ℕ) → i < length p → get_or p i 0 < length p
    → LabelsTrees label (set p i (get_or p (get_or p i 0) 0)) → label (get_or p i 0) ≡ label i
same_label label p i lt parent labels =
    elim (eqb_tells (get_or p i 0) i) [
      | inl this ↦ ap label this.1
      | inr other ↦
          sym (ap label (sym (get_or-set_other p i (get_or p i 0) (get_or p (get_or p i 0) 0) 0 other.1))
          ∙ labels (get_or p i 0) (subst (λ k. get_or p i 0 < k)
          (sym (length-set p i (get_or p (get_or p i 0) 0))) parent))
          ∙ label_there _ p i _ lt labels
    ]

pub lifted : (p : List ℕ) (i : ℕ) → LeadsBack p → i < length p → Shortens p (set p i (get_or p (get_or p i 0) 0))
lifted p i back lt =
    let g = get_or p (get_or p i 0) 0 in
    let parent : get_or p i 0 < length p = omega arith in
    record {
      long = length-set p i g;
      back = grind (arith, still_back);
      roots = λ n within root.
          elim (eqb_tells n i) [
            | inl this ↦
                grind (arith, same_there)
            | inr other ↦ get_or-set_other p i n g 0 other.1 ∙ root
          ];
      labels = λ label labels. still_labels _ p i g lt (same_label _ p i lt parent labels) labels;
      threads = λ t stays. still_threads t p i g lt
          (through t i _ g (stays i lt) (grind arith)) stays;
    }

-- the same, with the values that `lift` has
pub lifted_to : (p q : List ℕ) (i r : ℕ) → LeadsBack p → i < length p → r ≡ get_or p (get_or p i 0) 0 → q ≡ set p i r
    → Shortens p q
lifted_to p q i r back lt value after = subst (Shortens p) (sym (after ∙ ap (set p i) value)) (lifted p i back lt)

parent_within : (p : List ℕ) (i : ℕ) → LeadsBack p → i < length p → get_or p i 0 < length p
parent_within = omega arith

pub lifted_before : (p : List ℕ) (i r : ℕ) → LeadsBack p → i < length p → r ≡ get_or p (get_or p i 0) 0
    → r ≤ get_or p i 0
lifted_before = grind (arith, parent_within)

pub lifted_label : (label : ℕ → ℕ) (p : List ℕ) (i r : ℕ) → LeadsBack p → i < length p → r ≡ get_or p (get_or p i 0) 0
    → LabelsTrees label p → label i ≡ label r
lifted_label = grind (arith, parent_within)

pub lifted_thread : (t : Table) (p : List ℕ) (i r : ℕ) → LeadsBack p → i < length p → r ≡ get_or p (get_or p i 0) 0
    → StaysInThreads t p → IsInThread t i r
lifted_thread t p i r back lt value stays =
    subst (IsInThread t i) (sym value) (through t i _ _ (stays i lt)
    (grind (arith, parent_within)))

-- ---- steps one after another

pub shorter_still : (p q r : List ℕ) → Shortens p q → Shortens q r → Shortens p r
shorter_still p q r first second = record {
  long = grind arith;
  back = grind arith;
  roots = grind arith;
  labels = λ label labels. first.labels label (second.labels label labels);
  threads = grind arith;
}

-- ---- each message is a child of its root

-- one more message
pub flat_more : (p q : List ℕ) (i r : ℕ) → LeadsBack p → i < length p → r ≡ get_or p (get_or p i 0) 0 → q ≡ set p i r
    → ((n : ℕ) → n < i → get_or p (get_or p n 0) 0 ≡ get_or p n 0) → (n : ℕ) → n < i + 1 → get_or q (get_or q n 0) 0
    ≡ get_or q n 0
flat_more = grind (arith, eqb_tells, set, same_there, get_or-set_other)
