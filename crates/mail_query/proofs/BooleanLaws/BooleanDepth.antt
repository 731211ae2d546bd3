-- The queries of the boolean language have at most 63 levels, because at most 30 `(` and `not` are open.
use Rattle.mail_query.proofs.Words.{◌≡◌, ℕ, suc, ◌+◌, ◌*◌, ◌-◌, ◌<◌, ◌≤◌, Bool, true, cond, ltb, ltb-true, List, [], ◌∷◌, map, Result, arith, Fields, QueryFaultKind, Query, depth, all_of, either_of, Lexicon, Token, no_fields, Link, Item, NotOf, Group, Leaf, Chain, Last, Then, with_link, query_or_any, seen_after, item_query, chain_queries, is_fine_item, is_fine_chain, Reads}
use Rattle.mail_query.specs.BooleanTerms.{boolean_term_query}
use Rattle.mail_query.proofs.BooleanLaws.BooleanComplete.{and_left, and_right}
use Rattle.mail_query.proofs.MairixLaws.DepthLemmas.{AreShallow, depth-all_of, depth-either_of}

-- ---- terms have one level

IsFlat : Result Query QueryFaultKind → Type 0
IsFlat r = depth (query_or_any r) ≤ 1

if_flat : (b : Bool) (r s : Result Query QueryFaultKind) → IsFlat r → IsFlat s → IsFlat (cond b r s)
if_flat b r s h h2 = grind arith

module _ (lexicon : Lexicon) where
  term_flat : (t : List ℕ) → IsFlat (boolean_term_query lexicon t)
  unfolding IsFlat
  term_flat t = grind (arith, if_flat)

-- ---- inside this many open `(` and `not`

AllShallow : ℕ → List (List Query) → Type 0
AllShallow m [] = Unit {0}
AllShallow m (qs ∷ qss) = AreShallow m qs × AllShallow m qss

eaches_shallow : (m : ℕ) (qss : List (List Query)) → AllShallow m qss → AreShallow (suc m) (map all_of qss)
unfolding AreShallow AllShallow
eaches_shallow m [] h = tt
eaches_shallow m (qs ∷ qss) h = (depth-all_of m qs h.0, eaches_shallow m qss h.1)

linked_shallow : (m : ℕ) (l : Link) (q : Query) (qss : List (List Query)) → depth q ≤ m → AllShallow m qss
    → AllShallow m (with_link l q qss)
unfolding AreShallow AllShallow
linked_shallow m l q qss h h2 = grind arith

-- members of an alternative have at most 61 levels, less two for each open `(` or `not`; a group has two more
made_depth : (n : ℕ) (qss : List (List Query)) → n ≤ 30 → AllShallow (61 - 2 * n) qss
    → depth (either_of (map all_of qss)) ≤ 63 - 2 * n
made_depth n qss few h = omega (
  arith,
  few,
  depth-either_of (suc (61 - 2 * n)) (map all_of qss) (eaches_shallow (61 - 2 * n) qss h),
)

module _ (lexicon : Lexicon) where
  mutual
    unfolding IsFlat AreShallow AllShallow

    item_depth : (i : Item) (n : ℕ) (seen : Fields) → n ≤ 30 → is_fine_item lexicon i n seen ≡ true
        → depth (item_query lexicon i) ≤ 61 - 2 * n
    item_depth (Leaf t) n seen few h = omega (arith, few, term_flat lexicon t)
    item_depth (NotOf i) n seen few h =
        let room : n < 30 = ltb-true n 30 (and_left (ltb n 30) _ h) in
        omega (arith, room, item_depth i (n + 1) no_fields (omega (arith, room)) (and_right (ltb n 30) _ h))
    item_depth (Group c) n seen few h =
        let room : n < 30 = ltb-true n 30 (and_left (ltb n 30) _ h) in
        omega (
          arith,
          room,
          made_depth (n + 1) (chain_queries lexicon c) (omega (arith, room))
              (chain_shallow c (n + 1) no_fields (omega (arith, room)) (and_right (ltb n 30) _ h)),
        )

    chain_shallow : (c : Chain) (n : ℕ) (seen : Fields) → n ≤ 30 → is_fine_chain lexicon c n seen ≡ true
        → AllShallow (61 - 2 * n) (chain_queries lexicon c)
    chain_shallow (Last i) n seen few h = ((item_depth i n seen few h, tt), tt)
    chain_shallow (Then i l c) n seen few h =
        linked_shallow (61 - 2 * n) l (item_query lexicon i) (chain_queries lexicon c)
        (item_depth i n seen few (and_left (is_fine_item lexicon i n seen) _ h))
        (chain_shallow c n (seen_after i l seen) few (and_right (is_fine_item lexicon i n seen) _ h))

  -- each query that the grammar gives has at most 63 levels
  pub reads_depth : (ts : List Token) (q : Query) → Reads lexicon ts q → depth q ≤ 63
  reads_depth ts q r = rw r.asked at (made_depth 0 (chain_queries lexicon r.tree) (omega arith)
      (chain_shallow r.tree 0 no_fields (omega arith) r.fine))
