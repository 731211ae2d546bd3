-- The reader's fault is the first fault, because the tokens before a place determine the state there.
use Rattle.mail_query.proofs.Words.{◌≡◌, ℕ, zero, suc, ◌+◌, Bool, true, false, not, cond, eqb, List, [], ◌∷◌, ◌++◌, length, Option, None, Some, Result, Ok, Err, refl, sym, ap, subst, ◌∙◌, append-nil, arith, is_none, ◌>>=◌, fault_as, Field, Fields, QueryFault, QueryFaultKind, NeedsOperator, MissingTerm, Lexicon, Query, Token, Open, Close, AndSign, OrSign, NotSign, no_fields, with_field, parts_query, Link, Beside, ByAnd, ByOr, Item, NotOf, Group, Leaf, Chain, Last, Then, link_tokens, item_tokens, chain_tokens, plain_prefix, seen_after, Reads, is_wanted, open_count, waiting_count, is_not, fields_before, needs_operator, err_of, deep_fault, operator_fault, close_fault, first_some, term_fault, token_fault, first_fault_from, first_fault, Level, Waiting, State, is_negated, has_open, deeper, state_after_close, cut_term_step, term_step, step, run_from, tokens_query}
use Rattle.mail_query.proofs.BooleanLaws.BooleanComplete.{reading_answered}
use Rattle.mail_query.proofs.BooleanLaws.BooleanTrees.{Front, Nothing, After, Part, Wait, WaitNot, WaitClose, nothing_read, front_tokens, last_tokens, part_tokens, spelled, seen_front, last_prefix, seen_of, wanted_of, waits_not, wanted_after, front_wanted, is_closed, level_of, waiting_of, state_of, length-waiting_of, negated-waiting_of, Fine, reach, answer_read}

-- tokens after those before them, the nearest first
abbrev back_after : List Token → List Token → List Token
back_after [] back = back
back_after (t ∷ ts) back = back_after ts (t ∷ back)

back_after-append : (xs ys back : List Token) → back_after (xs ++ ys) back ≡ back_after ys (back_after xs back)
back_after-append [] ys back = refl
back_after-append (t ∷ xs) ys back = back_after-append xs ys (t ∷ back)

cond_same : {A : Type 0} (b : Bool) (x : A) → cond b x x ≡ x
cond_same b x = grind arith

not_passed : (k : ℕ) (back : List Token) → waiting_count false k (NotSign ∷ back) ≡ waiting_count false k back
not_passed k back = grind arith

-- ---- what is open after a whole operand or chain

record Passes (back after : List Token) : Type 0 where
  wanted : is_wanted after ≡ false
  plain : is_not after ≡ false
  opens : (k : ℕ) → open_count k after ≡ open_count k back
  waits : (f : Bool) (k : ℕ) → waiting_count f k after ≡ waiting_count false k back
  inside : (k : ℕ) → fields_before (suc k) after ≡ fields_before (suc k) back

record Leaves (i : Item) (back after : List Token) : Type 0 where
  passes : Passes back after
  run : fields_before zero after ≡ with_field (cond (is_not back) None (plain_prefix i)) (fields_before zero back)

abbrev linked_back : Link → List Token → List Token
linked_back Beside back = back
linked_back ByAnd back = AndSign ∷ back
linked_back ByOr back = OrSign ∷ back

link_after : (l : Link) (back : List Token) → back_after (link_tokens l) back ≡ linked_back l back
link_after l back = grind arith

passes_on : (l : Link) (back middle after : List Token) → Passes back middle → Passes (linked_back l middle) after
    → Passes back after
passes_on l back middle after h h2 = grind arith

chain_after : (i : Item) (l : Link) (c : Chain) (back : List Token) → back_after (chain_tokens (Then i l c)) back
    ≡ back_after (chain_tokens c) (linked_back l (back_after (item_tokens i) back))
chain_after i l c back = grind (arith, back_after-append, link_after)

mutual
  item_leaves : (i : Item) (back : List Token) → Leaves i back (back_after (item_tokens i) back)
  item_leaves (NotOf i) back = grind (arith, not_passed, cond_same, item_leaves i (NotSign ∷ back))
  item_leaves (Group c) back =
      let r = chain_passes c (Open ∷ back) in
      let e : back_after (chain_tokens c ++ Close ∷ []) (Open ∷ back)
      ≡ Close ∷ back_after (chain_tokens c) (Open ∷ back) =
      back_after-append (chain_tokens c) (Close ∷ []) (Open ∷ back) in
      subst (Leaves (Group c) back) (sym e) (record {
        passes = record {
          wanted = refl;
          plain = refl;
          opens = λ k. r.opens (suc k);
          waits =
              λ f k. r.waits false (suc k);
          inside = λ k. r.inside (suc k);
        };
        run = r.inside zero ∙ ap (λ (o : Option Field). with_field o (fields_before zero back))
            (sym (cond_same (is_not back) None));
      })
  item_leaves (Leaf t) back = grind arith

  chain_passes : (c : Chain) (back : List Token) → Passes back (back_after (chain_tokens c) back)
  chain_passes (Last i) back = (item_leaves i back).passes
  chain_passes (Then i l c) back =
      subst (Passes back) (sym (chain_after i l c back))
      (passes_on l back (back_after (item_tokens i) back) _ (item_leaves i back).passes
      (chain_passes c (linked_back l (back_after (item_tokens i) back))))

-- ---- what is open after a part, at the front of all or after a `(`

record Opens (back : List Token) : Type 0 where
  wanted : is_wanted back ≡ true
  plain : is_not back ≡ false
  fields : fields_before zero back ≡ no_fields
  waits : (f : Bool) (k : ℕ) → waiting_count f k back ≡ waiting_count false k back

opens_all : Opens []
opens_all = grind arith

opens_group : (back : List Token) → Opens (Open ∷ back)
opens_group back = grind arith

record Stands (back after : List Token) (wanted : Bool) (seen : Fields) : Type 0 where
  is_so : is_wanted after ≡ wanted
  plain : is_not after ≡ false
  fields : fields_before zero after ≡ seen
  opens : (k : ℕ) → open_count k after ≡ open_count k back
  waits : (f : Bool) (k : ℕ) → waiting_count f k after ≡ waiting_count false k back

item_stands : (i : Item) (back before : List Token) (w : Bool) (seen : Fields) → Stands back before w seen
    → Stands back (back_after (item_tokens i) before) false (with_field (plain_prefix i) seen)
item_stands i back before w seen s =
    let l = item_leaves i before in
    grind arith

link_stands : (i : Item) (l : Link) (back before : List Token) (seen : Fields)
    → Stands back before false (with_field (plain_prefix i) seen)
    → Stands back (linked_back l before) (wanted_after l) (seen_after i l seen)
link_stands i l back before seen h = grind arith

front_stands : (f : Front) (back : List Token) → Opens back
    → Stands back (back_after (front_tokens f) back) (front_wanted f) (seen_front f)
front_stands Nothing back o = grind arith
front_stands (After f i l) back o =
    let e : back_after (front_tokens f ++ (item_tokens i ++ link_tokens l)) back
    ≡ linked_back l (back_after (item_tokens i) (back_after (front_tokens f) back)) =
    grind (arith, back_after-append) in
    rw e (link_stands i l back (back_after (item_tokens i) (back_after (front_tokens f) back)) (seen_front f)
    (item_stands i back (back_after (front_tokens f) back) (front_wanted f) (seen_front f) (front_stands f back o)))

part_stands : (p : Part) (back : List Token) → is_closed p.front p.last ≡ true → Opens back
    → Stands back (back_after (part_tokens p) back) (is_none p.last) (seen_of p)
part_stands p back c o = go p.last c
  where
    go : (last : Option Item) → is_closed p.front last ≡ true
        → Stands back (back_after (front_tokens p.front ++ last_tokens last) back) (is_none last)
        (with_field (last_prefix last) (seen_front p.front))
    go None c =
        grind (arith, front_stands, append-nil)
    go (Some i) c =
        rw (back_after-append (front_tokens p.front) (item_tokens i) back)
        (item_stands i back (back_after (front_tokens p.front) back) (front_wanted p.front) (seen_front p.front)
        (front_stands p.front back o))

-- ---- what the tokens so far say

abbrev back_of : List Wait → Part → List Token
back_of ws p = back_after (spelled ws p) []

abbrev open_of : List Wait → ℕ
open_of [] = 0
open_of (WaitNot ∷ ws) = open_of ws
open_of (WaitClose outer ∷ ws) = suc (open_of ws)

record Shows (ws : List Wait) (p : Part) (back : List Token) : Type 0 where
  wanted : is_wanted back ≡ wanted_of ws p
  plain : is_not back ≡ waits_not ws
  fields : fields_before zero back ≡ seen_of p
  opens : open_count zero back ≡ open_of ws
  waits : waiting_count true zero back ≡ length ws

-- the fault, if there is one
abbrev pub fault_of : {T E : Type 0} → Result T E → Option E
fault_of (Ok x) = None
fault_of (Err e) = Some e

guarded : {T E : Type 0} (b : Bool) (fault : E) (r : Result T E) → fault_of (cond b (Err fault) r)
    ≡ cond b (Some fault) (fault_of r)
guarded b fault r = grind arith

module _ (lexicon : Lexicon) where
  shows : (ws : List Wait) (p : Part) → Fine lexicon ws p → Shows ws p (back_of ws p)
  unfolding Fine
  shows [] p fine =
      let s = part_stands p [] fine.closed opens_all in
      grind arith
  shows (WaitNot ∷ ws) p fine =
      grind (arith, back_after-append, shows ws p fine.0)
  shows (WaitClose outer ∷ ws) p fine =
      let before = shows ws outer fine.0 in
      let s = part_stands p (Open ∷ back_of ws outer) fine.2.closed (opens_group (back_of ws outer)) in
      grind (arith, back_after-append)

  open-has_open : (ws : List Wait) → eqb (open_of ws) 0 ≡ not (has_open (waiting_of lexicon ws))
  open-has_open [] = refl
  open-has_open (WaitNot ∷ ws) = open-has_open ws
  open-has_open (WaitClose outer ∷ ws) = grind arith

  -- ---- the fault at a token

  same_deep : (ws : List Wait) (p : Part) (back : List Token) (what : Waiting) (level : Level) → Shows ws p back
      → deep_fault back ≡ fault_of (deeper (waiting_of lexicon ws) what level)
  same_deep ws p back what level s = grind (arith, length-waiting_of, guarded, waiting_of)

  same_operator : (ws : List Wait) (p : Part) (back : List Token) (next : State) → Shows ws p back
      → operator_fault back ≡ fault_of {T = State} (cond (wanted_of ws p) (Err MissingTerm) (Ok next))
  same_operator ws p back next s = grind arith

  same_close : (ws : List Wait) (p : Part) (back : List Token) → Shows ws p back → close_fault back
      ≡ fault_of (state_after_close (state_of lexicon ws p))
  same_close ws p back s = grind (arith, open-has_open, waiting_of, waits_not, level_of)

  same_parts : (s : State) (back : List Token) (prefix : Option Field) (rest : List ℕ) → is_not back
      ≡ is_negated s.waiting → fields_before zero back ≡ s.level.seen
      → cond (needs_operator back prefix) (Some NeedsOperator) (err_of (parts_query lexicon prefix rest))
      ≡ fault_of (cut_term_step lexicon s prefix rest)
  same_parts s back prefix rest e h = grind arith

  same_term : (s : State) (back : List Token) (t : List ℕ) → is_not back ≡ is_negated s.waiting
      → fields_before zero back ≡ s.level.seen → term_fault lexicon back t ≡ fault_of (term_step lexicon s t)
  same_term s back t e h = grind (arith, same_parts)

  same_fault : (ws : List Wait) (p : Part) (back : List Token) (t : Token) → Shows ws p back
      → token_fault lexicon back t ≡ fault_of (step lexicon (state_of lexicon ws p) t)
  same_fault ws p back t h = grind (
    arith,
    same_term,
    state_of,
    negated-waiting_of,
    same_deep,
    level_of,
    same_close,
    same_operator,
    waiting_of,
  )

  -- ---- the first fault of all

  abbrev at_number : ℕ → QueryFaultKind → QueryFault
  at_number n kind = record { number = n; kind = kind }

  same_first : (n : ℕ) (ws : List Wait) (p : Part) (ts : List Token) → Fine lexicon ws p
      → first_fault_from lexicon n (back_of ws p) ts ≡ fault_of (run_from lexicon n (state_of lexicon ws p) ts)
  same_first n ws p [] fine = grind (arith, shows)
  same_first n ws p (t ∷ ts) fine =
      ap (λ (o : Option QueryFaultKind). first_some (at_number n) o
      (first_fault_from lexicon (n + 1) (t ∷ back_of ws p) ts)) (same_fault ws p (back_of ws p) t (shows ws p fine))
      ∙ go (step lexicon (state_of lexicon ws p) t) refl (λ vs r h. same_first (n + 1) vs r ts h)
    where
      go : (r : Result State QueryFaultKind) → step lexicon (state_of lexicon ws p) t ≡ r
          → ((vs : List Wait) (q : Part) → Fine lexicon vs q → first_fault_from lexicon (n + 1) (back_of vs q) ts
          ≡ fault_of (run_from lexicon (n + 1) (state_of lexicon vs q) ts))
          → first_some (at_number n) (fault_of r) (first_fault_from lexicon (n + 1) (t ∷ back_of ws p) ts)
          ≡ fault_of (fault_as (at_number n) r >>= (λ next. run_from lexicon (n + 1) next ts))
      go (Err kind) e h = refl
      go (Ok next) e h =
          let reached = reach lexicon ws p t next fine e in
          grind (arith, back_after-append)

  -- the reader's fault is the first fault
  first_fault_is : (ts : List Token) → first_fault lexicon ts ≡ fault_of (tokens_query lexicon ts)
  unfolding Fine
  first_fault_is [] = refl
  first_fault_is (t ∷ ts) = same_first 1 [] nothing_read (t ∷ ts) (record { front = refl; last = refl; closed = refl })

  pub fault_answered : (ts : List Token) (f : QueryFault) → first_fault lexicon ts ≡ Some f → tokens_query lexicon ts
      ≡ Err f
  fault_answered ts f e = grind (arith, first_fault_is)

  pub answer_faulty : (ts : List Token) (f : QueryFault) → tokens_query lexicon ts ≡ Err f → first_fault lexicon ts
      ≡ Some f
  answer_faulty ts f e = first_fault_is ts ∙ ap fault_of e

  -- tokens that are read have no fault
  pub read_faultless : (ts : List Token) (q : Query) → Reads lexicon ts q → first_fault lexicon ts ≡ None
  read_faultless ts q r = first_fault_is ts ∙ ap fault_of (reading_answered lexicon ts q r)

  -- tokens without a fault are read
  pub faultless_read : (ts : List Token) → first_fault lexicon ts ≡ None → (q : Query) × Reads lexicon ts q
  faultless_read ts e = go (tokens_query lexicon ts) refl (sym (first_fault_is ts) ∙ e)
    where
      go : (r : Result Query QueryFault) → tokens_query lexicon ts ≡ r → fault_of r ≡ None → (q : Query)
          × Reads lexicon ts q
      go (Ok q) i e = (q, answer_read lexicon ts q i)
      go (Err f) i e = absurd cc
