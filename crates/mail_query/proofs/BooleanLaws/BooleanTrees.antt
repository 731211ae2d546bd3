-- The grammar gives each query that the reader returns, because after each token its state is that of a partial tree.
use Rattle.mail_query.proofs.Words.{◌≡◌, ℕ, suc, ◌+◌, ◌<◌, Bool, true, false, not, cond, List, [], ◌∷◌, ◌++◌, length, map, Option, None, Some, Result, Ok, Err, refl, sym, ap, ◌∙◌, append_assoc, append-nil, arith, add-one, ◌&&◌, ◌||◌, is_ok, is_none, option_and_then, and_from, or_parts, lt-ltb, ◌>>=◌, fault_as, Field, Fields, QueryFault, QueryFaultKind, Phrase, NeedsOperator, MissingTerm, Lexicon, Query, all_of, either_of, Token, Open, Close, AndSign, OrSign, NotSign, Term, TermParts, parts_of, no_fields, has_field, with_field, is_phrase, cut_query, Link, Beside, ByAnd, ByOr, Item, NotOf, Group, Leaf, Chain, Last, Then, link_tokens, item_tokens, chain_tokens, term_prefix, plain_prefix, seen_after, item_query, chain_queries, tree_query, is_fine_item, is_fine_chain, Reads, Level, Waiting, ForNot, ForClose, State, start, empty_level, with_member, level_with_prefix, run_ended, each_ended, level_query, is_negated, state_after_operand, deeper, state_after_and, state_after_or, state_after_group, state_after_close, query_at_end, parts_step, term_step, step, run_from, tokens_query}
use Rattle.mail_query.specs.BooleanTerms.{boolean_term_query}
use Rattle.mail_query.proofs.BooleanLaws.BooleanComplete.{noted-none, state, seen_at, term_fine, with_first, with_first-one, with_first-none}

-- ---- partial trees

-- the operands of a chain so far, each with what joins it to the next
pub data Front : Type 0 where
  Nothing : Front
  After : Front → Item → Link → Front

-- a chain so far, and its last operand, for which it isn't known yet what follows
pub record Part : Type 0 where
  pub front : Front
  pub last : Option Item

pub data Wait : Type 0 where
  WaitNot : Wait
  WaitClose : Part → Wait

abbrev pub ended_by : Front → Item → Part
ended_by f i = record { front = f; last = Some i }

abbrev pub nothing_read : Part
nothing_read = record { front = Nothing; last = None }

abbrev pub front_tokens : Front → List Token
front_tokens Nothing = []
front_tokens (After f i l) = front_tokens f ++ (item_tokens i ++ link_tokens l)

abbrev pub last_tokens : Option Item → List Token
last_tokens None = []
last_tokens (Some i) = item_tokens i

abbrev pub part_tokens : Part → List Token
part_tokens p = front_tokens p.front ++ last_tokens p.last

-- all tokens so far
abbrev pub spelled : List Wait → Part → List Token
spelled [] p = part_tokens p
spelled (WaitNot ∷ ws) p = spelled ws p ++ NotSign ∷ []
spelled (WaitClose outer ∷ ws) p = spelled ws outer ++ (Open ∷ part_tokens p)

abbrev pub onto : Front → Chain → Chain
onto Nothing c = c
onto (After f i l) c = onto f (Then i l c)

abbrev pub seen_front : Front → Fields
seen_front Nothing = no_fields
seen_front (After f i l) = seen_after i l (seen_front f)

abbrev pub last_prefix : Option Item → Option Field
last_prefix None = None
last_prefix (Some i) = plain_prefix i

abbrev pub seen_of : Part → Fields
seen_of p = with_field (last_prefix p.last) (seen_front p.front)

-- whether the innermost open item is a `not`
abbrev pub waits_not : List Wait → Bool
waits_not (WaitNot ∷ ws) = true
waits_not _ = false

abbrev pub wanted_of : List Wait → Part → Bool
wanted_of ws p = waits_not ws || is_none p.last

-- one operand more
abbrev pub beside : Front → Option Item → Front
beside f None = f
beside f (Some j) = After f j Beside

abbrev pub put : Part → Item → Part
put p i = record { front = beside p.front p.last; last = Some i }

abbrev pub put_waits : List Wait → List Wait
put_waits [] = []
put_waits (WaitNot ∷ ws) = put_waits ws
put_waits (WaitClose outer ∷ ws) = WaitClose outer ∷ ws

abbrev pub put_part : List Wait → Part → Item → Part
put_part [] p i = put p i
put_part (WaitNot ∷ ws) p i = put_part ws p (NotOf i)
put_part (WaitClose outer ∷ ws) p i = put p i

-- if no term must follow, an operand comes last, and no `not` is directly before the place
where_ended : (ws : List Wait) (p : Part) (P : Part → Type 0) → wanted_of ws p ≡ false
    → (waits_not ws ≡ false → (f : Front) (i : Item) → P (ended_by f i)) → P p
where_ended ws p P e h = let parts = or_parts (waits_not ws) (is_none p.last) e in go p.front p.last parts.1 (h parts.0)
  where
    go : (f : Front) (last : Option Item) → is_none last ≡ false → ((g : Front) (i : Item) → P (ended_by g i))
        → P (record { front = f; last = last })
    go f last h h2 = grind arith

-- a result that isn't the test's fault has passed the test
unguarded : {A E : Type 0} (b : Bool) (fault : E) (r : Result A E) (x : A) → cond b (Err fault) r ≡ Ok x → (b ≡ false)
    × (r ≡ Ok x)
unguarded b fault r x h = grind arith

-- ---- its tokens

part_tokens-put : (p : Part) (i : Item) → part_tokens (put p i) ≡ part_tokens p ++ item_tokens i
part_tokens-put p i = grind (arith, append-nil)

-- whether a term must follow
abbrev pub wanted_after : Link → Bool
wanted_after Beside = false
wanted_after ByAnd = true
wanted_after ByOr = true

abbrev pub front_wanted : Front → Bool
front_wanted Nothing = true
front_wanted (After f i l) = wanted_after l

-- if no operand comes last, there is none yet, or an operator comes last
abbrev pub is_closed : Front → Option Item → Bool
is_closed f None = front_wanted f
is_closed f (Some i) = true

-- tokens after the innermost part are after the whole, if no `not` is directly before them
spelled-more : (ws : List Wait) (p next : Part) (ts : List Token) → waits_not ws ≡ false → part_tokens next
    ≡ part_tokens p ++ ts → spelled ws next ≡ spelled ws p ++ ts
spelled-more ws p next ts h h2 = grind (arith, append_assoc)

spelled-put : (ws : List Wait) (p : Part) (i : Item) → spelled (put_waits ws) (put_part ws p i)
    ≡ spelled ws p ++ item_tokens i
spelled-put [] p i = part_tokens-put p i
spelled-put (WaitNot ∷ ws) p i = grind (arith, append_assoc, spelled-put ws p (NotOf i))
spelled-put (WaitClose outer ∷ ws) p i =
    spelled-more (WaitClose outer ∷ ws) p (put p i) (item_tokens i) refl (part_tokens-put p i)

chain_tokens-onto : (f : Front) (c : Chain) → chain_tokens (onto f c) ≡ front_tokens f ++ chain_tokens c
chain_tokens-onto Nothing c = refl
chain_tokens-onto (After f i l) c = grind (arith, append_assoc, chain_tokens-onto f (Then i l c))

module _ (lexicon : Lexicon) where
  -- ---- the state of the reader

  abbrev pub members_front : Front → List Query
  members_front Nothing = []
  members_front (After f i Beside) = members_front f ++ item_query lexicon i ∷ []
  members_front (After f i ByAnd) = members_front f ++ item_query lexicon i ∷ []
  members_front (After f i ByOr) = []

  abbrev pub eaches_front : Front → List Query
  eaches_front Nothing = []
  eaches_front (After f i Beside) = eaches_front f
  eaches_front (After f i ByAnd) = eaches_front f
  eaches_front (After f i ByOr) = eaches_front f ++ all_of (members_front f ++ item_query lexicon i ∷ []) ∷ []

  abbrev pub last_query : Option Item → List Query
  last_query None = []
  last_query (Some i) = item_query lexicon i ∷ []

  abbrev pub level_of : Part → Level
  level_of p = record {
    eaches = eaches_front p.front;
    members = members_front p.front ++ last_query p.last;
    seen =
        seen_of p;
  }

  abbrev pub waiting_of : List Wait → List Waiting
  waiting_of [] = []
  waiting_of (WaitNot ∷ ws) = ForNot ∷ waiting_of ws
  waiting_of (WaitClose outer ∷ ws) = ForClose (level_of outer) ∷ waiting_of ws

  abbrev pub state_of : List Wait → Part → State
  state_of ws p = record { waiting = waiting_of ws; level = level_of p; wanted = wanted_of ws p }

  pub length-waiting_of : (ws : List Wait) → length (waiting_of ws) ≡ length ws
  length-waiting_of [] = refl
  length-waiting_of (WaitNot ∷ ws) = ap suc (length-waiting_of ws)
  length-waiting_of (WaitClose outer ∷ ws) = ap suc (length-waiting_of ws)

  pub negated-waiting_of : (ws : List Wait) → is_negated (waiting_of ws) ≡ waits_not ws
  negated-waiting_of ws = grind arith

  level_of-put : (p : Part) (i : Item) → level_of (put p i)
      ≡ with_member (level_with_prefix false (plain_prefix i) (level_of p)) (item_query lexicon i)
  level_of-put p i = grind (arith, append-nil)

  placed_is : (ws : List Wait) (p : Part) (i : Item)
      → state_after_operand (waiting_of ws) (level_with_prefix (is_negated (waiting_of ws)) (plain_prefix i)
      (level_of p)) (item_query lexicon i)
      ≡ state_of (put_waits ws) (put_part ws p i)
  placed_is [] p i = grind (arith, level_of-put)
  placed_is (WaitNot ∷ ws) p i = grind (arith, placed_is ws p (NotOf i))
  placed_is (WaitClose outer ∷ ws) p i = grind (arith, level_of-put)

  eaches-onto : (f : Front) (c : Chain) → map all_of (chain_queries lexicon (onto f c))
      ≡ eaches_front f ++ map all_of (with_first (members_front f) (chain_queries lexicon c))
  eaches-onto Nothing c = grind (arith, with_first-none)
  eaches-onto (After f i Beside) c = grind (arith, with_first-one, eaches-onto f (Then i Beside c))
  eaches-onto (After f i ByAnd) c = grind (arith, with_first-one, eaches-onto f (Then i ByAnd c))
  eaches-onto (After f i ByOr) c = grind (arith, append_assoc, with_first-none, eaches-onto f (Then i ByOr c))

  -- the query of a group is that of its tree
  pub level_asks : (f : Front) (i : Item) → level_query (level_of (ended_by f i)) ≡ tree_query lexicon (onto f (Last i))
  level_asks f i = ap either_of (sym (eaches-onto f (Last i)))

  -- ---- the tree is allowed

  abbrev pub is_fine_front : Front → ℕ → Bool
  is_fine_front Nothing n = true
  is_fine_front (After f i l) n = is_fine_front f n && is_fine_item lexicon i n (seen_front f)

  abbrev pub is_fine_last : Front → Option Item → ℕ → Bool
  is_fine_last f None n = true
  is_fine_last f (Some i) n = is_fine_item lexicon i n (seen_front f)

  pub record FinePart (p : Part) (n : ℕ) : Type 0 where
    pub front : is_fine_front p.front n ≡ true
    pub last : is_fine_last p.front p.last n ≡ true
    pub closed : is_closed p.front p.last ≡ true

  unfoldable pub Fine : List Wait → Part → Type 0
  Fine [] p = FinePart p 0
  Fine (WaitNot ∷ ws) p = Fine ws p × (length ws < 30)
  Fine (WaitClose outer ∷ ws) p = Fine ws outer × (length ws < 30) × FinePart p (suc (length ws))

  fine-onto : (f : Front) (c : Chain) (n : ℕ) → is_fine_chain lexicon (onto f c) n no_fields
      ≡ (is_fine_front f n && is_fine_chain lexicon c n (seen_front f))
  fine-onto Nothing c n = refl
  fine-onto (After f i l) c n = grind (arith, fine-onto f (Then i l c) n)

  fine_put : (p : Part) (i : Item) (n : ℕ) → FinePart p n → is_fine_item lexicon i n (seen_of p) ≡ true
      → FinePart (put p i) n
  fine_put p i n h k = grind arith

  put_fine : (ws : List Wait) (p : Part) (i : Item) → Fine ws p
      → is_fine_item lexicon i (length ws) (cond (waits_not ws) no_fields (seen_of p)) ≡ true
      → Fine (put_waits ws) (put_part ws p i)
  unfolding Fine
  put_fine [] p i h k = fine_put p i 0 h k
  put_fine (WaitNot ∷ ws) p i h k = grind (arith, put_fine ws p (NotOf i) h.0)
  put_fine (WaitClose outer ∷ ws) p i h k = grind arith

  part_fine : (ws : List Wait) (p next : Part) → waits_not ws ≡ false → ((n : ℕ) → FinePart p n → FinePart next n)
      → Fine ws p → Fine ws next
  unfolding Fine
  part_fine ws p next h h2 h3 = grind arith

  -- ---- a step

  -- the partial tree after one more token
  pub record Reaches (ws : List Wait) (p : Part) (t : Token) (s : State) : Type 0 where
    pub waits : List Wait
    pub part : Part
    pub shown : s ≡ state_of waits part
    pub tokens : spelled waits part ≡ spelled ws p ++ t ∷ []
    pub fine : Fine waits part

  no_fields-have : (prefix : Option Field) → has_field no_fields prefix ≡ false
  no_fields-have prefix = grind arith

  new_prefix : (negated : Bool) (seen : Fields) (prefix : Option Field) → (not negated && has_field seen prefix) ≡ false
      → not (has_field (cond negated no_fields seen) prefix) ≡ true
  new_prefix negated seen prefix h = grind (arith, no_fields-have)

  -- a term that the reader takes is allowed in its place
  term_ok : (s next : State) (t : List ℕ) → term_step lexicon s t ≡ Ok next
      → (not (has_field (seen_at s.waiting s.level) (term_prefix t)) && is_ok (boolean_term_query lexicon t)) ≡ true
  unfolding seen_at
  term_ok s next t e = go (is_phrase t) (parts_of t) e
    where
      cut_ok : (prefix : Option Field) (b : Bool) → (not (is_negated s.waiting) && has_field s.level.seen prefix) ≡ b
          → (r : Result Query QueryFaultKind)
          → cond b (Err NeedsOperator) (r >>= (λ q. Ok
          (state_after_operand s.waiting (level_with_prefix (is_negated s.waiting) prefix s.level) q))) ≡ Ok next
          → (not (has_field (cond (is_negated s.waiting) no_fields s.level.seen) prefix) && is_ok r) ≡ true
      cut_ok prefix b h r h2 = grind (arith, and_from, new_prefix)

      go : (b : Bool) (o : Option TermParts) → cond b (Err Phrase) (parts_step lexicon s o) ≡ Ok next
          → (not (has_field (cond (is_negated s.waiting) no_fields s.level.seen)
          (option_and_then (λ (p : TermParts). p.prefix) o)) && is_ok {T = Query}
          (cond b (Err Phrase) (cut_query lexicon o))) ≡ true
      go b o h = grind (arith, cut_ok)

  reach_term : (ws : List Wait) (p : Part) (t : List ℕ) (s : State) → Fine ws p → term_step lexicon (state_of ws p) t
      ≡ Ok s → Reaches ws p (Term t) s
  unfolding seen_at
  reach_term ws p t s fine e =
      let ok = term_ok (state_of ws p) s t e in
      let is : s ≡ state_after_operand (waiting_of ws)
      (level_with_prefix (is_negated (waiting_of ws)) (term_prefix t) (level_of p))
      (item_query lexicon (Leaf t)) =
      grind (arith, term_fine) in
      let leaf : is_fine_item lexicon (Leaf t) (length ws) (cond (waits_not ws) no_fields (seen_of p)) ≡ true =
      grind arith in
      record {
        waits = put_waits ws;
        part = put_part ws p (Leaf t);
        shown = is ∙ placed_is ws p (Leaf t);
        tokens = spelled-put ws p (Leaf t);
        fine = put_fine ws p (Leaf t) fine leaf;
      }

  reach_deeper : (ws : List Wait) (s : State) (what : Waiting) (level : Level) → deeper (waiting_of ws) what level
      ≡ Ok s
      → (length ws < 30) × (s ≡ state (what ∷ waiting_of ws) level true)
  unfolding state
  reach_deeper ws s what level e =
      grind (arith, length-waiting_of)

  reach_not : (ws : List Wait) (p : Part) (s : State) → Fine ws p → deeper (waiting_of ws) ForNot (level_of p) ≡ Ok s
      → Reaches ws p NotSign s
  unfolding Fine state
  reach_not ws p s fine e =
      let d = reach_deeper ws s ForNot (level_of p) e in
      record { waits = WaitNot ∷ ws; part = p; shown = d.1; tokens = refl; fine = (fine, d.0) }

  reach_open : (ws : List Wait) (p : Part) (s : State) → Fine ws p
      → deeper (waiting_of ws) (ForClose (level_of p)) empty_level ≡ Ok s → Reaches ws p Open s
  unfolding Fine state
  reach_open ws p s fine e =
      let d = reach_deeper ws s (ForClose (level_of p)) empty_level e in
      record {
        waits = WaitClose p ∷ ws;
        part = nothing_read;
        shown = d.1;
        tokens = refl;
        fine =
            grind arith;
      }

  -- an operator comes after the last operand
  reach_operator : (ws : List Wait) (f : Front) (i : Item) (l : Link) (t : Token) (s : State) → waits_not ws ≡ false
      → Fine ws (ended_by f i) → link_tokens l ≡ t ∷ []
      → s ≡ state (waiting_of ws) (level_of (record { front = After f i l; last = None })) true
      → Reaches ws (ended_by f i) t s
  unfolding state
  reach_operator ws f i l t s no_not fine spelled_so shown =
      let next : Part = record { front = After f i l; last = None } in
      record {
        waits = ws;
        part = next;
        shown = grind arith;
        tokens = grind (arith, append_assoc);
        fine = grind (arith, part_fine);
      }

  reach_and : (ws : List Wait) (p : Part) (s : State) → Fine ws p → state_after_and (state_of ws p) ≡ Ok s
      → Reaches ws p AndSign s
  unfolding state
  reach_and ws p s fine e =
      let passed = unguarded (wanted_of ws p) MissingTerm (Ok (state (waiting_of ws) (run_ended (level_of p)) true)) s e
      in
      where_ended ws p (λ r. Fine ws r → state (waiting_of ws) (run_ended (level_of r)) true ≡ s
      → Reaches ws r AndSign s) passed.0
      (λ no_not f i h same. reach_operator ws f i ByAnd AndSign s no_not h refl
      (cc (same, append-nil (members_front f ++ item_query lexicon i ∷ []))))
      fine (cc)

  reach_or : (ws : List Wait) (p : Part) (s : State) → Fine ws p → state_after_or (state_of ws p) ≡ Ok s
      → Reaches ws p OrSign s
  unfolding state
  reach_or ws p s fine e =
      let passed = unguarded (wanted_of ws p) MissingTerm (Ok (state (waiting_of ws) (each_ended (level_of p)) true)) s
      e in
      where_ended ws p (λ r. Fine ws r → state (waiting_of ws) (each_ended (level_of r)) true ≡ s
      → Reaches ws r OrSign s) passed.0
      (λ no_not f i h same. reach_operator ws f i ByOr OrSign s no_not h refl (sym same)) fine
      (cc)

  -- a group is closed
  group_fine : (f : Front) (i : Item) (n : ℕ) (seen : Fields) → n < 30 → FinePart (ended_by f i) (suc n)
      → is_fine_item lexicon (Group (onto f (Last i))) n seen ≡ true
  group_fine f i n seen room h = grind (arith, lt-ltb, add-one, fine-onto, and_from)

  reach_close : (ws : List Wait) (p : Part) (s : State) → Fine ws p → state_after_close (state_of ws p) ≡ Ok s
      → Reaches ws p Close s
  unfolding Fine
  reach_close ws p s fine e =
      grind (arith, go)
    where
      go : (vs : List Wait) (f : Front) (i : Item) → Fine vs (ended_by f i)
          → state_after_group (waiting_of vs) (level_of (ended_by f i)) ≡ Ok s → Reaches vs (ended_by f i) Close s
      go [] f i h e = absurd cc
      go (WaitNot ∷ vs) f i h e = absurd cc
      go (WaitClose outer ∷ vs) f i h e =
          let c : Chain = onto f (Last i) in
          record {
            waits = put_waits vs;
            part = put_part vs outer (Group c);
            shown = cc (
              level_asks f i,
              noted-none (is_negated (waiting_of vs)) (level_of outer),
              placed_is vs outer (Group c),
            );
            tokens = grind (arith, spelled-put, chain_tokens-onto, append_assoc);
            fine = put_fine vs outer (Group c) h.0
                (group_fine f i (length vs) (cond (waits_not vs) no_fields (seen_of outer)) h.1 h.2);
          }

  pub reach : (ws : List Wait) (p : Part) (t : Token) (s : State) → Fine ws p → step lexicon (state_of ws p) t ≡ Ok s
      → Reaches ws p t s
  reach ws p (Term t) s fine e = reach_term ws p t s fine e
  reach ws p NotSign s fine e = reach_not ws p s fine e
  reach ws p Open s fine e = reach_open ws p s fine e
  reach ws p Close s fine e = reach_close ws p s fine e
  reach ws p AndSign s fine e = reach_and ws p s fine e
  reach ws p OrSign s fine e = reach_or ws p s fine e

  -- ---- the whole

  end_reads : (ws : List Wait) (p : Part) (q : Query) → Fine ws p → query_at_end (state_of ws p) ≡ Ok q
      → Reads lexicon (spelled ws p) q
  unfolding Fine
  end_reads ws p q fine e =
      grind (arith, chain_tokens-onto, fine-onto, level_asks)

  run_reads : (n : ℕ) (ws : List Wait) (p : Part) (ts : List Token) (q : Query) → Fine ws p
      → run_from lexicon n (state_of ws p) ts ≡ Ok q → Reads lexicon (spelled ws p ++ ts) q
  run_reads n ws p [] q fine e = grind (arith, append-nil, end_reads)
  run_reads n ws p (t ∷ ts) q fine e = go (step lexicon (state_of ws p) t) refl e
      (λ vs r h k. run_reads (n + 1) vs r ts q h k)
    where
      go : (r : Result State QueryFaultKind) → step lexicon (state_of ws p) t ≡ r
          → (fault_as (λ kind. let f : QueryFault = record { number = n; kind = kind } in f) r >>=
          (λ next. run_from lexicon (n + 1) next ts)) ≡ Ok q
          → ((vs : List Wait) (r : Part) → Fine vs r → run_from lexicon (n + 1) (state_of vs r) ts ≡ Ok q
          → Reads lexicon (spelled vs r ++ ts) q) → Reads lexicon (spelled ws p ++ t ∷ ts) q
      go (Err kind) i e k = absurd cc
      go (Ok next) i e k =
          let reached = reach ws p t next fine i in
          grind (arith, append_assoc)

  -- the grammar gives what the reader returns
  pub start_read : (ts : List Token) (q : Query) → run_from lexicon 1 start ts ≡ Ok q → Reads lexicon ts q
  unfolding Fine
  start_read ts q e = run_reads 1 [] nothing_read ts q (record { front = refl; last = refl; closed = refl }) e

  pub answer_read : (ts : List Token) (q : Query) → tokens_query lexicon ts ≡ Ok q → Reads lexicon ts q
  answer_read ts q h = grind (arith, start_read)
