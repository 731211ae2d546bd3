-- The reader returns each query that the grammar gives, by its steps over the tokens of a tree.
use Rattle.mail_query.proofs.Words.{◌≡◌, ℕ, suc, ◌+◌, ◌<◌, Bool, true, false, not, cond, ltb, ltb-true, List, [], ◌∷◌, ◌++◌, length, map, Option, None, Result, Ok, refl, sym, ap, ◌∙◌, append_assoc, append-nil, add-one, arith, ◌&&◌, is_ok, not-true, ◌>>=◌, fault_as, Field, Fields, QueryFault, QueryFaultKind, Lexicon, Query, Not, all_of, Token, Close, AndSign, OrSign, no_fields, has_field, parts_query, Link, Beside, ByAnd, ByOr, Item, NotOf, Group, Leaf, Chain, Last, Then, link_tokens, item_tokens, chain_tokens, into_first, query_or_any, term_prefix, plain_prefix, item_query, chain_queries, tree_query, is_fine_item, is_fine_chain, Reads, Level, Waiting, ForNot, ForClose, State, start, empty_level, with_member, level_with_prefix, run_ended, each_ended, level_query, is_negated, state_after_operand, query_at_end, cut_term_step, term_step, step, run_from, tokens_query}
use Rattle.mail_query.specs.BooleanTerms.{boolean_term_query}
use Rattle.mail_query.proofs.BooleanLaws.StackLemmas.{deeper-room}

pub and_left : (a b : Bool) → (a && b) ≡ true → a ≡ true
and_left a b h = grind arith

pub and_right : (a b : Bool) → (a && b) ≡ true → b ≡ true
and_right a b h = grind arith

-- no prefix adds nothing to those seen
pub noted-none : (negated : Bool) (level : Level) → level_with_prefix negated None level ≡ level
noted-none negated level = grind arith

unfoldable pub state : List Waiting → Level → Bool → State
state waiting level wanted = record { waiting = waiting; level = level; wanted = wanted }

-- the prefixes that a term here must not have
unfoldable pub seen_at : List Waiting → Level → Fields
seen_at waiting level = cond (is_negated waiting) no_fields level.seen

-- ---- one level

-- these members before those of the first alternative
abbrev pub with_first : List Query → List (List Query) → List (List Query)
with_first members [] = members ∷ []
with_first members (qs ∷ qss) = (members ++ qs) ∷ qss

pub with_first-one : (members : List Query) (q : Query) (qss : List (List Query)) → with_first (members ++ q ∷ []) qss
    ≡ with_first members (into_first q qss)
with_first-one members q qss = grind (arith, append_assoc)

abbrev linked_level : Link → Level → Level
linked_level Beside level = level
linked_level ByAnd level = run_ended level
linked_level ByOr level = each_ended level

abbrev level_eaches : Level → List Query
level_eaches level = level.eaches ++ all_of level.members ∷ []

module _ (lexicon : Lexicon) where
  abbrev with_item : Item → Level → Level
  with_item i level = with_member (level_with_prefix false (plain_prefix i) level) (item_query lexicon i)

  abbrev chain_level : Chain → Level → Level
  chain_level (Last i) level = with_item i level
  chain_level (Then i l c) level = chain_level c (linked_level l (with_item i level))

  pub with_first-none : (c : Chain) → with_first [] (chain_queries lexicon c) ≡ chain_queries lexicon c
  with_first-none (Last i) = refl
  with_first-none (Then i Beside c) = grind arith
  with_first-none (Then i ByAnd c) = grind arith
  with_first-none (Then i ByOr c) = refl

  chain_eaches : (c : Chain) (level : Level) → level_eaches (chain_level c level)
      ≡ level.eaches ++ map all_of (with_first level.members (chain_queries lexicon c))
  chain_eaches (Last i) level = refl
  chain_eaches (Then i Beside c) level = grind (arith, with_first-one, chain_eaches c (with_item i level))
  chain_eaches (Then i ByAnd c) level = grind (arith, with_first-one, chain_eaches c (run_ended (with_item i level)))
  chain_eaches (Then i ByOr c) level = grind
      (arith, with_first-none, append_assoc, chain_eaches c (each_ended (with_item i level)))

  chain_asks : (c : Chain) → level_query (chain_level c empty_level) ≡ tree_query lexicon c
  chain_asks c = grind (arith, chain_eaches, with_first-none)

  -- ---- the steps

  pub steps : State → List Token → Result State QueryFaultKind
  steps s [] = Ok s
  steps s (t ∷ ts) = step lexicon s t >>= (λ next. steps next ts)

  no_seen_prefix : (negated : Bool) (seen : Fields) (prefix : Option Field)
      → not (has_field (cond negated no_fields seen) prefix) ≡ true → (not negated && has_field seen prefix) ≡ false
  no_seen_prefix negated seen prefix h = grind (arith, not-true)

  cut_term_fine : (s : State) (prefix : Option Field) (rest : List ℕ)
      → (not (has_field (seen_at s.waiting s.level) prefix) && is_ok (parts_query lexicon prefix rest)) ≡ true
      → cut_term_step lexicon s prefix rest ≡ Ok
      (state_after_operand s.waiting (level_with_prefix (is_negated s.waiting) prefix s.level)
      (query_or_any (parts_query lexicon prefix rest)))
  unfolding seen_at
  cut_term_fine s prefix rest h =
      grind (arith, no_seen_prefix, and_left)

  pub term_fine : (s : State) (t : List ℕ)
      → (not (has_field (seen_at s.waiting s.level) (term_prefix t)) && is_ok (boolean_term_query lexicon t)) ≡ true
      → term_step lexicon s t ≡ Ok (state_after_operand s.waiting
      (level_with_prefix (is_negated s.waiting) (term_prefix t) s.level)
      (query_or_any (boolean_term_query lexicon t)))
  term_fine s t h = grind (arith, cut_term_fine)

  then_steps : (r : Result State QueryFaultKind) (next : State) (ts : List Token) → r ≡ Ok next
      → (r >>= (λ s. steps s ts)) ≡ steps next ts
  then_steps r next ts e = ap (λ x. x >>= (λ s. steps s ts)) e

  -- an operand without a `not` before it is a member, and its prefix must be new since the last operator
  seen_fine : (i : Item) (waiting : List Waiting) (level : Level) → is_negated waiting ≡ false
      → is_fine_item lexicon i (length waiting) level.seen ≡ true
      → is_fine_item lexicon i (length waiting) (seen_at waiting level) ≡ true
  unfolding seen_at
  seen_fine i waiting level e h = grind arith

  settled : (i : Item) (waiting : List Waiting) (level : Level) (ts : List Token) → is_negated waiting ≡ false
      → steps (state_after_operand waiting (level_with_prefix (is_negated waiting) (plain_prefix i) level)
      (item_query lexicon i)) ts
      ≡ steps (state waiting (with_item i level) false) ts
  unfolding state
  settled i waiting level ts e =
      grind arith

  chain_spelled : (i : Item) (l : Link) (c : Chain) (ts : List Token) → chain_tokens (Then i l c) ++ ts
      ≡ item_tokens i ++ (link_tokens l ++ (chain_tokens c ++ ts))
  chain_spelled i l c ts = grind (arith, append_assoc)

  mutual
    unfolding steps state seen_at

    item_steps : (i : Item) (waiting : List Waiting) (level : Level) (wanted : Bool) (ts : List Token)
        → is_fine_item lexicon i (length waiting) (seen_at waiting level) ≡ true
        → steps (state waiting level wanted) (item_tokens i ++ ts)
        ≡ steps (state_after_operand waiting (level_with_prefix (is_negated waiting) (plain_prefix i) level)
        (item_query lexicon i)) ts
    item_steps (Leaf t) waiting level wanted ts h = grind (arith, then_steps, term_fine)
    item_steps (NotOf i) waiting level wanted ts h =
        let room : length waiting < 30 = ltb-true (length waiting) 30 (and_left (ltb (length waiting) 30) _ h) in
        let fine : is_fine_item lexicon i (suc (length waiting)) no_fields ≡ true =
        ap (λ n. is_fine_item lexicon i n no_fields) (sym (add-one (length waiting)))
        ∙ and_right (ltb (length waiting) 30) _ h in
        then_steps _ (state (ForNot ∷ waiting) level true) (item_tokens i ++ ts) (deeper-room waiting ForNot level room)
        ∙ item_steps i (ForNot ∷ waiting) level true ts fine
        ∙ ap (λ (l : Level). steps (state_after_operand waiting l (Not (item_query lexicon i))) ts)
        (sym (noted-none (is_negated waiting) level))
    item_steps (Group c) waiting level wanted ts h =
        let room : length waiting < 30 = ltb-true (length waiting) 30 (and_left (ltb (length waiting) 30) _ h) in
        let fine : is_fine_chain lexicon c (suc (length waiting)) no_fields ≡ true =
        ap (λ n. is_fine_chain lexicon c n no_fields) (sym (add-one (length waiting)))
        ∙ and_right (ltb (length waiting) 30) _ h in
        then_steps _ (state (ForClose level ∷ waiting) empty_level true) ((chain_tokens c ++ Close ∷ []) ++ ts)
        (deeper-room waiting (ForClose level) empty_level room)
        ∙ ap (steps (state (ForClose level ∷ waiting) empty_level true)) (append_assoc (chain_tokens c) (Close ∷ []) ts)
        ∙ chain_steps c (ForClose level ∷ waiting) empty_level true (Close ∷ ts) refl fine
        ∙ ap (λ (q : Query). steps (state_after_operand waiting level q) ts) (chain_asks c)
        ∙ ap (λ (l : Level). steps (state_after_operand waiting l (item_query lexicon (Group c))) ts)
        (sym (noted-none (is_negated waiting) level))

    chain_steps : (c : Chain) (waiting : List Waiting) (level : Level) (wanted : Bool) (ts : List Token)
        → is_negated waiting ≡ false → is_fine_chain lexicon c (length waiting) level.seen ≡ true
        → steps (state waiting level wanted) (chain_tokens c ++ ts)
        ≡ steps (state waiting (chain_level c level) false) ts
    chain_steps (Last i) waiting level wanted ts e h =
        item_steps i waiting level wanted ts (seen_fine i waiting level e h) ∙ settled i waiting level ts e
    chain_steps (Then i Beside c) waiting level wanted ts e h =
        ap (steps (state waiting level wanted)) (chain_spelled i Beside c ts)
        ∙ item_steps i waiting level wanted (chain_tokens c ++ ts)
        (seen_fine i waiting level e (and_left (is_fine_item lexicon i (length waiting) level.seen) _ h))
        ∙ settled i waiting level (chain_tokens c ++ ts) e
        ∙ chain_steps c waiting (with_item i level) false ts e
        (and_right (is_fine_item lexicon i (length waiting) level.seen) _ h)
    chain_steps (Then i ByAnd c) waiting level wanted ts e h =
        ap (steps (state waiting level wanted)) (chain_spelled i ByAnd c ts)
        ∙ item_steps i waiting level wanted (AndSign ∷ (chain_tokens c ++ ts))
        (seen_fine i waiting level e (and_left (is_fine_item lexicon i (length waiting) level.seen) _ h))
        ∙ settled i waiting level (AndSign ∷ (chain_tokens c ++ ts)) e
        ∙ chain_steps c waiting (run_ended (with_item i level)) true ts e
        (and_right (is_fine_item lexicon i (length waiting) level.seen) _ h)
    chain_steps (Then i ByOr c) waiting level wanted ts e h =
        ap (steps (state waiting level wanted)) (chain_spelled i ByOr c ts)
        ∙ item_steps i waiting level wanted (OrSign ∷ (chain_tokens c ++ ts))
        (seen_fine i waiting level e (and_left (is_fine_item lexicon i (length waiting) level.seen) _ h))
        ∙ settled i waiting level (OrSign ∷ (chain_tokens c ++ ts)) e
        ∙ chain_steps c waiting (each_ended (with_item i level)) true ts e
        (and_right (is_fine_item lexicon i (length waiting) level.seen) _ h)

  -- ---- the whole

  run_steps : (n : ℕ) (s last : State) (ts : List Token) (q : Query) → steps s ts ≡ Ok last → query_at_end last ≡ Ok q
      → run_from lexicon n s ts ≡ Ok q
  unfolding steps
  run_steps n s last [] q e h =
      grind arith
  run_steps n s last (t ∷ ts) q e h = go (step lexicon s t) e (λ next k. run_steps (n + 1) next last ts q k h)
    where
      go : (r : Result State QueryFaultKind) → (r >>= (λ next. steps next ts)) ≡ Ok last
          → ((next : State) → steps next ts ≡ Ok last → run_from lexicon (n + 1) next ts ≡ Ok q)
          → (fault_as (λ kind. let f : QueryFault = record { number = n; kind = kind } in f) r >>=
          (λ next. run_from lexicon (n + 1) next ts)) ≡ Ok q
      go r h h2 = grind arith

  not_empty : (c : Chain) → chain_tokens c ≡ [] → ⊥
  not_empty (Last (NotOf i)) e = cc
  not_empty (Last (Group c)) e = cc
  not_empty (Last (Leaf t)) e = cc
  not_empty (Then (NotOf i) l c) e = cc
  not_empty (Then (Group d) l c) e = cc
  not_empty (Then (Leaf t) l c) e = cc

  -- the reader returns what the grammar gives
  pub reading_answered : (ts : List Token) (q : Query) → Reads lexicon ts q → tokens_query lexicon ts ≡ Ok q
  unfolding state steps
  reading_answered [] q r = absurd (not_empty r.tree r.spelled)
  reading_answered (t ∷ ts) q r =
      let all : steps start (t ∷ ts) ≡ Ok (state [] (chain_level r.tree empty_level) false) =
      cc (append-nil (t ∷ ts), r.spelled, chain_steps r.tree [] empty_level true [] refl r.fine) in
      run_steps 1 start (state [] (chain_level r.tree empty_level) false) (t ∷ ts) q all
      (ap Ok (chain_asks r.tree ∙ r.asked))
