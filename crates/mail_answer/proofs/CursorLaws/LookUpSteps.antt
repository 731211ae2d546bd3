-- The steps of look-ups are exactly the comparisons of their binary searches, kind by kind and member by member.
use Rattle.mail_answer.proofs.Words.{◌≡◌, ◌∙◌, ◌+◌, ◌<◌, ◌≤◌, ℕ, true, false, List, [], ◌∷◌, ◌++◌, length, map, drop, get_or, sym, ap, arith, Result, Ok, Err, IfOk, filter, Kind, Text, OwnId, text_kinds, Query, members_of, Kinds, is_in, compared_in_all, add_steps}
use Rattle.mail_query.specs.Query.{Queries, End, More}
use Rattle.mail_index.proofs.ViewLaws.StepLemmas.{add_steps-none, add_steps-both}
use Rattle.mail_answer.proofs.CursorLaws.Texts.{coming_at}

pub if_always : {A E P : Type 0} (r : Result A E) → P → IfOk r (λ _. P)
if_always (Err e) p = tt
if_always (Ok a) p = p

pub none_taken : (old new : ℕ) → new ≡ old → new ≡ add_steps old 0
none_taken old new same = same ∙ add_steps-none _

-- if no key is looked up, no comparison is made
pub none_compared : (kinds : List Kind) → compared_in_all (λ kind. 0) kinds ≡ 0
none_compared [] = omega arith
none_compared (kind ∷ kinds) = omega (arith, none_compared kinds)

-- `counts` says how many comparisons a query takes
pub steps_of : {A E : Type 0} (r : Result A E) (counts : Query → ℕ) (q p : Query) (old new n : ℕ) → q ≡ p
    → n ≡ counts p → IfOk r (λ _. new ≡ add_steps old n) → IfOk r (λ _. new ≡ add_steps old (counts q))
steps_of (Err e) counts q p old new n is same taken = tt
steps_of (Ok a) counts q p old new n is same taken = grind arith

-- ---- kind by kind

module _ (compared : Kind → ℕ) (kinds : Kinds) (items : List Kind) (i : ℕ) (d : Kind) (start old new total : ℕ) where
  pub compared_more : i < length items → is_in kinds (get_or items i d) ≡ true → new
      ≡ add_steps old (compared (get_or items i d))
      → add_steps old (compared_in_all compared (filter (is_in kinds) (drop i items))) ≡ add_steps start total
      → add_steps new (compared_in_all compared (filter (is_in kinds) (drop (i + 1) items))) ≡ add_steps start total
  compared_more lt e taken before =
      let rest = compared_in_all compared (filter (is_in _) (drop (i + 1) items)) in
      ap (λ n. add_steps n rest) taken ∙ add_steps-both _ _ _
      ∙ ap (λ ks. add_steps old (compared_in_all compared ks)) (sym (coming_at _ _ i d _ lt e))
      ∙ before

  pub compared_skip : i < length items → is_in kinds (get_or items i d) ≡ false
      → add_steps old (compared_in_all compared (filter (is_in kinds) (drop i items))) ≡ add_steps start total
      → add_steps old (compared_in_all compared (filter (is_in kinds) (drop (i + 1) items))) ≡ add_steps start total
  compared_skip lt e before = ap (λ ks. add_steps old (compared_in_all compared ks))
      (sym (coming_at _ _ i d _ lt e)) ∙ before

-- after the last kind
pub all_compared : (compared : Kind → ℕ) (i : ℕ) (kinds : Kinds) (start old total : ℕ) → 8 ≤ i → i ≤ 8
    → add_steps old (compared_in_all compared (filter (is_in kinds) (drop i (map Text text_kinds ++ OwnId ∷ []))))
    ≡ add_steps start total → old ≡ add_steps start total
all_compared = grind (arith, add_steps-none)

-- ---- member by member

-- `counts_all` is the sum of `counts` over the queries of a list
module _ (counts : Query → ℕ) (counts_all : Queries → ℕ) (start old total : ℕ) where
  pub member_more : ((q : Query) (qs : Queries) → counts_all (More q qs) ≡ counts q + counts_all qs)
      → (q : Query) (last coming : List Query) (new : ℕ) → last ≡ q ∷ coming → new ≡ add_steps old (counts q)
      → add_steps old (counts_all (members_of last)) ≡ add_steps start total
      → add_steps new (counts_all (members_of coming)) ≡ add_steps start total
  member_more = grind (arith, add_steps-both)

  pub no_member_more : counts_all End ≡ 0 → (last : List Query) → last ≡ []
      → add_steps old (counts_all (members_of last)) ≡ add_steps start total → old ≡ add_steps start total
  no_member_more = grind (arith, add_steps-none)
