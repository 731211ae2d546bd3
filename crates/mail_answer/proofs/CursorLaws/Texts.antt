-- The walks along the posting lists of a text have the messages with this text, kind by kind and list by list.
use Rattle.mail_answer.proofs.Words.{◌≡◌, ◌∙◌, ◌+◌, ◌*◌, ◌^◌, ◌<◌, ◌≤◌, ℕ, suc, Bool, true, false, cond, ◌&&◌, ◌||◌, List, [], ◌∷◌, ◌++◌, length, map, drop, get_or, refl, sym, ap, subst, arith, Result, IfOk, bytes_eq, list_any, filter, AllByRecursion, add-mul, suc-mul, drop_more, or-false, or_assoc, Kind, Text, OwnId, Key, Table, IsKey, IsWellFormed, numbers_at, keys_of, keys_beginning, text_and_numbers, TakesDigits, bytes_turned, Kinds, has_kind, some_word, text_kinds, is_number_among, texts_with, facts_at, is_in, kinds_in, numbers_of_keys, numbers_named, LooksUp, WalkAhead, steps_left_in, AreNumbers, truths_among, some_has, HaveNumbers, numbers_passing, numbers_fitting, some_of_kinds, any_text}
use Rattle.mail_words.specs.declared.kind.TextKind.{TextKind}
use Rattle.mail_answer.specs.Inside.CursorTexts.{AddsMatches}
use Rattle.mail_answer.proofs.CursorLaws.Lists.{among-at, past_all}
use Rattle.mail_answer.proofs.CursorLaws.Members.{some-append}

pub left-append : (ws : List WalkAhead) (w : WalkAhead) → steps_left_in (ws ++ w ∷ []) ≡ steps_left_in ws + w.left
left-append [] w = omega arith
left-append (v ∷ ws) w = omega (arith, left-append ws w)

pub joins_list : (count : ℕ) (ns : List ℕ) (w : WalkAhead) (old new : List WalkAhead) → AreNumbers count ns → w.truths
    ≡ truths_among count ns → w.left ≡ length ns → new ≡ old ++ w ∷ []
    → AddsMatches (λ n. is_number_among n ns) (length ns) old new
joins_list = grind (arith, some-append, among-at, left-append)

pub joins_more : (f g : ℕ → Bool) (p q : ℕ) (ws bs cs : List WalkAhead) → AddsMatches f p ws bs → AddsMatches g q bs cs
    → AddsMatches (λ n. f n || g n) (p + q) ws cs
joins_more = grind (arith, or_assoc)

-- ---- keys of a kind

kind_numbers : (version count : ℕ) (kind : Kind) (ks : List Key) → AllByRecursion (IsKey version count) ks
    → HaveNumbers count (map text_and_numbers (keys_of kind ks))
kind_numbers version count kind [] all = tt
kind_numbers version count kind (k ∷ ks) all = grind (arith, kind_numbers version count kind ks all.1)

kept_numbers : (count : ℕ) (passes : List ℕ → Bool) (ks : List Key) → HaveNumbers count (map text_and_numbers ks)
    → HaveNumbers count (map text_and_numbers (filter (λ k. passes k.text) ks))
kept_numbers count passes [] all = tt
kept_numbers count passes (k ∷ ks) all = grind (arith, kept_numbers count passes ks all.1)

pub beginning_numbers : (t : Table) (kind : Kind) (text : List ℕ) (keys : List (List ℕ × List ℕ)) → IsWellFormed t
    → keys ≡ map text_and_numbers (keys_beginning kind text t.keys)
    → HaveNumbers (length t.messages) keys
beginning_numbers t kind text keys well is =
    subst (HaveNumbers (length t.messages)) (sym is)
    (kept_numbers _ _ _
    (kind_numbers _ _ _ _ well.keys))

pub keys_numbers : (t : Table) (kind : Kind) (keys : List (List ℕ × List ℕ)) → IsWellFormed t → keys
    ≡ map text_and_numbers (keys_of kind t.keys) → HaveNumbers (length t.messages) keys
keys_numbers = grind (arith, kind_numbers)

found_numbers : (version count : ℕ) (kind : Kind) (text : List ℕ) (ks : List Key)
    → AllByRecursion (IsKey version count) ks → AreNumbers count (numbers_at kind text ks)
found_numbers version count kind text [] all = record { rises = tt; below = tt }
found_numbers version count kind text (k ∷ ks) all = grind (arith, found_numbers version count kind text ks all.1)

pub list_numbers : (t : Table) (kind : Kind) (text ns : List ℕ) → IsWellFormed t → ns ≡ numbers_at kind text t.keys
    → AreNumbers (length t.messages) ns
list_numbers t kind text ns well is = subst (AreNumbers (length t.messages)) (sym is)
    (found_numbers _ _ _ _ _ well.keys)

pub fitting_left : (passes : List ℕ → Bool) (ks : List Key) → numbers_passing passes (map text_and_numbers ks)
    ≡ numbers_of_keys (filter (λ k. passes k.text) ks)
fitting_left passes [] = refl
fitting_left passes (k ∷ ks) = grind (arith, fitting_left passes ks)

pub all_left : (ks : List Key) → numbers_passing any_text (map text_and_numbers ks) ≡ numbers_of_keys ks
all_left [] = refl
all_left (k ∷ ks) = ap (λ n. length k.numbers + n) (all_left ks)

-- the list of a look-up counts among those of the keys that fit
pub found_left : (kind : Kind) (text : List ℕ) (ks : List Key)
    → length (numbers_at kind text ks) ≤ numbers_fitting (bytes_eq text) ks kind
found_left kind text [] = omega arith
found_left kind text (k ∷ ks) = grind (arith, bytes_turned, found_left kind text ks)

-- ---- kind by kind

some_filter : (kinds : Kinds) (passes : List ℕ → Bool) (t : Table) (m : ℕ) (ts : List TextKind)
    → some_of_kinds (filter (is_in kinds) (map Text ts ++ OwnId ∷ [])) passes t.keys m
    ≡ (list_any (λ kind. has_kind kinds kind && list_any passes (texts_with (Text kind) m t.keys)) ts ||
    (kinds.own_id && list_any passes (texts_with OwnId m t.keys)))
some_filter kinds passes t m [] = grind (arith, or-false)
some_filter kinds passes t m (kind ∷ ts) = grind (arith, or_assoc, some_filter kinds passes t m ts)

pub some_of_all : (kinds : Kinds) (passes : List ℕ → Bool) (t : Table) (m : ℕ)
    → some_of_kinds (kinds_in kinds) passes t.keys m ≡ some_word passes kinds (facts_at t m)
some_of_all kinds passes t m = some_filter kinds passes t m text_kinds

-- ---- steps of look-ups

pub looks_up_digits : (keys old new : ℕ) → keys < 2 ^ 32 → TakesDigits keys old new → LooksUp keys 1 old new
looks_up_digits keys old new few takes =
    let once = takes 32 few in
    record {
      rises = omega (arith, once.2);
      most = grind arith;
    }

pub looks_up_none : (keys old new : ℕ) → new ≡ old → LooksUp keys 0 old new
looks_up_none keys old new same = record { rises = omega (arith, same); most = omega (arith, same) }

-- the walks so far, and those of the kinds that still come
pub record HaveKinds (passes : List ℕ → Bool) (keys : List Key) (each_kind : ℕ) (all coming : List Kind)
    (old new : List WalkAhead) (steps_old steps_new : ℕ) : Type 0 where
  pub each : (m : ℕ) → (some_has m new || some_of_kinds coming passes keys m)
      ≡ (some_has m old || some_of_kinds all passes keys m)
  pub left : steps_left_in new + numbers_named passes keys coming ≤ steps_left_in old + numbers_named passes keys all
  pub rises : steps_old ≤ steps_new
  pub most : (digits : ℕ) → length keys < 2 ^ digits
      → steps_new + (length coming * each_kind) * digits ≤ steps_old + (length all * each_kind) * digits

times_suc : (n a d : ℕ) → (suc n * a) * d ≡ (n * a) * d + a * d
times_suc n a d = ap (λ x. x * d) (suc-mul n a) ∙ add-mul (n * a) a d

more_times : (n a d : ℕ) → (suc n * a) * d ≡ a * d + (n * a) * d
more_times n a d = omega (arith, times_suc n a d)

module _ (passes : List ℕ → Bool) (keys : List Key) (a : ℕ) (all : List Kind) (old : List WalkAhead) (steps0 : ℕ) where
  pub kinds_more : (kind : Kind) (coming : List Kind) (ws vs : List WalkAhead) (steps1 steps2 : ℕ)
      → HaveKinds passes keys a all (kind ∷ coming) old ws steps0 steps1
      → AddsMatches (λ n. list_any passes (texts_with kind n keys)) (numbers_fitting passes keys kind) ws vs
      → LooksUp (length keys) a steps1 steps2 → HaveKinds passes keys a all coming old vs steps0 steps2
  kinds_more = grind (arith, or_assoc, more_times)

  pub kinds_steps : (kind : Kind) (coming : List Kind) (ws : List WalkAhead) (steps1 steps2 : ℕ)
      → HaveKinds passes keys a all (kind ∷ coming) old ws steps0 steps1
      → LooksUp (length keys) a steps1 steps2 → LooksUp (length keys) (length all * a) steps0 steps2
  kinds_steps = grind (arith, more_times)

-- after the last kind
pub all_kinds : (passes : List ℕ → Bool) (keys : List Key) (a i : ℕ) (kinds : Kinds) (new : List WalkAhead)
    (steps0 steps : ℕ) → 8 ≤ i → i ≤ 8
    → HaveKinds passes keys a (kinds_in kinds) (filter (is_in kinds) (drop i (map Text text_kinds ++ OwnId ∷ []))) []
    new steps0 steps
    → ((m : ℕ) → some_has m new ≡ some_of_kinds (kinds_in kinds) passes keys m)
    × (steps_left_in new ≤ numbers_named passes keys (kinds_in kinds))
    × LooksUp (length keys) (length (kinds_in kinds) * a) steps0 steps
all_kinds passes keys a i kinds new steps0 steps from to have =
    let last : i ≡ 8 = omega (arith, from, to) in
    let all = rw last at have in (
      λ m. sym (or-false _) ∙ all.each m,
      omega (arith, all.left),
      record { rises = all.rises; most = grind arith },
    )

pub next_kind : (kinds : Kinds) (kind : Kind) (rest : List Kind) (b : Bool) → is_in kinds kind ≡ b
    → filter (is_in kinds) (kind ∷ rest) ≡ cond b (kind ∷ filter (is_in kinds) rest) (filter (is_in kinds) rest)
next_kind = grind arith

pub if_joins : {A E : Type 0} (r : Result A E) (f g : ℕ → Bool) (p q : ℕ) (ws bs : List WalkAhead)
    → IfOk r (λ _. AddsMatches f p ws bs) → ((m : ℕ) → g m ≡ f m) → p ≤ q → IfOk r (λ _. AddsMatches g q ws bs)
if_joins = grind arith

-- the next kind, in the set or not
pub coming_at : (kinds : Kinds) (items : List Kind) (i : ℕ) (d : Kind) (b : Bool) → i < length items
    → is_in kinds (get_or items i d) ≡ b
    → filter (is_in kinds) (drop i items) ≡ cond b (get_or items i d ∷ filter (is_in kinds) (drop (i + 1) items))
    (filter (is_in kinds) (drop (i + 1) items))
coming_at = grind (arith, drop_more, next_kind)

module _ (passes : List ℕ → Bool) (keys : List Key) (a : ℕ) (all : List Kind) (old : List WalkAhead) (steps0 : ℕ)
    (kinds : Kinds) (items : List Kind) (i : ℕ) (d : Kind) (ws : List WalkAhead) (steps : ℕ) where
  pub kinds_next : i < length items → is_in kinds (get_or items i d) ≡ true
      → HaveKinds passes keys a all (filter (is_in kinds) (drop i items)) old ws steps0 steps
      → HaveKinds passes keys a all (get_or items i d ∷ filter (is_in kinds) (drop (i + 1) items)) old ws steps0 steps
  kinds_next lt e have = subst (λ ks. HaveKinds passes keys a all ks old ws steps0 steps)
      (coming_at _ _ i d _ lt e) have

  pub kinds_skip : i < length items → is_in kinds (get_or items i d) ≡ false
      → HaveKinds passes keys a all (filter (is_in kinds) (drop i items)) old ws steps0 steps
      → HaveKinds passes keys a all (filter (is_in kinds) (drop (i + 1) items)) old ws steps0 steps
  kinds_skip lt e have = subst (λ ks. HaveKinds passes keys a all ks old ws steps0 steps)
      (coming_at _ _ i d _ lt e) have

-- ---- past the last message

texts_past : (version count m : ℕ) (kind : Kind) (ks : List Key) → count ≤ m → AllByRecursion (IsKey version count) ks
    → texts_with kind m ks ≡ []
texts_past version count m kind [] past all = refl
texts_past version count m kind (k ∷ ks) past all =
    grind (arith, past_all, texts_past version count m kind ks past all.1)

kinds_past : (version count m : ℕ) (kinds : List Kind) (passes : List ℕ → Bool) (ks : List Key) → count ≤ m
    → AllByRecursion (IsKey version count) ks → some_of_kinds kinds passes ks m ≡ false
kinds_past version count m [] passes ks past all = refl
kinds_past version count m (kind ∷ kinds) passes ks past all =
    grind (arith, texts_past, kinds_past version count m kinds passes ks past all)

pub word_past : (kinds : Kinds) (passes : List ℕ → Bool) (t : Table) (m : ℕ) → IsWellFormed t → length t.messages ≤ m
    → some_word passes kinds (facts_at t m) ≡ false
word_past kinds passes t m well past = sym (some_of_all kinds passes t m)
    ∙ kinds_past _ _ m (kinds_in kinds) passes _ past well.keys
