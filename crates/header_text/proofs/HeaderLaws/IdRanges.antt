-- The ids found by their ranges are those of the texts up to each `>`.
use Rattle.header_text.proofs.Words.{◌≡◌, ◌∙◌, ◌++◌, ◌&&◌, ◌==◌, ℕ, Bool, true, false, cond, List, [], ◌∷◌, Option, Some, None, refl, ap, ap₂, append_assoc, append-nil, inl, inr, ◌⊎◌, nat_lt, arith, list_all, map-append, filter-append, eqb-true, open_sign, close_sign, begins_with_byte, is_inside_id, is_id_range, kept_ids, ids_of, closed_texts, after_last_open, ids_of_texts}
use Rattle.std.proofs.lemmas.List.Folds.{list_all-append}
use Rattle.contract_words.proofs.RangePlaces.{seen_on, seen_from, if_passes, seen_after-places}
use Rattle.header_text.proofs.CutLemmas.{Lacks}

-- ---- three tests

not_first : (a b c : Bool) → a ≡ false → (a && b && c) ≡ false
not_first a b c e = rw e refl

-- ---- the ids that begin with some bytes, and those that begin in the rest

abbrev ids_on : List ℕ → List ℕ → List ℕ → List (List ℕ)
ids_on = seen_on is_id_range (λ bs. bs)

abbrev pub ids_from : List ℕ → List ℕ → List (List ℕ)
ids_from = seen_from is_id_range (λ bs. bs)

abbrev one : List ℕ → List ℕ → List ℕ → List (List ℕ)
one = if_passes is_id_range (λ bs. bs)

refused : (before inside after : List ℕ) → is_id_range before inside after ≡ false → one before inside after ≡ []
refused before inside after e = ap (λ (t : Bool). cond t (inside ∷ []) []) e

-- one more byte inside
inside_more : (inside : List ℕ) (b : ℕ) → list_all is_inside_id inside ≡ true → is_inside_id b ≡ true
    → list_all is_inside_id (inside ++ b ∷ []) ≡ true
inside_more inside b e f = grind (arith, list_all-append)

broken_more : (inside : List ℕ) (b : ℕ) → list_all is_inside_id inside ≡ false
    → list_all is_inside_id (inside ++ b ∷ []) ≡ false
broken_more inside b e = grind (arith, list_all-append)

broken_by : (inside : List ℕ) (b : ℕ) → is_inside_id b ≡ false → list_all is_inside_id (inside ++ b ∷ []) ≡ false
broken_by inside b e = grind (arith, list_all-append)

-- no `<` is directly before them
on-unopened : (before inside rest : List ℕ) → begins_with_byte open_sign before ≡ false → ids_on before inside rest ≡ []
on-unopened before inside [] e = refl
on-unopened before inside (c ∷ cs) e = grind
    (arith, refused, before, not_first, on-unopened before (inside ++ c ∷ []) cs e)

refused_broken : (before inside after : List ℕ) → list_all is_inside_id inside ≡ false → one before inside after ≡ []
refused_broken before inside after e = grind (arith, refused, before, after)

refused_open : (before inside after : List ℕ) → begins_with_byte close_sign after ≡ false → one before inside after ≡ []
refused_open before inside after e = grind (arith, refused, before, after)

-- a `<` or a `>` is among them
on-broken : (before inside rest : List ℕ) → list_all is_inside_id inside ≡ false → ids_on before inside rest ≡ []
on-broken before inside [] e = refl
on-broken before inside (c ∷ cs) e = grind
    (arith, refused_broken, broken_more, on-broken before (inside ++ c ∷ []) cs (broken_more inside c e))

on-sign : (before inside rest : List ℕ) (c : ℕ) → is_inside_id c ≡ false → ids_on before inside (c ∷ rest) ≡ []
on-sign before inside rest c e = grind (arith, refused_broken, before, broken_by, on-broken)

not_closed : (x rest : List ℕ) → Lacks close_sign x → begins_with_byte close_sign rest ≡ false
    → begins_with_byte close_sign (x ++ rest) ≡ false
not_closed [] rest free e = e
not_closed (b ∷ x) rest free e = free.0

-- a `<` comes before any `>`
on-reopened : (before inside x rest : List ℕ) → Lacks close_sign x → ids_on before inside (x ++ open_sign ∷ rest) ≡ []
on-reopened before inside [] rest free = on-sign before inside rest open_sign refl
on-reopened before inside (b ∷ x) rest free =
    grind (arith, refused_open, before, not_closed, on-reopened before (inside ++ b ∷ []) x rest free.1)

-- no `>` comes
on-end : (before inside x : List ℕ) → Lacks close_sign x → ids_on before inside x ≡ []
on-end before inside [] free = refl
on-end before inside (b ∷ x) free = grind
    (arith, append-nil, not_closed, refused_open, before, on-end before (inside ++ b ∷ []) x free.1)

-- a text, or nothing if these bytes are none
abbrev unless_none : List ℕ → List ℕ → List (List ℕ)
unless_none [] text = []
unless_none (b ∷ bs) text = text ∷ []

on-found : (before inside u rest : List ℕ) → begins_with_byte open_sign before ≡ true → list_all is_inside_id inside
    ≡ true
    → Lacks open_sign u → Lacks close_sign u
    → ids_on before inside (u ++ close_sign ∷ rest) ≡ unless_none u (inside ++ u)
on-found before inside [] rest e f unopened unclosed = on-sign before inside rest close_sign refl
on-found before inside (b ∷ []) rest e f unopened unclosed =
    grind (arith, inside_more, on-sign)
on-found before inside (b ∷ c ∷ u) rest e f unopened unclosed =
    grind (arith, inside_more, append_assoc, on-found before (inside ++ b ∷ []) (c ∷ u) rest e)

-- ---- of the bytes before, it matters only whether a `<` comes last

on-same : (x y inside rest : List ℕ) → begins_with_byte open_sign x ≡ begins_with_byte open_sign y
    → ids_on x inside rest
    ≡ ids_on y inside rest
on-same x y inside [] e = refl
on-same x y inside (c ∷ cs) e = grind (arith, on-same x y (inside ++ c ∷ []) cs e)

from-same : (x y rest : List ℕ) → begins_with_byte open_sign x ≡ begins_with_byte open_sign y → ids_from x rest
    ≡ ids_from y rest
from-same x y [] e = refl
from-same x y (c ∷ cs) e = grind (arith, on-same, from-same (c ∷ x) (c ∷ y) cs refl)

from-reopened : (before x rest : List ℕ) → Lacks close_sign x → ids_from before (x ++ open_sign ∷ rest)
    ≡ ids_from (open_sign ∷ []) rest
from-reopened before [] rest free = ap₂ ◌++◌ (on-reopened before [] [] rest tt)
    (from-same (open_sign ∷ before) (open_sign ∷ []) rest refl)
from-reopened before (b ∷ x) rest free =
    ap₂ ◌++◌ (on-reopened before [] (b ∷ x) rest free) (from-reopened (b ∷ before) x rest free.1)

from-unopened : (before u rest : List ℕ) → begins_with_byte open_sign before ≡ false → Lacks open_sign u
    → ids_from before (u ++ close_sign ∷ rest) ≡ ids_from [] rest
from-unopened before [] rest e free = grind (arith, on-unopened, from-same)
from-unopened before (b ∷ u) rest e free =
    grind (arith, on-unopened, from-unopened (b ∷ before) u rest free.0 free.1)

from-found : (u rest : List ℕ) → Lacks open_sign u → Lacks close_sign u
    → ids_from (open_sign ∷ []) (u ++ close_sign ∷ rest) ≡ unless_none u u ++ ids_from [] rest
from-found [] rest unopened unclosed =
    ap₂ ◌++◌ (on-found (open_sign ∷ []) [] [] rest refl refl tt tt)
    (from-same (close_sign ∷ open_sign ∷ []) [] rest refl)
from-found (b ∷ u) rest unopened unclosed = grind (arith, on-found, unopened, unclosed, from-unopened)

from-end : (before x : List ℕ) → Lacks close_sign x → ids_from before x ≡ []
from-end before [] free = refl
from-end before (b ∷ x) free = grind (arith, on-end, from-end (b ∷ before) x free.1)

-- ---- a text up to its `>`

kept-append : (xs ys : List (List ℕ)) → kept_ids (xs ++ ys) ≡ kept_ids xs ++ kept_ids ys
kept-append xs ys = grind (arith, nat_lt, map-append, filter-append)

-- a `<` is in the text, and none after it
record LastOpen (text : List ℕ) : Type 0 where
  before : List ℕ
  after : List ℕ
  joined : text ≡ before ++ open_sign ∷ after
  is : after_last_open text ≡ Some after
  unopened : Lacks open_sign after
  unclosed_before : Lacks close_sign before
  unclosed : Lacks close_sign after

abbrev judged : ℕ → List ℕ → Option (List ℕ) → Option (List ℕ)
judged b bs o = elim o [ Some id ↦ Some id | None ↦ elim (b == open_sign) [ true ↦ Some bs | false ↦ None ] ]

last_open : (text : List ℕ) → Lacks close_sign text → ((after_last_open text ≡ None) × Lacks open_sign text)
    ⊎ LastOpen text
last_open [] free = inl (refl, tt)
last_open (b ∷ bs) free = elim (last_open bs free.1) [
  | inr o ↦ inr (record {
    before = b ∷ o.before;
    after = o.after;
    joined = ap (λ (l : List ℕ). b ∷ l) o.joined;
    is = ap (judged b bs) o.is;
    unopened = o.unopened;
    unclosed_before = (free.0, o.unclosed_before);
    unclosed = o.unclosed;
  })
  | inl none ↦ go (b == open_sign) refl none
]
  where
    go : (t : Bool) → (b == open_sign) ≡ t → (after_last_open bs ≡ None) × Lacks open_sign bs
        → ((after_last_open (b ∷ bs) ≡ None) × Lacks open_sign (b ∷ bs)) ⊎ LastOpen (b ∷ bs)
    go true t none = inr (record {
      before = [];
      after = bs;
      joined = ap (λ (x : ℕ). x ∷ bs) (eqb-true b open_sign t);
      is = ap (judged b bs) none.0 ∙ rw (judged, t) refl;
      unopened = none.1;
      unclosed_before = tt;
      unclosed = free.1;
    })
    go false t none = grind arith

from-text : (text rest : List ℕ) → Lacks close_sign text → kept_ids (ids_from [] (text ++ close_sign ∷ rest))
    ≡ ids_of_texts (text ∷ []) ++ kept_ids (ids_from [] rest)
from-text text rest free = grind (arith, last_open, from-unopened, append_assoc, from-reopened, from-found, kept-append)

-- ---- all texts

-- the texts with a front before the first
abbrev onto_text : List ℕ → List (List ℕ) → List (List ℕ)
onto_text front [] = []
onto_text front (text ∷ texts) = (front ++ text) ∷ texts

onto_text-nil : (texts : List (List ℕ)) → onto_text [] texts ≡ texts
onto_text-nil texts = grind arith

lacks_more : (front : List ℕ) (b : ℕ) → Lacks close_sign front → (b == close_sign) ≡ false
    → Lacks close_sign (front ++ b ∷ [])
lacks_more [] b free e = (e, tt)
lacks_more (a ∷ front) b free e = (free.0, lacks_more front b free.1 e)

from-texts : (front bs : List ℕ) → Lacks close_sign front → kept_ids (ids_from [] (front ++ bs))
    ≡ ids_of_texts (onto_text front (closed_texts bs))
from-texts front [] free = grind (arith, append-nil, from-end)
from-texts front (b ∷ bs) free = grind (
  arith,
  lacks_more,
  from-text,
  append-nil,
  append_assoc,
  from-texts [] bs,
  from-texts (front ++ b ∷ []) bs,
)

pub ids_of-closed : (value : List ℕ) → ids_of value ≡ ids_of_texts (closed_texts value)
unfolding ids_of
ids_of-closed value =
    cc (seen_after-places is_id_range (λ bs. bs) [] value, from-texts [] value tt, onto_text-nil (closed_texts value))
