-- Names of attachments don't matter to a query that doesn't use them, by induction over the query.
use Rattle.mail_query.proofs.Words.{◌≡◌, ◌∙◌, Bool, false, not, List, refl, sym, ap, ℕ, ◌&&◌, ◌||◌, or_parts, Kinds, Query, Any, Word, Part, Prefix, Date, Size, HasFlag, Not, Either, Queries, End, More, kinds_sought, kinds_inside, have_names, uses_names, Facts, without_names, some_word, is_true, each_is_true, some_is_true}
use Rattle.std.proofs.lemmas.List.Folds.{list_any-append}
use Rattle.mail_query.specs.Query.{All}

-- members use names if the first does, or one after it
pub names-more : (q : Query) (qs : Queries) → have_names (kinds_inside (More q qs))
    ≡ (uses_names q || have_names (kinds_inside qs))
names-more q qs = list_any-append (λ kinds. kinds.name) (kinds_sought q) (kinds_inside qs)

none-more : (q : Query) (qs : Queries) → have_names (kinds_inside (More q qs)) ≡ false → (uses_names q ≡ false)
    × (have_names (kinds_inside qs) ≡ false)
none-more q qs h = or_parts (uses_names q) (have_names (kinds_inside qs)) (sym (names-more q qs) ∙ h)

word-without : (passes : List ℕ → Bool) (kinds : Kinds) (m : Facts) → (kinds.name || false) ≡ false
    → some_word passes kinds (without_names m) ≡ some_word passes kinds m
word-without passes kinds m h = let none = (or_parts kinds.name false h).0 in rw none refl

mutual
  pub true-without : (q : Query) (m : Facts) → uses_names q ≡ false → is_true q (without_names m) ≡ is_true q m
  true-without Any m h = refl
  true-without (Word kinds text) m h = word-without _ kinds m h
  true-without (Part kinds text) m h = word-without _ kinds m h
  true-without (Prefix kinds text) m h = word-without _ kinds m h
  true-without (Date range) m h = refl
  true-without (Size low high) m h = refl
  true-without (HasFlag flag wanted) m h = refl
  true-without (Not q) m h = ap not (true-without q m h)
  true-without (All qs) m h = each-without qs m h
  true-without (Either qs) m h = some-without qs m h

  each-without : (qs : Queries) (m : Facts) → have_names (kinds_inside qs) ≡ false → each_is_true qs (without_names m)
      ≡ each_is_true qs m
  each-without End m h = refl
  each-without (More q qs) m h = let none = none-more q qs h
      in λ i. true-without q m none.0 i && each-without qs m none.1 i

  some-without : (qs : Queries) (m : Facts) → have_names (kinds_inside qs) ≡ false → some_is_true qs (without_names m)
      ≡ some_is_true qs m
  some-without End m h = refl
  some-without (More q qs) m h = let none = none-more q qs h
      in λ i. true-without q m none.0 i || some-without qs m none.1 i
