-- Closed spans are added to an answer message by message, and together they are the spans of the numbers.
use Rattle.mail_answer.proofs.Words.{◌≡◌, ◌∙◌, ℕ, List, [], ◌∷◌, ◌++◌, length, Option, Some, Result, IsErr, refl, ap, ap₂, sym, subst, append-nil, arith, map-append, flat_map-append, flat_map, Table, closed_text, AreSpansOf, AddsBytes, JoinsFront, WritesText, record_at, Sheet}
use Rattle.mail_answer.specs.Inside.Spans.{WritesSpans}
use Rattle.mail_answer.proofs.OutputLaws.CopiedPieces.{some_bytes}
use Rattle.mail_answer.proofs.OutputLaws.SheetLemmas.{joins_more, writes_next, writes_stop}

-- there are bytes for each message
pub some_spans : (t : Table) (numbers : List ℕ) → (spans : List (List ℕ)) × AreSpansOf t numbers spans
some_spans t [] = ([], refl)
some_spans t (n ∷ numbers) =
    let bytes = some_bytes _ in
    let rest = some_spans t numbers in
    (bytes.0 ∷ rest.0, ap₂ (λ k ks. k ∷ ks) bytes.1 rest.1)

are_spans : (t : Table) (done numbers : List ℕ) (spans more : List (List ℕ)) → AreSpansOf t done spans
    → AreSpansOf t numbers more → AreSpansOf t (done ++ numbers) (spans ++ more)
are_spans = grind (arith, map-append)

-- one more span
pub spans_more : {t u v : Option (List ℕ)} {a b c : Sheet} (table : Table) (done : List ℕ) (n : ℕ)
    → ((spans : List (List ℕ)) × AreSpansOf table done spans × AddsBytes t u a b (flat_map closed_text spans))
    → ((bytes : List ℕ) × (length bytes ≡ (record_at table.messages n).length)
    × ((text : List ℕ) × (closed_text bytes ≡ text) × AddsBytes u v b c text))
    → (spans : List (List ℕ)) × AreSpansOf table (done ++ n ∷ []) spans × AddsBytes t v a c (flat_map closed_text spans)
spans_more {t} {u} {v} {a} {b} {c} table done n so_far next =
    let spans = so_far.0 in
    let bytes = next.0 in
    let text =
    ap (λ l. flat_map closed_text spans ++ l) (sym next.2.1 ∙ sym (append-nil (closed_text bytes)))
    ∙ sym (flat_map-append closed_text _ _) in (
      spans ++ bytes ∷ [],
      are_spans table _ _ _ _ so_far.1 (grind arith),
      subst (AddsBytes t v a c) text (joins_more so_far.2 next.2.2),
    )

-- a span that wasn't written whole, before others
pub spans_stop : {T E : Type 0} (t u v : Option (List ℕ)) (a b c : Sheet) (table : Table) (done : List ℕ) (n : ℕ)
    (after : List ℕ) (r : Result T E) → IsErr r
    → ((spans : List (List ℕ)) × AreSpansOf table done spans × AddsBytes t u a b (flat_map closed_text spans))
    → ((bytes : List ℕ) × (length bytes ≡ (record_at table.messages n).length)
    × ((text : List ℕ) × (closed_text bytes ≡ text) × JoinsFront u v b c text))
    → WritesSpans t v a c table (done ++ n ∷ after) r
spans_stop {T} {E} t u v a b c table done n after r err so_far next =
    let spans = so_far.0 in
    let bytes = next.0 in
    let rest = some_spans table _ in
    let text = sym (flat_map-append closed_text spans _) in (
      spans ++ bytes ∷ rest.0,
      are_spans table _ _ _ _ so_far.1 (ap₂ (λ k ks. k ∷ ks) next.1 rest.1),
      subst (λ l. WritesText t v a c (Some l) r) text
          (writes_next t u v a b c (Some (flat_map closed_text spans))
          (Some (closed_text bytes ++ flat_map closed_text rest.0)) r
          (flat_map closed_text spans, refl, so_far.2)
          (writes_stop u v b c (Some (closed_text bytes)) (Some (flat_map closed_text rest.0)) r err next.2)),
    )

-- the last call
pub spans_end : {T E : Type 0} (t u v : Option (List ℕ)) (a b c : Sheet) (table : Table) (numbers : List ℕ)
    (r : Result T E)
    → ((spans : List (List ℕ)) × AreSpansOf table numbers spans × AddsBytes t u a b (flat_map closed_text spans))
    → WritesText u v b c (Some []) r → WritesSpans t v a c table numbers r
spans_end {T} {E} t u v a b c table numbers r so_far last =
    let text = flat_map closed_text so_far.0 in (
      so_far.0,
      so_far.1,
      subst (λ l. WritesText t v a c (Some l) r) (append-nil text)
          (writes_next t u v a b c (Some text) (Some []) r (text, refl, so_far.2) last),
    )
