-- An mbox answer over the table of its archives is cut again into its messages, because each was cut out of an archive.
use Rattle.contract_words.specs.Archives.{archive_at}
use Rattle.mairix_tool.proofs.Words.{◌≡◌, ◌∙◌, ℕ, zero, suc, ◌<◌, false, List, [], ◌∷◌, ◌++◌, Option, Some, None, length, map, take, drop, unwrap_or, refl, sym, ap, subst, arith, append_assoc, slice_index_or, option_map, map-append, length-map, length_push, get_or_at, All-map, flat_map-map, Record, Message, messages, span_length, closed_text, span, answer_text, record_at, Mbox, messages_in, record_of, records_from, table}
use Rattle.std.specs.List.{All}
use Rattle.mail_answer.specs.declared.format.Format.TheVariants as format
use Rattle.mail_answer.specs.CutAgain.{IsCutOut, IsCutInto, ends_in_return}
use Rattle.mail_answer.proofs.OutputLaws.CutAgain.{cut-again}
use Rattle.mail_answer.proofs.OutputLaws.MessageLines.{Each, span_of}
use Rattle.mairix_tool.specs.CutAgain.{bytes_of_archives, spans_at}

each-joined : {A : Type 0} (P : A → Type 0) (xs ys : List A) → Each P xs → Each P ys → Each P (xs ++ ys)
each-joined P [] ys h k = k
each-joined P (x ∷ xs) ys h k = (h.0, each-joined P xs _ h.1 k)

each-at : {A : Type 0} (P : A → Type 0) (xs : List A) (i : ℕ) (d : A) → i < length xs → Each P xs
    → P (slice_index_or xs i d)
each-at P [] i d below h = absurd (omega arith)
each-at P (x ∷ xs) zero d below h = h.0
each-at P (x ∷ xs) (suc i) d below h = each-at P xs i d (omega arith) h.1

-- the span of a record of archives is cut out of one of them
abbrev IsOf : List Mbox → Record → Type 0
IsOf archives r = IsCutOut (span (bytes_of_archives archives) r)

-- the spans of an archive's messages, after those before them
each-cut : (all : List Mbox) (n : ℕ) (bytes : List ℕ) (before ms : List Message) → archive_at (bytes_of_archives all) n
    ≡ bytes
    → messages bytes ≡ Some (before ++ ms) → Each (IsOf all) (map (record_of n) ms)
each-cut all n bytes before [] is cuts = tt
each-cut all n bytes before (m ∷ ms) is cuts =
    let spans =
    ap (option_map (map span_of)) cuts ∙ ap Some (map-append _ _ _) in
    let here : IsCutOut (take (span_length m) (drop m.offset bytes)) =
    record {
      archive = bytes;
      before = map span_of before;
      here = span_of m;
      after = map span_of ms;
      is_cut = spans;
      is_text = refl;
    } in (
      subst (λ b. IsCutOut (take (span_length m) (drop m.offset b))) (sym is) here,
      each-cut _ n _ (before ++ m ∷ []) ms is (cuts ∙ ap Some (sym (append_assoc before (m ∷ []) ms))),
    )

each-in : (all : List Mbox) (n : ℕ) (bytes : List ℕ) → archive_at (bytes_of_archives all) n ≡ bytes
    → Each (IsOf all) (map (record_of n) (messages_in bytes))
each-in all n bytes is = go _ refl
  where
    go : (o : Option (List Message)) → messages bytes ≡ o → Each (IsOf all) (map (record_of n) (unwrap_or o []))
    go None e = tt
    go (Some ms) e = each-cut _ n _ [] _ is e

each-record : (n : ℕ) (before archives : List Mbox) → length before ≡ n
    → Each (IsOf (before ++ archives)) (records_from n archives)
each-record n before [] long = tt
each-record n before (a ∷ archives) long =
    let is =
    ap (λ bs. archive_at bs n) (map-append _ _ _)
    ∙ get_or_at (bytes_of_archives before) a.bytes (bytes_of_archives archives) [] n
    (length-map before (λ b. b.bytes) ∙ long) in
    let rest =
    each-record (suc n) _ archives (omega (arith, length_push before a)) in
    each-joined _ _
    _
    (each-in _ n _ is)
    (subst (λ all. Each (IsOf all) (records_from (suc n) archives))
    (append_assoc before (a ∷ []) archives) rest)

pub answer-cut-again : (archives : List Mbox) (numbers : List ℕ)
    → All (λ n. n < length (table archives).messages) numbers
    → All (λ text. ends_in_return text ≡ false) (spans_at archives numbers)
    → IsCutInto (answer_text format.Mbox (table archives) (bytes_of_archives archives) numbers)
    (map closed_text (spans_at archives numbers))
answer-cut-again archives numbers within other =
    let records = (table archives).messages in
    let span_at : ℕ → List ℕ = λ n. span (bytes_of_archives archives) (record_at records n) in
    let each = each-record 0 [] _ refl in
    let out =
    All-map IsCutOut _ _ (λ k d h. each-at _ _ _ _
    (within k d h) each) in
    subst (λ text. IsCutInto text (map closed_text (spans_at archives numbers)))
    (flat_map-map closed_text span_at numbers) (cut-again _ out other)
