-- Reading one line at a time gives what the parts of the outermost split give: induction over the lines and the depths.
use Rattle.mime_text.proofs.Words.{◌≡◌, ℕ, zero, suc, Bool, true, false, cond, List, [], ◌∷◌, ◌++◌, Option, Some, None, refl, sym, ◌∙◌, append_assoc, arith, flat_map, AllByRecursion, flat_map-append, is_empty, HeaderField, lines_before_empty, fields_of, DefaultType, Shape, Multipart, Message, Text, Other, Frame, Part, Entity, body_lines, is_closing, is_delimiter, preamble_and_pieces, multipart_pieces, parts, parts_by, is_left, StreamPlace, Skip, InHeader, InLeaf, or_else, own_hit, place_after_hit, counted_part, header_parts, value, after_header, inner_step, step_by, values_given}
use Rattle.std.proofs.lemmas.List.{append-nil}

abbrev Line : Type 0
Line = List ℕ

-- no line is empty
abbrev pub IsHeader : List Line → Type 0
IsHeader = AllByRecursion (λ l. is_empty l ≡ false)

before_empty_of : (ls : List Line) (l : Line) (rest : List Line) → IsHeader ls → is_empty l ≡ true
    → lines_before_empty (ls ++ l ∷ rest) ≡ ls
before_empty_of [] l rest h e = rw (e, lines_before_empty) refl
before_empty_of (k ∷ ls) l rest h e = grind (arith, before_empty_of ls l rest h.1 e)

before_empty_all : (ls : List Line) → IsHeader ls → lines_before_empty ls ≡ ls
before_empty_all [] h = refl
before_empty_all (k ∷ ls) h = grind (arith, before_empty_all ls h.1)

-- the fields of a header are known once it has ended
pub fields_of-ended : (ls : List Line) (l : Line) (rest : List Line) → IsHeader ls → is_empty l ≡ true
    → fields_of (ls ++ l ∷ rest) ≡ fields_of ls
unfolding fields_of
fields_of-ended ls l rest h e = grind (arith, before_empty_of, before_empty_all)

pub body_of : (ls : List Line) (l : Line) (rest : List Line) → IsHeader ls → is_empty l ≡ true
    → body_lines (ls ++ l ∷ rest) ≡ rest
body_of [] l rest h e = rw (e, body_lines) refl
body_of (k ∷ ls) l rest h e = rw (h.0, body_lines) (body_of ls l rest h.1 e)

pub IsHeader-push : (ls : List Line) (l : Line) → IsHeader ls → is_empty l ≡ false → IsHeader (ls ++ l ∷ [])
IsHeader-push [] l h e = (e, tt)
IsHeader-push (k ∷ ls) l h e = (h.0, IsHeader-push ls l h.1 e)

counted_part-ended : (c : Bool) (lines : List Line) (l : Line) (rest : List Line) → IsHeader lines → is_empty l ≡ true
    → counted_part c (lines ++ l ∷ rest) ≡ counted_part c lines
counted_part-ended c lines l rest h h2 = grind (arith, fields_of-ended)

header_parts-ended : (c : Bool) (lines : List Line) (l : Line) (rest : List Line) → IsHeader lines → is_empty l ≡ true
    → header_parts c (lines ++ l ∷ rest) ≡ header_parts c lines
header_parts-ended c lines l rest h e = grind (arith, counted_part-ended, fields_of-ended)

flat_map-none : {A : Type 0} (xs : List (List Line)) → flat_map {A = A} (λ (x : List Line). []) xs ≡ []
flat_map-none [] = refl
flat_map-none (x ∷ xs) = flat_map-none xs

module _ {A : Type 0} (shape_of : DefaultType → List HeaderField → Shape) (gives : Part → List A) where
  abbrev Lead : Type 0
  Lead = Option (List Frame × StreamPlace A)

  -- before a header's end no line is empty
  abbrev pub IsFine : StreamPlace A → Type 0
  IsFine Skip = Unit {0}
  IsFine (InHeader c n d lines) = IsHeader lines
  IsFine (InLeaf leaf) = Unit {0}

  abbrev hits : List Frame → Line → Lead
  hits fs l = place_after_hit fs l

  -- the lines before the first that delimits an open multipart
  abbrev before_by : Lead → Line → List Line → List Line
  before_by None l ls = l ∷ ls
  before_by (Some h) l ls = []

  abbrev before : List Frame → List Line → List Line
  before fs [] = []
  before fs (l ∷ ls) = before_by (hits fs l) l (before fs ls)

  before_all : (ls : List Line) → before [] ls ≡ ls
  before_all [] = refl
  before_all (l ∷ ls) = grind (arith, before_all ls)

  -- what comes from that line on
  abbrev later_by : Lead → List A → List Line → List A
  later_by None later ls = later
  later_by (Some h) later ls = values_given shape_of gives h.0 h.1 ls

  abbrev later : List Frame → List Line → List A
  later fs [] = []
  later fs (l ∷ ls) = later_by (hits fs l) (later fs ls) ls

  later_none : (ls : List Line) → later [] ls ≡ []
  later_none [] = refl
  later_none (l ∷ ls) = later_none ls

  preamble_is : (f : Frame) (outer : List Frame) (ls : List Line) → (preamble_and_pieces f.boundary (before outer ls)).0
      ≡ before (f ∷ outer) ls
  preamble_is f outer [] = refl
  preamble_is f outer (l ∷ ls) = grind (arith, preamble_is f outer ls)

  -- what the pieces of a multipart give
  abbrev of_pieces : ℕ → DefaultType → List (List Line) → List A
  of_pieces left d ps = flat_map gives (flat_map (parts shape_of left d) ps)

  abbrev StreamIs : List Line → List Frame → StreamPlace A → Type 0
  StreamIs ls fs place = values_given shape_of gives fs place ls
      ≡ value shape_of gives place (before fs ls) ++ later fs ls

  abbrev FrameIs : List Line → Frame → List Frame → Type 0
  FrameIs ls f outer = values_given shape_of gives (f ∷ outer) Skip ls
      ≡ of_pieces (suc f.left) f.default (multipart_pieces f.boundary (before outer ls)) ++ later outer ls

  abbrev AllStreams : List Line → Type 0
  AllStreams ls = (fs : List Frame) (place : StreamPlace A) → IsFine place → StreamIs ls fs place

  abbrev AllFrames : List Line → Type 0
  AllFrames ls = (f : Frame) (outer : List Frame) → FrameIs ls f outer

  -- the entity whose header has ended, and what comes after it
  abbrev EntityIs : Shape → List Line → List Frame → ℕ → List Line → Line → Type 0
  EntityIs sh ls fs left lines l =
      values_given shape_of gives (after_header shape_of gives sh fs left (fields_of lines)).0
      (after_header shape_of gives sh fs left (fields_of lines)).1 ls
      ≡ flat_map gives (parts_by shape_of (λ e ks. parts shape_of left e ks) (is_left left) sh
      (lines ++ l ∷ before fs ls)) ++ later fs ls

  by_shape : (sh : Shape) (ls : List Line) (fs : List Frame) (left : ℕ) (lines : List Line) (l : Line)
      → AllStreams ls → AllFrames ls → IsHeader lines → is_empty l ≡ true → EntityIs sh ls fs left lines l
  by_shape (Multipart b e) ls fs zero lines l m g h t =
      cc (m fs Skip tt, flat_map-none {A = Part} (multipart_pieces b (body_lines (lines ++ l ∷ before fs ls))))
  by_shape (Multipart b e) ls fs (suc left) lines l m g h t = grind (arith, body_of)
  by_shape Message ls fs zero lines l m g h t = m fs Skip tt
  by_shape Message ls fs (suc left) lines l m g h t = grind (arith, body_of)
  by_shape (Text is_html) ls fs left lines l m g h t = grind (arith, append-nil, fields_of-ended, body_of)
  by_shape Other ls fs left lines l m g h t = m fs Skip tt

  by_end : (ls : List Line) (fs : List Frame) (c : Bool) (left : ℕ) (d : DefaultType) (lines : List Line) (l : Line)
      → AllStreams ls → AllFrames ls → IsHeader lines → is_empty l ≡ true
      → flat_map gives (header_parts c lines)
      ++ values_given shape_of gives (after_header shape_of gives (shape_of d (fields_of lines)) fs left
      (fields_of lines)).0
      (after_header shape_of gives (shape_of d (fields_of lines)) fs left (fields_of lines)).1 ls
      ≡ value shape_of gives (InHeader c left d lines) (l ∷ before fs ls) ++ later fs ls
  by_end ls fs c left d lines l m g h t =
      let x = before fs ls in
      let all = lines ++ l ∷ x in
      let inside : Shape → List Part = λ sh. parts_by shape_of (λ e ks. parts shape_of left e ks) (is_left left) sh all
      in
      cc (
        by_shape (shape_of d (fields_of lines)) ls fs left lines l m g h t,
        append_assoc (flat_map gives (header_parts c lines)) (flat_map gives (inside (shape_of d (fields_of lines))))
            (later fs ls),
        flat_map-append gives (header_parts c lines) (inside (shape_of d (fields_of lines))),
        header_parts-ended c lines l x h t,
        fields_of-ended lines l x h t,
        append_assoc (counted_part c all) (Entity (fields_of all) ∷ []) (inside (shape_of d (fields_of all))),
      )

  one_more : (c : Bool) (n : ℕ) (d : DefaultType) (lines : List Line) (l : Line) (rest : List Line)
      → value shape_of gives (InHeader c n d (lines ++ l ∷ [])) rest
      ≡ value shape_of gives (InHeader c n d lines) (l ∷ rest)
  one_more c n d lines l rest = grind (arith, append_assoc)

  by_place : (place : StreamPlace A) (ls : List Line) (fs : List Frame) (l : Line) → AllStreams ls → AllFrames ls
      → IsFine place
      → (inner_step shape_of gives fs place l).0 ++ values_given shape_of gives
      (inner_step shape_of gives fs place l).1.0
      (inner_step shape_of gives fs place l).1.1 ls
      ≡ value shape_of gives place (l ∷ before fs ls) ++ later fs ls
  by_place place ls fs l h h2 h3 = grind (arith, by_end, IsHeader-push, one_more)

  by_hit : (o : Lead) (place : StreamPlace A) (ls : List Line) (fs : List Frame) (l : Line) → AllStreams ls
      → AllFrames ls → IsFine place
      → (step_by shape_of gives o fs place l).0 ++ values_given shape_of gives (step_by shape_of gives o fs place l).1.0
      (step_by shape_of gives o fs place l).1.1 ls
      ≡ value shape_of gives place (before_by o l (before fs ls)) ++ later_by o (later fs ls) ls
  by_hit o place ls fs l h h2 h3 = grind (arith, by_place)

  by_own : (c d : Bool) (ls : List Line) (f : Frame) (outer : List Frame) (l : Line) → AllStreams ls → AllFrames ls
      → (step_by shape_of gives (own_hit c d f outer) (f ∷ outer) Skip l).0
      ++ values_given shape_of gives (step_by shape_of gives (own_hit c d f outer) (f ∷ outer) Skip l).1.0
      (step_by shape_of gives (own_hit c d f outer) (f ∷ outer) Skip l).1.1 ls
      ≡ of_pieces (suc f.left) f.default (elim c as (λ _. List Line × List (List Line)) [
        | true ↦ ([], [])
        | false ↦ cond d (
          [],
          (preamble_and_pieces f.boundary (before outer ls)).0 ∷
              (preamble_and_pieces f.boundary (before outer ls)).1,
        ) (
          l ∷ (preamble_and_pieces f.boundary (before outer ls)).0,
          (preamble_and_pieces f.boundary (before outer ls)).1,
        )
      ]).1 ++ later outer ls
  by_own c d ls f outer l h h2 = grind (arith, preamble_is, append_assoc, flat_map-append)

  by_outer : (o : Lead) (ls : List Line) (f : Frame) (outer : List Frame) (l : Line) → AllStreams ls → AllFrames ls
      → (step_by shape_of gives (or_else o (own_hit (is_closing f.boundary l) (is_delimiter f.boundary l) f outer))
      (f ∷ outer) Skip l).0
      ++ values_given shape_of gives (step_by shape_of gives
      (or_else o (own_hit (is_closing f.boundary l) (is_delimiter f.boundary l) f outer)) (f ∷ outer) Skip l).1.0
      (step_by shape_of gives (or_else o (own_hit (is_closing f.boundary l) (is_delimiter f.boundary l) f outer))
      (f ∷ outer) Skip l).1.1 ls
      ≡ of_pieces (suc f.left) f.default (multipart_pieces f.boundary (before_by o l (before outer ls))) ++ later_by o
      (later outer ls) ls
  by_outer o ls f outer l h h2 = grind (arith, by_own)

  mutual
    given_is : (ls : List Line) (fs : List Frame) (place : StreamPlace A) → IsFine place → StreamIs ls fs place
    given_is [] fs place h = sym (append-nil (value shape_of gives place []))
    given_is (l ∷ ls) fs place h = by_hit (hits fs l) place ls fs l (λ gs p k. given_is ls gs p k)
        (λ f outer. frame_is ls f outer) h

    frame_is : (ls : List Line) (f : Frame) (outer : List Frame) → FrameIs ls f outer
    frame_is [] f outer = refl
    frame_is (l ∷ ls) f outer = by_outer (hits outer l) ls f outer l (λ gs p k. given_is ls gs p k)
        (λ e o. frame_is ls e o)

  -- from the beginning of an entity on, with no multipart open
  pub whole_given : (c : Bool) (n : ℕ) (d : DefaultType) (ls : List Line)
      → values_given shape_of gives [] (InHeader c n d []) ls
      ≡ flat_map gives (counted_part c ls ++ parts shape_of (suc n) d ls)
  whole_given c n d ls = grind (arith, given_is, later_none, append-nil, before_all)
