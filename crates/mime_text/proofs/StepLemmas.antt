-- The place of a reader after one more line.
use Rattle.mime_text.proofs.Words.{◌≡◌, ◌∙◌, ◌++◌, ℕ, zero, suc, Bool, true, false, ◌||◌, List, [], ◌∷◌, Option, Some, None, refl, append_assoc, arith, flat_map, flat_map-append, is_empty, lines, fields_of, before_blanks, unfolded_body, has_empty, base64_bytes, bytes_of_sextets, Charset, DefaultType, TextPlain, Shape, Frame, Pair, ComingPairs, texts_of_fields, piece_of, parameter, shape_of, name_texts, leaf_texts, body_lines, parts, parts_by, is_left, StreamPlace, InHeader, InLeaf, place_after_hit, counted_part, header_parts, value, after_header, inner_step, Nest, part_texts, texts_of_message, given_from, counted_texts, header_texts, given_after_header}
use Rattle.std.proofs.lemmas.List.{append-nil}
use Rattle.mime_text.specs.declared.leaf.transfer.TransferEncoding.{TransferEncoding}
use Rattle.mime_text.proofs.StreamLaws.{IsHeader, fields_of-ended, whole_given}

abbrev Line : Type 0
Line = List ℕ

-- ---- headers

pub IsHeader-of : (ls : List Line) → has_empty ls ≡ false → IsHeader ls
IsHeader-of [] e = tt
IsHeader-of (l ∷ ls) e = (grind arith, IsHeader-of ls (grind arith))

pub has_empty-push : (ls : List Line) (l : Line) → has_empty (ls ++ l ∷ []) ≡ (has_empty ls || is_empty l)
has_empty-push [] l = grind arith
has_empty-push (k ∷ ls) l = grind (arith, has_empty-push ls l)

-- whether a line ends a header
pub empty_ends : (ls : List Line) (l : Line) (t : Bool) → has_empty ls ≡ false → has_empty (ls ++ l ∷ []) ≡ t
    → is_empty l ≡ t
empty_ends ls l t e q = grind (arith, has_empty-push)

pub fields-ended : (ls : List Line) (l : Line) → has_empty ls ≡ false → is_empty l ≡ true → fields_of (ls ++ l ∷ [])
    ≡ fields_of ls
fields-ended ls l e t = fields_of-ended ls l [] (IsHeader-of ls e) t

pub fields-on : (ls : List Line) (l : Line) (ms : List Line) → has_empty ls ≡ false → is_empty l ≡ true
    → fields_of ((ls ++ l ∷ []) ++ ms) ≡ fields_of (ls ++ l ∷ [])
fields-on ls l ms e t = grind (arith, append_assoc, fields_of-ended, IsHeader-of)

counted-is : (c : Bool) (ls : List Line) → flat_map part_texts (counted_part c ls) ≡ counted_texts c (fields_of ls)
counted-is c ls = grind (arith, append-nil)

header-is : (c : Bool) (ls : List Line) → flat_map part_texts (header_parts c ls) ≡ header_texts c (fields_of ls)
header-is c ls = grind (arith, flat_map-append, counted-is, append-nil)

-- ---- an entity without a body gives its name only

body-none : (ls : List Line) → has_empty ls ≡ false → body_lines ls ≡ []
body-none [] e = refl
body-none (l ∷ ls) e = grind (arith, body-none ls)

fields-none : texts_of_fields (fields_of []) ≡ []
unfolding fields_of
fields-none = refl

name-none : name_texts (fields_of []) ≡ []
unfolding before_blanks fields_of unfolded_body piece_of parameter
name-none = refl

pub leaf_texts-none : (transfer : TransferEncoding) (charset : Charset) (is_html : Bool)
    → leaf_texts transfer charset is_html [] ≡ []
unfolding leaf_texts lines base64_bytes bytes_of_sextets
leaf_texts-none transfer charset is_html = grind arith

-- the name, if a depth is left
abbrev name_at : ℕ → List Line → List Pair
name_at zero ls = []
name_at (suc n) ls = name_texts (fields_of ls)

parts-none : (n : ℕ) (d : DefaultType) (ls : List Line) → body_lines ls ≡ []
    → flat_map part_texts (parts shape_of n d ls) ≡ name_at n ls
parts-none zero d ls e = refl
parts-none (suc n) d ls e =
    cc (go n (λ k. parts-none n TextPlain k) (shape_of d (fields_of ls)), append-nil (name_texts (fields_of ls)))
  where
    go : (m : ℕ) → ((ks : List Line) → body_lines ks ≡ [] → flat_map part_texts (parts shape_of m TextPlain ks)
        ≡ name_at m ks) → (sh : Shape)
        → flat_map part_texts (parts_by shape_of (λ e ks. parts shape_of m e ks) (is_left m) sh ls) ≡ []
    go m h sh = grind (arith, fields-none, name-none, leaf_texts-none)

-- what an entity gives that ends in its header
pub value-header : (c : Bool) (n : ℕ) (d : DefaultType) (held : List Line) → has_empty held ≡ false
    → value shape_of part_texts (InHeader c n d held) [] ≡ header_texts c (fields_of held)
value-header c n d held e =
    cc (
      append-nil held,
      flat_map-append part_texts (counted_part c held) (parts shape_of (suc n) d held),
      parts-none (suc n) d held (body-none held e),
      counted-is c held,
    )

-- ---- one line

pub given-hit : (fs : List Frame) (place : StreamPlace Pair) (l : Line) (h : List Frame × StreamPlace Pair)
    (ms : List Line) → place_after_hit fs l ≡ Some h
    → given_from fs place (l ∷ ms) ≡ value shape_of part_texts place [] ++ given_from h.0 h.1 ms
given-hit fs place l h ms e = grind arith

given-inner : (fs : List Frame) (place : StreamPlace Pair) (l : Line) (ms : List Line) → place_after_hit {A = Pair} fs l
    ≡ None
    → given_from fs place (l ∷ ms) ≡ (inner_step shape_of part_texts fs place l).0 ++ given_from
    (inner_step shape_of part_texts fs place l).1.0 (inner_step shape_of part_texts fs place l).1.1 ms
given-inner fs place l ms e = grind arith

pub given-leaf_line : (fs : List Frame) (leaf : ComingPairs) (l : Line) (ms : List Line)
    → place_after_hit {A = Pair} fs l ≡ None
    → given_from fs (InLeaf leaf) (l ∷ ms) ≡ given_from fs (InLeaf (λ ks. leaf (l ∷ ks))) ms
given-leaf_line fs leaf l ms e = given-inner fs (InLeaf leaf) l ms e

abbrev header_step : Bool → Nest → Bool → DefaultType → List Line → Line → List Pair × (List Frame × StreamPlace Pair)
header_step t nest c d held l = elim t [
  | true ↦ (
    flat_map part_texts (header_parts c held),
    after_header shape_of part_texts (shape_of d (fields_of held)) nest.frames nest.left (fields_of held),
  )
  | false ↦ ([], (nest.frames, InHeader c nest.left d (held ++ l ∷ [])))
]

given-header : (nest : Nest) (c : Bool) (d : DefaultType) (held : List Line) (l : Line) (ms : List Line) (t : Bool)
    → place_after_hit {A = Pair} nest.frames l ≡ None → is_empty l ≡ t
    → given_from nest.frames (InHeader c nest.left d held) (l ∷ ms)
    ≡ (header_step t nest c d held l).0 ++ given_from (header_step t nest c d held l).1.0
    (header_step t nest c d held l).1.1 ms
given-header nest c d held l ms t e q = grind (arith, given-inner)

-- the header ends
pub given-ended : (nest : Nest) (c : Bool) (d : DefaultType) (held : List Line) (l : Line) (ms : List Line)
    → place_after_hit {A = Pair} nest.frames l ≡ None → has_empty held ≡ false → is_empty l ≡ true
    → given_from nest.frames (InHeader c nest.left d held) (l ∷ ms)
    ≡ header_texts c (fields_of (held ++ l ∷ [])) ++ given_after_header (shape_of d (fields_of (held ++ l ∷ []))) nest
    (fields_of (held ++ l ∷ [])) ms
given-ended nest c d held l ms e q t = grind (arith, given-header, header-is, fields-ended)

-- a leaf that has given some pairs
pub given-leaf : (fs : List Frame) (f g : ComingPairs) (qs : List Pair) → ((ms : List Line) → f ms ≡ qs ++ g ms)
    → (ms : List Line) → given_from fs (InLeaf f) ms ≡ qs ++ given_from fs (InLeaf g) ms
given-leaf fs f g qs e [] = e []
given-leaf fs f g qs e (l ∷ ms) = go (place_after_hit fs l) refl
    (given-leaf fs (λ ks. f (l ∷ ks)) (λ ks. g (l ∷ ks)) qs (λ ks. e (l ∷ ks)) ms)
  where
    go : (o : Option (List Frame × StreamPlace Pair)) → place_after_hit fs l ≡ o
        → given_from fs (InLeaf (λ ks. f (l ∷ ks))) ms
        ≡ qs ++ given_from fs (InLeaf (λ ks. g (l ∷ ks))) ms
        → given_from fs (InLeaf f) (l ∷ ms) ≡ qs ++ given_from fs (InLeaf g) (l ∷ ms)
    go o h h2 = grind (arith, append_assoc)

-- from the message's first line on
pub given-message : (ms : List Line) → texts_of_message ms ≡ given_from [] (InHeader true 16 TextPlain []) ms
unfolding texts_of_message
given-message ms = grind (arith, whole_given)
