-- Delimiter lines and the open multiparts: what the code finds is what Stream defines.
use Rattle.mime_text.proofs.Words.{◌≡◌, ◌∙◌, ◌≤◌, ◌<◌, ◌+◌, ◌-◌, ◌++◌, ◌==◌, ℕ, zero, suc, true, false, cond, List, [], ◌∷◌, Option, Some, None, length, take, drop, refl, sym, ap, arith, add-one, get_or, Bor, slice_get, option_map, MatchOption, IfSome, eqb-true, bytes_eq, after_blanks, DefaultType, Frame, Delimiter, are_blanks, is_delimiter, is_closing, StreamPlace, Skip, InHeader, or_else, own_hit, place_after_hit, dash_dash, dashes, kind_after, delimiter_of, place_after_delimiter, scan, inside_out, with_frame, AreNested, take_at}
use Rattle.std.proofs.lemmas.Option.{slice_get-get_or}
use Rattle.header_text.specs.EncodedWords.{after}
use Rattle.mime_text.specs.Frames.{goes_on_apart, is_apart_from}
use Rattle.mime_text.specs.declared.parts.delimiter.Delimiter.TheVariants.{Next, Closing}

-- ---- the beginning of some bytes

-- what follows the second text, if it comes after the first
abbrev then_after : Option (List ℕ) → List ℕ → Option (List ℕ)
then_after None b = None
then_after (Some rest) b = after b rest

after-append : (a b bytes : List ℕ) → after (a ++ b) bytes ≡ then_after (after a bytes) b
after-append [] b bytes = refl
after-append (c ∷ a) b [] = refl
after-append (c ∷ a) b (x ∷ bytes) = grind (arith, after-append a b bytes)

after-tested : (front bytes : List ℕ) → after front bytes
    ≡ cond (bytes_eq (take (length front) bytes) front) (Some (drop (length front) bytes)) None
after-tested [] bytes = refl
after-tested (c ∷ front) [] = refl
after-tested (c ∷ front) (x ∷ bytes) = grind (arith, after-tested front bytes)

-- bytes are blanks only if nothing comes after the blanks
pub blanks_alone : (bytes : List ℕ) → (length (after_blanks bytes) == 0) ≡ are_blanks (Some bytes)
blanks_alone [] = refl
blanks_alone (b ∷ bs) = grind (arith, blanks_alone bs)

-- bytes that begin with two dashes aren't blanks only
pub not_blank : (rest end : List ℕ) → after dash_dash rest ≡ Some end → are_blanks (Some rest) ≡ false
not_blank rest end h = grind arith

-- the result of `strip_prefix`
pub after-stripped : (front bytes : List ℕ) (r : Option (Bor (List ℕ)))
    → MatchOption r (bytes_eq (take (length front) bytes) front ≡ false)
    (λ x. (bytes_eq (take (length front) bytes) front ≡ true) × (x.now ≡ drop (length front) bytes)
    × (length x.now + length front ≡ length bytes))
    → option_map (λ x. x.now) r ≡ after front bytes
after-stripped front bytes r h = grind (arith, after-tested)

-- each byte of the text that begins some bytes
pub after-each : (front bytes : List ℕ) (k : ℕ) → k < length front
    → IfSome (after front bytes) (λ _. (k < length bytes) × (get_or bytes k 0 ≡ get_or front k 0))
after-each [] bytes k below = absurd (omega (arith, below))
after-each (c ∷ front) [] k below = tt
after-each (c ∷ front) (b ∷ bytes) zero below = grind (arith, eqb-true)
after-each (c ∷ front) (b ∷ bytes) (suc k) below = grind (arith, after-each front bytes k)

-- ---- delimiters

abbrev led_by : {A : Type 0} → Option (List ℕ) → Frame → List Frame → Option (List Frame × StreamPlace A)
led_by None f outer = None
led_by (Some text) f outer = place_after_delimiter (delimiter_of f.boundary text) f outer

own_hit-is : {A : Type 0} (l : List ℕ) (f : Frame) (outer : List Frame)
    → own_hit {A = A} (is_closing f.boundary l) (is_delimiter f.boundary l) f outer ≡ led_by (dashes l) f outer
unfolding is_delimiter dashes delimiter_of
own_hit-is {A} l f outer =
    grind (arith, after-append)

-- ---- the outermost multipart that a line delimits

abbrev pub scan_by : {A : Type 0} → Option (List ℕ) → List Frame → List Frame → Option (List Frame × StreamPlace A)
scan_by None outer fs = None
scan_by (Some text) outer fs = scan outer fs text

or_else-assoc : {A : Type 0} (a b c : Option A) → or_else (or_else a b) c ≡ or_else a (or_else b c)
or_else-assoc a b c = grind arith

hit_inside : {A : Type 0} (l : List ℕ) (fs outer : List Frame) → place_after_hit {A = A} (inside_out fs outer) l
    ≡ or_else (place_after_hit outer l) (scan_by (dashes l) outer fs)
hit_inside {A} l [] outer = grind arith
hit_inside {A} l (f ∷ fs) outer =
    hit_inside l fs (f ∷ outer)
    ∙ ap (λ (o : Option (List Frame × StreamPlace A)). or_else (or_else (place_after_hit outer l) o)
    (scan_by (dashes l) (f ∷ outer) fs)) (own_hit-is l f outer)
    ∙ or_else-assoc (place_after_hit outer l) (led_by (dashes l) f outer) (scan_by (dashes l) (f ∷ outer) fs)
    ∙ ap (or_else (place_after_hit outer l)) (go (dashes l))
  where
    go : (o : Option (List ℕ)) → or_else (led_by {A = A} o f outer) (scan_by o (f ∷ outer) fs)
        ≡ scan_by o outer (f ∷ fs)
    go o = grind arith

pub hit-is : {A : Type 0} (l : List ℕ) (fs : List Frame) → place_after_hit {A = A} (inside_out fs []) l
    ≡ scan_by (dashes l) [] fs
hit-is l fs = hit_inside l fs []

-- the search passes over the multiparts that the line doesn't delimit, and ends at one that it does
pub scan-at : {A : Type 0} (text : List ℕ) (fs : List Frame) (n : ℕ) (outer : List Frame) (f : Frame) → slice_get fs n
    ≡ Some f
    → scan {A = A} (inside_out (take n fs) outer) (drop n fs) text
    ≡ or_else (place_after_delimiter (delimiter_of f.boundary text) f (inside_out (take n fs) outer))
    (scan (inside_out (take (suc n) fs) outer) (drop (suc n) fs) text)
scan-at text [] n outer f e = absurd (cc)
scan-at {A} text (g ∷ gs) zero outer f e = grind (arith)
scan-at text (g ∷ gs) (suc n) outer f e = scan-at text gs n (g ∷ outer) f e

pub inside_out-at : (fs : List Frame) (n : ℕ) (outer : List Frame) (f : Frame) → slice_get fs n ≡ Some f
    → inside_out (take (suc n) fs) outer ≡ f ∷ inside_out (take n fs) outer
inside_out-at [] n outer f e = absurd (cc)
inside_out-at (g ∷ gs) zero outer f e = grind (arith)
inside_out-at (g ∷ gs) (suc n) outer f e = inside_out-at gs n (g ∷ outer) f e

pub inside_out-push : (fs outer : List Frame) (f : Frame) → inside_out (fs ++ f ∷ []) outer ≡ f ∷ inside_out fs outer
inside_out-push [] outer f = refl
inside_out-push (g ∷ gs) outer f = inside_out-push gs (g ∷ outer) f

-- ---- how deep multiparts are

pub AreNested_push : (above : ℕ) (fs : List Frame) (f : Frame) → AreNested above fs
    → above + length fs + 1 + f.left ≤ 16 → AreNested above (fs ++ f ∷ [])
AreNested_push above [] f h e = (omega arith, tt)
AreNested_push above (g ∷ gs) f h e = (h.0, AreNested_push (above + 1) gs f h.1 (omega arith))

pub AreNested-take : (above : ℕ) (fs : List Frame) (n : ℕ) → AreNested above fs → AreNested above (take n fs)
AreNested-take above fs zero h = tt
AreNested-take above [] (suc n) h = tt
AreNested-take above (g ∷ gs) (suc n) h = (h.0, AreNested-take (above + 1) gs n h.1)

pub AreNested-at : (above : ℕ) (fs : List Frame) (n : ℕ) (f : Frame) → AreNested above fs → slice_get fs n ≡ Some f
    → above + n + 1 + f.left ≤ 16
AreNested-at above [] n f h e = absurd (cc)
AreNested-at above (g ∷ gs) zero f h e = grind (arith)
AreNested-at above (g ∷ gs) (suc n) f h e = omega (arith, AreNested-at (above + 1) gs n f h.1 e)

-- the open multiparts with one more
pub open_frames : (fs : List Frame) (left : ℕ) (boundary : List ℕ) (d : DefaultType) → 0 < left
    → inside_out (fs ++ record { boundary = boundary; default = d; left = left - 1 } ∷ []) []
    ≡ with_frame left boundary d (inside_out fs [])
open_frames fs left boundary d h = grind (arith, inside_out-push)

-- ---- the place after a delimiter

pub or_else-led : {A : Type 0} (k : Delimiter) (f : Frame) (outer : List Frame)
    (o : Option (List Frame × StreamPlace A)) → or_else (place_after_delimiter (Some k) f outer) o
    ≡ place_after_delimiter (Some k) f outer
or_else-led k f outer o = grind arith

-- the element at the index that a loop or an index expression reads
pub got-at : (fs : List Frame) (n : ℕ) (f : Frame) → n < length fs → f ≡ get_or fs n f → slice_get fs n ≡ Some f
got-at fs n f h e = grind (arith, slice_get-get_or)

pub no_dashes : {A : Type 0} (l : List ℕ) (frames : List Frame) → dashes l ≡ None → place_after_hit {A = A} frames l
    ≡ None
no_dashes l [] e = refl
no_dashes {A} l (f ∷ outer) e =
    ap (λ (o : Option (List Frame × StreamPlace A)). or_else o
    (own_hit (is_closing f.boundary l) (is_delimiter f.boundary l) f outer)) (no_dashes l outer e)
    ∙ own_hit-is l f outer ∙ ap (λ (o : Option (List ℕ)). led_by {A = A} o f outer) e

pub scanned : {A : Type 0} (l text : List ℕ) (frames fs seen : List Frame) (o : Option (List Frame × StreamPlace A))
    → frames ≡ inside_out fs [] → seen ≡ fs → dashes l ≡ Some text → scan [] seen text ≡ o → place_after_hit frames l
    ≡ o
scanned {A} l text frames fs seen o v q e s = grind (arith, hit-is)

-- what the search finds of the multipart that a line delimits
abbrev pub Found : (A : Type 0) → List Frame → List ℕ → ℕ → Delimiter → Type 0
Found A seen text n k = (f : Frame) × (slice_get seen n ≡ Some f)
    × (scan {A = A} [] seen text ≡ place_after_delimiter (Some k) f (inside_out (take n seen) []))

pub closing-leads : {A : Type 0} (l text : List ℕ) (frames fs seen kept : List Frame) (n : ℕ) (k : Delimiter)
    → frames ≡ inside_out fs [] → seen ≡ fs → dashes l ≡ Some text → k ≡ Closing → Found A seen text n k → kept
    ≡ take n fs
    → Some (inside_out kept [], Skip) ≡ place_after_hit {A = A} frames l
closing-leads {A} l text frames fs seen kept n k v q e is found t = grind (arith, scanned)

pub next-leads : {A : Type 0} (l text : List ℕ) (frames fs seen kept : List Frame) (n : ℕ) (k : Delimiter) (g : Frame)
    → frames ≡ inside_out fs [] → seen ≡ fs → dashes l ≡ Some text → k ≡ Next → Found A seen text n k → slice_get fs n
    ≡ Some g → kept ≡ take (n + 1) fs
    → Some (inside_out kept [], InHeader false g.left g.default []) ≡ place_after_hit {A = A} frames l
next-leads {A} l text frames fs seen kept n k g v q e is found got t = grind (arith, add-one, scanned, inside_out-at)

-- ---- boundaries that are apart

-- what follows each of two boundaries in a text, if both begin it: one of them goes on with what follows the other one
apart-fronts : (one other text : List ℕ) (j k : Delimiter) → goes_on_apart (after one other) ≡ true
    → goes_on_apart (after other one) ≡ true → kind_after (after one text) ≡ Some j
    → kind_after (after other text) ≡ Some k → ⊥
apart-fronts [] [] text j k h h2 e f = absurd (cc h)
apart-fronts [] (c ∷ other) text j k h h2 e f = grind arith
apart-fronts (c ∷ one) [] text j k h h2 e f = grind arith
apart-fronts (c ∷ one) (d ∷ other) [] j k h h2 e f = absurd (cc e)
apart-fronts (c ∷ one) (d ∷ other) (b ∷ text) j k h h2 e f = grind (arith, eqb-true, apart-fronts one other text j k)

-- a line that delimits the multipart f passes over those from which its boundary is apart
scan-apart : {A : Type 0} (text : List ℕ) (fs outer : List Frame) (f : Frame) (k : Delimiter)
    → is_apart_from f.boundary fs ≡ true → delimiter_of f.boundary text ≡ Some k
    → scan {A = A} outer (fs ++ f ∷ []) text ≡ place_after_delimiter (Some k) f (inside_out fs outer)
unfolding delimiter_of
scan-apart text [] outer f k h e = grind arith
scan-apart {A} text (g ∷ gs) outer f k h e =
    ap (λ (o : Option Delimiter). or_else (place_after_delimiter {A = A} o g outer)
    (scan (g ∷ outer) (gs ++ f ∷ []) text))
    (go (delimiter_of g.boundary text) refl)
    ∙ scan-apart text gs (g ∷ outer) f k (grind arith) e
  where
    go : (o : Option Delimiter) → delimiter_of g.boundary text ≡ o → o ≡ None
    go None q = refl
    go (Some j) q = absurd (apart-fronts f.boundary g.boundary text k j (grind arith) (grind arith) e q)

slice_get-last : (fs : List Frame) (f : Frame) → slice_get (fs ++ f ∷ []) (length fs) ≡ Some f
slice_get-last [] f = refl
slice_get-last (g ∷ gs) f = slice_get-last gs f

-- the innermost multipart is the outermost one that a line delimits, if its boundary is apart from the others
pub found-innermost : {A : Type 0} (frames outer : List Frame) (f : Frame) (text : List ℕ) (k : Delimiter)
    → frames ≡ outer ++ f ∷ [] → is_apart_from f.boundary outer ≡ true → delimiter_of f.boundary text ≡ Some k
    → Found A frames text (length outer) k
found-innermost {A} frames outer f text k e h d =
    rw e (
      f,
      slice_get-last outer f,
      scan-apart {A = A} text outer [] f k h d
          ∙ ap (λ (fs : List Frame). place_after_delimiter {A = A} (Some k) f (inside_out fs []))
          (sym (take_at outer (f ∷ []) (length outer) refl)),
    )
