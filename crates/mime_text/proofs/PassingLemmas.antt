-- What a part reader's calls give to a sink, and what is known of the facts after them.
use Rattle.mime_text.proofs.Words.{◌≡◌, ◌∙◌, ◌++◌, ℕ, Bool, true, false, List, [], ◌∷◌, Option, Some, None, refl, sym, subst, append_assoc, arith, if◌then◌else◌, Result, Ok, Err, OnOk, IfErr, is_empty, HeaderField, fields_of, HasLines, taken_of, has_empty, More, Ended, TextKind, SinkFault, TextFault, OutOfMemory, DefaultType, TextPlain, Frame, State, PartReader, Pair, ComingPairs, Gave, Broke, Hands, shape_of, facts_of, pairs_to_come, StreamPlace, InHeader, InLeaf, place_after_hit, Nest, lead_to, texts_of_message, PassedPairs, Stopped, PassesPairs, IsOver, given_from, header_texts, ending, given_after_header, given_after_delimiter, ComesAt, Comes, ComesAfterHeader, ComesEndingAt, ComesEnding, KnowsAt, KnowsFacts, NotesFacts}
use Rattle.std.proofs.lemmas.List.{append-nil}
use Rattle.std.specs.Result.{result_or}
use Rattle.header_text.specs.declared.header.Header.{Header}
use Rattle.mime_text.specs.declared.header.facts.Facts.{Facts}
use Rattle.mime_text.specs.declared.parts.part_reader.State.TheVariants as state
use Rattle.mime_text.specs.declared.parts.nesting.Lead.{Lead}
use Rattle.mime_text.specs.declared.parts.nesting.Lead.TheVariants.{Nowhere}
use Rattle.mime_text.proofs.StepLemmas.{value-header, given-hit, given-leaf_line, given-ended, given-leaf, empty_ends, fields-on, given-message}

abbrev Line : Type 0
Line = List ℕ

ended-empty : (b : Bool) → Ended ≡ (if b then Ended else More) → b ≡ true
ended-empty b e = grind arith

-- before a message's first line
pub comes-first : (nest : Nest) (header : Header) → nest ≡ record { frames = []; left = 16 } → HasLines header []
    → (held : List Line) × HasLines header held × (has_empty held ≡ false)
    × ((ms : List Line) → texts_of_message ms ≡ given_from nest.frames (InHeader true nest.left TextPlain held) ms)
comes-first nest header e h = grind (arith, given-message)

-- what an entity gives that ends here
ending-is : (r : PartReader) (lead : Lead) (fields : List HeaderField) (c : ComingPairs)
    → ((ls : List Line) → HasLines r.header ls → fields ≡ fields_of ls) → ComesEnding r lead c
    → (ms : List Line) → c ms ≡ ending r.state fields r.leaf ++ given_after_delimiter lead r.nesting ms
ending-is r lead fields c f k = grind arith

-- what the message gives that ends here
whole-ending : (r : PartReader) (fields : List HeaderField) (c : ComingPairs)
    → ((ls : List Line) → HasLines r.header ls → fields ≡ fields_of ls) → Comes r c → c []
    ≡ ending r.state fields r.leaf
whole-ending r fields c f k = go r.state k
  where
    go : (s : State) → ComesAt s r c → c [] ≡ ending s fields r.leaf
    go state.Skipping k = k []
    go (state.InHeader counted d) k = cc (k.3 [], value-header counted r.nesting.left d k.0 k.2, f k.0 k.1)
    go state.InLeaf k = k []

-- a line that delimits ends the entity
delimits : (r : PartReader) (n : Nest) (lead : Lead) (l : Line) (h : List Frame × StreamPlace Pair)
    → place_after_hit r.nesting.frames l ≡ Some h
    → ((ms : List Line) → given_from h.0 h.1 ms ≡ given_after_delimiter lead n ms)
    → (c : ComingPairs) → Comes r c → ComesEnding (record r { nesting = n }) lead (λ ms. c (l ∷ ms))
delimits r n lead l h e q c k = go r.state k
  where
    go : (s : State) → ComesAt s r c → ComesEndingAt s (record r { nesting = n }) lead (λ ms. c (l ∷ ms))
    go state.Skipping k = grind arith
    go (state.InHeader counted d) k = (
      k.0,
      k.1,
      grind (arith, given-hit, value-header),
    )
    go state.InLeaf k =
        grind arith

pub delimited : (r : PartReader) (n : Nest) (lead : Lead) (l : Line) → lead_to {A = Pair} lead n
    ≡ place_after_hit r.nesting.frames l → (lead ≡ Nowhere → ⊥)
    → (c : ComingPairs) → Comes r c → ComesEnding (record r { nesting = n }) lead (λ ms. c (l ∷ ms))
delimited r n lead l h h2 c h3 = grind (arith, delimits)

-- ---- facts

one_more : (f : Facts) (ls : List Line) (l : Line) → ((ms : List Line) → f ≡ facts_of (fields_of (ls ++ ms)))
    → (ms : List Line) → f ≡ facts_of (fields_of ((ls ++ l ∷ []) ++ ms))
one_more f ls l k ms = grind (arith, append_assoc)

-- a delimiter line isn't part of the message's own header
pub facts-delimited : (r n : PartReader) (nest : Nest) (lead : Lead) (l : Line) → lead_to {A = Pair} lead nest
    ≡ place_after_hit r.nesting.frames l → (lead ≡ Nowhere → ⊥) → n.facts ≡ r.facts
    → (ls : List Line) → KnowsFacts r ls → KnowsFacts n (ls ++ l ∷ [])
facts-delimited r n nest lead l e away same ls k = let P : Option Facts → Type 0 = λ o. KnowsAt o n (ls ++ l ∷ [])
    in subst P (sym same) (go r.facts k)
  where
    go : (o : Option Facts) → KnowsAt o r ls → KnowsAt o n (ls ++ l ∷ [])
    go None k = grind arith
    go (Some f) k = one_more f ls l k

-- the facts when the header has ended
pub facts-ended : (r n : PartReader) (h : Header) (l : Line)
    → ((ls : List Line) → HasLines r.header ls → HasLines h (ls ++ l ∷ []))
    → ((ls : List Line) → HasLines r.header ls → Ended ≡ taken_of (ls ++ l ∷ []))
    → NotesFacts r.facts n.facts h → (ls : List Line) → KnowsFacts r ls → KnowsFacts n (ls ++ l ∷ [])
facts-ended r n h l push taken notes ls k = go r.facts notes k
  where
    go : (o : Option Facts) → NotesFacts o n.facts h → KnowsAt o r ls → KnowsAt n.facts n (ls ++ l ∷ [])
    go None e k =
        let P : Option Facts → Type 0 = λ o. KnowsAt o n (ls ++ l ∷ []) in
        let t : is_empty l ≡ true = empty_ends ls l true k.open_ended
        (ended-empty (has_empty (ls ++ l ∷ [])) (taken ls k.lines)) in
        grind (arith, fields-on)
    go (Some f) e k = let P : Option Facts → Type 0 = λ o. KnowsAt o n (ls ++ l ∷ [])
        in subst P (sym e) (one_more f ls l k)

-- the facts when the message has ended
pub facts-whole : (r : PartReader) (f : Facts) → NotesFacts r.facts (Some f) r.header → (ls : List Line)
    → KnowsFacts r ls
    → f ≡ facts_of (fields_of ls)
facts-whole r f notes ls k = go r.facts notes k
  where
    go : (o : Option Facts) → NotesFacts o (Some f) r.header → KnowsAt o r ls → f ≡ facts_of (fields_of ls)
    go None e k = let q = e ls k.lines in cc
    go (Some g) e k = let q : f ≡ g = cc in cc (k [], append-nil ls)

-- what comes after the header of these lines
abbrev after_lines : PartReader → DefaultType → List Line → ComingPairs
after_lines r d ls = given_after_header (shape_of d (fields_of ls)) r.nesting (fields_of ls)

header-is_first : (r : PartReader) (counted : Bool) (d : DefaultType) (fields : List HeaderField)
    → ((ls : List Line) → HasLines r.header ls → fields ≡ fields_of ls)
    → (c : ComingPairs) (k : ComesAfterHeader r counted d c) (ms : List Line) → c ms
    ≡ header_texts counted fields ++ after_lines r d k.0 ms
header-is_first r counted d fields f c k ms = grind arith

module _ {S : Type 0} (takes : S → TextKind → List ℕ → S → Type 0)
    (refuses : S → TextKind → List ℕ → SinkFault → S → Type 0) where
  -- a call that passes some pairs, with what comes before it stated in another way
  pub passes-from : {T : Type 0} (A A' B : ComingPairs → Type 0) (seen : ComingPairs → ComingPairs)
      (result : Result T TextFault)
      (s t : S) → ((c : ComingPairs) → A c → A' (seen c))
      → PassesPairs takes refuses A' B (λ c. c) result s t → PassesPairs takes refuses A B seen result s t
  passes-from A A' B seen result s t h h2 = grind arith

  pub passes-before : {T : Type 0} (A A' B : ComingPairs → Type 0) (seen : ComingPairs → ComingPairs)
      (result : Result T TextFault)
      (s t : S) → ((c : ComingPairs) → A c → A' c)
      → PassesPairs takes refuses A' B seen result s t → PassesPairs takes refuses A B seen result s t
  passes-before A A' B seen result s t h h2 = grind arith

  -- a call that gives all pairs that come before some others
  passed-front : (before after : ComingPairs → Type 0) (A : ComingPairs) (s t : S)
      (R : (c : ComingPairs) → before c → ComingPairs)
      → ((c : ComingPairs) (k : before c) → after (R c k))
      → ((c : ComingPairs) (k : before c) (ms : List Line) → c ms ≡ A ms ++ R c k ms)
      → Gave takes refuses A (λ _. []) s t
      → PassedPairs takes refuses before after (λ c. c) s t
  passed-front before after A s t R a e h =
      record {
        pairs = h.pairs;
        taken = h.taken;
        rest =
            λ c k. (
              R c k,
              a c k,
              grind (arith, append-nil),
            );
      }

  stopped-front : (before : ComingPairs → Type 0) (A : ComingPairs) (fault : TextFault) (s t : S)
      (R : (c : ComingPairs) → before c → ComingPairs)
      → ((c : ComingPairs) (k : before c) (ms : List Line) → c ms ≡ A ms ++ R c k ms) → Broke takes refuses A fault s t
      → Stopped takes refuses before (λ c. c) fault s t
  stopped-front before A fault s t R e h =
      record {
        pairs = h.pairs;
        broken = h.broken;
        front = λ c k ms. (
          (h.front ms).0 ++ R c k ms,
          grind (arith, append_assoc),
        );
      }

  -- ---- after a header

  pub header-stopped : (r : PartReader) (counted : Bool) (d : DefaultType) (fields : List HeaderField)
      (fault : TextFault) (s t : S)
      → ((ls : List Line) → HasLines r.header ls → fields ≡ fields_of ls)
      → Broke takes refuses (λ _. header_texts counted fields) fault s t
      → Stopped takes refuses (ComesAfterHeader r counted d) (λ c. c) fault s t
  header-stopped r counted d fields fault s t f h =
      stopped-front (ComesAfterHeader r counted d) (λ _. header_texts counted fields) fault s t
      (λ c k. after_lines r d k.0) (header-is_first r counted d fields f) h

  -- all was given, and then memory ran out
  pub broke-memory_after : (A : ComingPairs) (s t : S) → Gave takes refuses A (λ _. []) s t
      → Broke takes refuses A OutOfMemory s t
  broke-memory_after A s t h = grind arith

  -- the header's texts were given, and then the body begins or memory runs out
  pub header-passes : {T E : Type 0} (r : PartReader) (counted : Bool) (d : DefaultType) (fields : List HeaderField)
      (after : ComingPairs → Type 0) (begun : Result T E) (s t : S)
      → ((ls : List Line) → HasLines r.header ls → fields ≡ fields_of ls)
      → Gave takes refuses (λ _. header_texts counted fields) (λ _. []) s t
      → OnOk begun ((ls : List Line) → HasLines r.header ls
      → after (given_after_header (shape_of d (fields_of ls)) r.nesting (fields_of ls)))
      → PassesPairs takes refuses (ComesAfterHeader r counted d) after (λ c. c) (result_or begun (Err OutOfMemory)) s t
  header-passes r counted d fields after (Ok x) s t f h a =
      passed-front (ComesAfterHeader r counted d) after (λ _. header_texts counted fields) s t
      (λ c k. after_lines r d k.0) (λ c k. a k.0 k.1) (header-is_first r counted d fields f) h
  header-passes r counted d fields after (Err fault) s t f h a =
      header-stopped r counted d fields OutOfMemory s t f (broke-memory_after _ s t h)

  -- ---- a line in a leaf, and in a header

  pub leaf-passes : {T : Type 0} (r n : PartReader) (l : Line) (result : Result T TextFault) (s t : S) → r.state
      ≡ state.InLeaf → n.state ≡ r.state → n.nesting ≡ r.nesting → place_after_hit {A = Pair} r.nesting.frames l ≡ None
      → Hands takes refuses (λ ls. pairs_to_come r.leaf (l ∷ ls)) (λ ls. pairs_to_come n.leaf ls) result s t
      → PassesPairs takes refuses (Comes r) (Comes n) (λ c ms. c (l ∷ ms)) result s t
  leaf-passes r n l (Ok x) s t e p q away h =
      let at : (c : ComingPairs) → Comes r c → ComesAt state.InLeaf r c =
      grind arith in
      let here : ComingPairs = given_from n.nesting.frames (InLeaf (pairs_to_come n.leaf)) in
      let comes : Comes n here = grind arith
      in
      record {
        pairs = h.pairs;
        taken = h.taken;
        rest = λ c k. (
          here,
          comes,
          λ ms. cc (
            at c k (l ∷ ms),
            given-leaf_line r.nesting.frames (pairs_to_come r.leaf) l ms away,
            given-leaf r.nesting.frames (λ ks. pairs_to_come r.leaf (l ∷ ks)) (pairs_to_come n.leaf) h.pairs h.rest
                ms,
          ),
        );
      }
  leaf-passes r n l (Err fault) s t e p q away h =
      let at : (c : ComingPairs) → Comes r c → ComesAt state.InLeaf r c =
      grind arith in
      let later : ComingPairs = λ ks. (h.front ks).0 in
      record {
        pairs = h.pairs;
        broken = h.broken;
        front = λ c k ms. (
          given_from r.nesting.frames (InLeaf later) ms,
          grind (arith, given-leaf),
        );
      }

  pub more-passed : (r n : PartReader) (l : Line) (counted : Bool) (d : DefaultType) (s : S) → r.state
      ≡ state.InHeader counted d → n.state ≡ r.state → n.nesting ≡ r.nesting
      → place_after_hit {A = Pair} r.nesting.frames l ≡ None
      → ((ls : List Line) → HasLines r.header ls → HasLines n.header (ls ++ l ∷ []))
      → ((ls : List Line) → HasLines r.header ls → More ≡ taken_of (ls ++ l ∷ []))
      → PassedPairs takes refuses (Comes r) (Comes n) (λ c ms. c (l ∷ ms)) s s
  more-passed r n l counted d s e p q away push taken =
      let at : (c : ComingPairs) → Comes r c → ComesAt (state.InHeader counted d) r c =
      grind arith in
      let here : List Line → ComingPairs = λ held. given_from n.nesting.frames
      (InHeader counted n.nesting.left d (held ++ l ∷ [])) in
      let still : (held : List Line) → HasLines r.header held → has_empty (held ++ l ∷ []) ≡ false =
      grind arith in
      let comes : (held : List Line) → HasLines r.header held → Comes n (here held) = grind arith in
      record {
        pairs = [];
        taken = refl;
        rest = grind (arith, empty_ends);
      }

  pub ended-comes : (r n : PartReader) (l : Line) (counted : Bool) (d : DefaultType) → r.state
      ≡ state.InHeader counted d → n.nesting ≡ r.nesting → place_after_hit {A = Pair} r.nesting.frames l ≡ None
      → ((ls : List Line) → HasLines r.header ls → HasLines n.header (ls ++ l ∷ []))
      → ((ls : List Line) → HasLines r.header ls → Ended ≡ taken_of (ls ++ l ∷ []))
      → (c : ComingPairs) → Comes r c → ComesAfterHeader n counted d (λ ms. c (l ∷ ms))
  ended-comes r n l counted d e q away push taken c k =
      let at : ComesAt (state.InHeader counted d) r c = grind arith in
      let t : is_empty l ≡ true = grind (arith, empty_ends) in
      let fields = fields_of (at.0 ++ l ∷ []) in (
        at.0 ++ l ∷ [],
        push at.0 at.1,
        λ ms. cc (at.3 (l ∷ ms), given-ended r.nesting counted d at.0 l ms away at.2 t),
      )

  -- ---- the end of an entity, and of the message

  pub leave-passes : {T : Type 0} (r n : PartReader) (lead : Lead) (fields : List HeaderField)
      (result : Result T TextFault) (s t : S) → ((ls : List Line) → HasLines r.header ls → fields ≡ fields_of ls)
      → Hands takes refuses (λ _. ending r.state fields r.leaf) (λ _. []) result s t
      → Comes n (given_after_delimiter lead r.nesting)
      → PassesPairs takes refuses (ComesEnding r lead) (Comes n) (λ c. c) result s t
  leave-passes r n lead fields (Ok x) s t f h a =
      passed-front (ComesEnding r lead) (Comes n) (λ _. ending r.state fields r.leaf) s t
      (λ c k. given_after_delimiter lead r.nesting) (λ c k. a) (λ c. ending-is r lead fields c f) h
  leave-passes r n lead fields (Err fault) s t f h a =
      stopped-front (ComesEnding r lead) (λ _. ending r.state fields r.leaf) fault s t
      (λ c k. given_after_delimiter lead r.nesting) (λ c. ending-is r lead fields c f) h

  pub end-stopped : (r : PartReader) (fields : List HeaderField) (fault : TextFault) (s t : S)
      → ((ls : List Line) → HasLines r.header ls → fields ≡ fields_of ls)
      → Broke takes refuses (λ _. ending r.state fields r.leaf) fault s t
      → Stopped takes refuses (Comes r) (λ c _. c []) fault s t
  end-stopped r fields fault s t f h = record {
    pairs = h.pairs;
    broken = h.broken;
    front =
        λ c k ms. ((h.front ms).0, whole-ending r fields c f k ∙ (h.front ms).1);
  }

  pub end-passes : {T : Type 0} (r : PartReader) (fields : List HeaderField) (result : Result T TextFault) (s t : S)
      → ((ls : List Line) → HasLines r.header ls → fields ≡ fields_of ls)
      → Gave takes refuses (λ _. ending r.state fields r.leaf) (λ _. []) s t
      → IfErr result (λ fault. fault ≡ OutOfMemory)
      → PassesPairs takes refuses (Comes r) IsOver (λ c _. c []) result s t
  end-passes r fields (Ok x) s t f h e = record {
    pairs = h.pairs;
    taken = h.taken;
    rest =
        λ c k. (λ _. [], λ ms. refl, λ ms. whole-ending r fields c f k ∙ h.rest ms);
  }
  end-passes r fields (Err fault) s t f h e = end-stopped r fields fault s t f (rw e (broke-memory_after _ s t h))
