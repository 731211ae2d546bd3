-- The result of reading patterns: a query is one that the grammar gives, and a fault is the first fault.
use Rattle.mail_query.proofs.Words.{◌≡◌, ℕ, suc, ◌+◌, ◌<◌, true, false, List, [], ◌∷◌, ◌++◌, length, Option, None, Some, option_map, Result, Ok, Err, inl, inr, refl, sym, ap, subst, ◌∙◌, arith, IsUtf8, ◌⊎◌, bytes_eq, codes, ok_or, option_or, MatchResult, All, slice_split, join_with_byte, both_ways, cond_both, All-nil, All-cons, All-head, All-tail, none-some, option_and_then_some, MatchResult-weaker, bytes_eq-Decides, ◌>>=◌, with_front, fault_as, QueryFault, QueryFaultKind, BadWord, BadPrefix, BadDate, BadSize, BadFlag, Approximate, Kinds, is_byte, texts_around, without_first, without_last, Lexicon, Query, Word, Part, Prefix, Date, Not, all_of, either_of, sizes_of, flags_of_text, Forms, plain_kinds, kinds_of, is_approximate, id_forms, word_forms, each_read, part_query, prefix_query, marked_query, found_query, atom_query, term_query, all_query, rest_query, prefixed_query, pattern_query, patterns_from, patterns_query, Separated, Alone, Before, IsAtom, WholeWord, PartOfWord, FrontOfWord, IsTerm, Wanted, Unwanted, IsAll, EachTerm, IsRest, SomeAll, IsPattern, Plain, InKinds, ArePatterns, Only, AndAlso, IsAsked, EachPattern, HasNoSigns, IsFirstOf, After, IsAtomFault, AsksApproximately, HasNoForm, IsTermFault, InWanted, InUnwanted, IsAllFault, InTerm, IsRestFault, InAll, IsPatternPrefix, OfKinds, IsPatternFault, HasNoPrefix, InPlain, InWords, InId, HasNoDate, HasNoSize, HasNoFlags, IsFirstFault, HasNone, InPattern}
use Rattle.std.proofs.lemmas.List.Splits.{length-slice_split, join_with_byte-slice_split}
use Rattle.mail_query.specs.Mairix.{word_query}
use Rattle.mail_query.specs.MairixGrammar as grammar
use Rattle.mail_query.specs.MairixFaults.{OfId, OfDate, OfSize, OfFlags}
use Rattle.mail_query.proofs.PieceLemmas.{Free}
use Rattle.mail_query.proofs.MairixLaws.ApproximateLemmas.{approximate_is, is_marked}
use Rattle.mail_query.proofs.MairixLaws.EachLemmas.{at_number, unnumbered, numbered_read, each_numbered, patterns_numbered}
use Rattle.mail_query.proofs.MairixLaws.KindLemmas.{letters_read, read_letters}
use Rattle.mail_query.proofs.MairixLaws.FlagLemmas.{flags_read, read_flags}
use Rattle.mail_query.proofs.MairixLaws.SizeLemmas.{sizes_read, read_sizes}
use Rattle.mail_query.proofs.MairixLaws.SignLemmas.{map_some, last_is, first_is, cut_parts, uncut_free, utf8_before, utf8_after}
use Rattle.mail_query.proofs.MairixLaws.MairixComplete.{PlainForms, id_plain, word_plain, atom_read}

-- ---- results of steps

then_answers : {A B E : Type 0} (r : Result A E) (f : A → B) {P : A → Type 0} {Q : E → Type 0} (P' : B → Type 0)
    (Q' : E → Type 0)
    → MatchResult r P Q → ((x : A) → P x → P' (f x)) → ((e : E) → Q e → Q' e)
    → MatchResult (r >>= (λ x. Ok (f x))) P' Q'
then_answers r f P' Q' h h2 h3 = grind arith

ok_or_answers : (o : Option Query) (kind : QueryFaultKind) (P : Query → Type 0) (Q : QueryFaultKind → Type 0)
    → ((q : Query) → o ≡ Some q → P q) → (o ≡ None → Q kind) → MatchResult (ok_or o kind) P Q
ok_or_answers o kind P Q h h2 = grind arith

or_some : {A : Type 0} (o p : Option A) (x : A) → option_or o p ≡ Some x → (o ≡ Some x) ⊎ (p ≡ Some x)
or_some o p x h = grind arith

unmapped : {A B : Type 0} (f : A → B) (o : Option A) → option_map f o ≡ None → o ≡ None
unmapped f o h = grind arith

-- ---- several texts, one after another

-- the queries of the texts
Each : (List ℕ → Query → Type 0) → List (List ℕ) → List Query → Type 0
Each Asks [] [] = Unit {0}
Each Asks [] (q ∷ qs) = ⊥
Each Asks (t ∷ ts) [] = ⊥
Each Asks (t ∷ ts) (q ∷ qs) = Asks t q × Each Asks ts qs

-- the fault of the first faulty text, with its number from n on
record Refused (Asks : List ℕ → Query → Type 0) (Shows : List ℕ → QueryFaultKind → Type 0) (E : Type 0)
    (fault : ℕ → QueryFaultKind → E) (n : ℕ) (texts : List (List ℕ)) (e : E) : Type 0 where
  before : ℕ
  kind : QueryFaultKind
  first : IsFirstOf Asks Shows texts before kind
  is : fault (n + before) kind ≡ e

module _ (Asks : List ℕ → Query → Type 0) (Shows : List ℕ → QueryFaultKind → Type 0)
    (read : List ℕ → Result Query QueryFaultKind)
    (one : (text : List ℕ) → IsUtf8 text → MatchResult (read text) (Asks text) (Shows text)) where
  first_after : (text : List ℕ) (q : Query) (texts : List (List ℕ)) (n : ℕ) (kind : QueryFaultKind) → Asks text q
      → IsFirstOf Asks Shows texts n kind
      → IsFirstOf Asks Shows (text ∷ texts) (suc n) kind
  first_after text q texts n kind a (After before faulty more shown fine fault) =
      After (text ∷ before) faulty more shown
      (All-cons (λ (t : List ℕ). (x : Query) × Asks t x) text before (q, a) fine) fault

  each_answers : (E : Type 0) (fault : ℕ → QueryFaultKind → E) (n : ℕ) (texts : List (List ℕ)) → All IsUtf8 texts
      → MatchResult (numbered_read fault read n texts) (Each Asks texts) (Refused Asks Shows E fault n texts)
  unfolding Each
  each_answers E fault n [] utf8 = tt
  each_answers E fault n (t ∷ ts) utf8 =
      go (read t) (numbered_read fault read (n + 1) ts) (one t (All-head IsUtf8 t ts utf8))
      (each_answers E fault (n + 1) ts (All-tail IsUtf8 t ts utf8))
    where
      go : (r : Result Query QueryFaultKind) (rest : Result (List Query) E) → MatchResult r (Asks t) (Shows t)
          → MatchResult rest (Each Asks ts) (Refused Asks Shows E fault (n + 1) ts)
          → MatchResult (fault_as (fault n) r >>= (λ q. with_front (q ∷ []) rest)) (Each Asks (t ∷ ts))
          (Refused Asks Shows E fault n (t ∷ ts))
      go (Ok q) (Ok qs) a b = (a, b)
      go (Ok q) (Err e) a b =
          let place : n + suc b.before ≡ n + 1 + b.before = omega arith in
          grind (arith, first_after)
      go (Err kind) rest a b =
          let place : n + 0 ≡ n = omega arith in
          record {
            before = 0;
            kind = kind;
            first = After [] t ts kind (All-nil (λ (u : List ℕ). (q : Query) × Asks u q)) a;
            is = ap (λ (m : ℕ). fault m kind) place;
          }

  separated : (sign : ℕ) (parts : List (List ℕ)) (qs : List Query) → 0 < length parts → Each Asks parts qs
      → Separated sign Asks (join_with_byte sign parts) qs
  unfolding Each
  separated sign [] qs some h = absurd (omega (arith, some))
  separated sign (t ∷ ts) [] some h = absurd h
  separated sign (t ∷ []) (q ∷ []) some h = Alone t q h.0
  separated sign (t ∷ []) (q ∷ r ∷ qs) some h = absurd h.1
  separated sign (t ∷ u ∷ ts) (q ∷ qs) some h =
      Before t (join_with_byte sign (u ∷ ts)) q qs h.0 (separated sign (u ∷ ts) qs (omega arith) h.1)

  split_answers : (sign : ℕ) (text : List ℕ) → All IsUtf8 (slice_split (is_byte sign) text)
      → MatchResult (each_read read (slice_split (is_byte sign) text)) (Separated sign Asks text)
      (λ kind. (n : ℕ) × IsFirstOf Asks Shows (slice_split (is_byte sign) text) n kind)
  split_answers sign text utf8 =
      let parts : List (List ℕ) = slice_split (is_byte sign) text in
      let some : 0 < length parts = omega (arith, length-slice_split (is_byte sign) text) in
      MatchResult-weaker (each_read read parts)
      (rw (each_numbered read 0 parts) at (each_answers QueryFaultKind unnumbered 0 parts utf8))
      (λ qs each. subst (λ (t : List ℕ). Separated sign Asks t qs) (join_with_byte-slice_split sign text)
      (separated sign parts qs some each))
      (λ kind f. (f.before, subst (IsFirstOf Asks Shows parts f.before) f.is f.first))

-- the texts between signs are UTF-8
parts_utf8 : (sign : ℕ) (parts : List (List ℕ)) → sign < 128 → IsUtf8 (join_with_byte sign parts) → All IsUtf8 parts
parts_utf8 sign [] below utf8 = All-nil IsUtf8
parts_utf8 sign (t ∷ []) below utf8 = All-cons IsUtf8 t [] utf8 (All-nil IsUtf8)
parts_utf8 sign (t ∷ u ∷ ts) below utf8 =
    let rest : List ℕ = join_with_byte sign (u ∷ ts) in
    All-cons IsUtf8 t (u ∷ ts) (utf8_before t rest sign below utf8)
    (parts_utf8 sign (u ∷ ts) below (utf8_after t rest sign below utf8))

pub split_utf8 : (sign : ℕ) (text : List ℕ) → sign < 128 → IsUtf8 text → All IsUtf8 (slice_split (is_byte sign) text)
split_utf8 sign text below utf8 =
    parts_utf8 sign (slice_split (is_byte sign) text) below
    (rw (join_with_byte-slice_split sign text) utf8)

-- ---- atoms, terms and what is made of them

module _ (forms : Forms) where
  marked_asks : (sub : List ℕ) (q : Query) → marked_query forms sub ≡ Some q → IsAtom forms (sub ++ 0x3D ∷ []) q
  marked_asks sub q e = elim (or_some (part_query forms sub) _ q e) [
    | inl found ↦ let m = map_some (λ part. Part forms.kinds part) (forms.part sub) q found
        in subst (IsAtom forms (sub ++ 0x3D ∷ [])) m.2 (PartOfWord sub m.0 m.1)
    | inr found ↦
        option_and_then_some (prefix_query forms) (without_first 0x5E sub) q found (λ front h k.
        let m = map_some (λ part. Prefix forms.kinds part) (forms.part front) q k in
        subst (λ (t : List ℕ). IsAtom forms (t ++ 0x3D ∷ []) q) (sym (first_is 0x5E sub front h))
        (subst (IsAtom forms (0x5E ∷ (front ++ 0x3D ∷ []))) m.2 (FrontOfWord front m.0 m.1)))
  ]

  pub found_asks : (text : List ℕ) (q : Query) → found_query forms text ≡ Some q → IsAtom forms text q
  found_asks text q e = elim (or_some (word_query forms text) _ q e) [
    | inl found ↦ let m = map_some (λ word. Word forms.kinds word) (forms.word text) q found
        in subst (IsAtom forms text) m.2 (WholeWord text m.0 m.1)
    | inr found ↦
        option_and_then_some (marked_query forms) (without_last 0x3D text) q found (λ sub h k.
        subst (λ (t : List ℕ). IsAtom forms t q) (sym (last_is 0x3D text sub h)) (marked_asks sub q k))
  ]

  module _ (plain : PlainForms forms) where
    atom_answers : (text : List ℕ) → IsUtf8 text
        → MatchResult (atom_query forms text) (IsAtom forms text) (IsAtomFault forms text)
    atom_answers text utf8 =
        cond_both (is_approximate text) (Err Approximate) (ok_or (found_query forms text) BadWord)
        (λ r. MatchResult r (IsAtom forms text) (IsAtomFault forms text))
        (λ marked. AsksApproximately text (approximate_is text marked))
        (λ unmarked. ok_or_answers (found_query forms text) BadWord (IsAtom forms text) (IsAtomFault forms text)
        (found_asks text)
        (λ none.
        HasNoForm text (λ a. both_ways (is_approximate text) unmarked (is_marked text a))
        (λ q a. let read = atom_read forms plain text q a utf8 in cc)))

    term_answers : (text : List ℕ) → IsUtf8 text
        → MatchResult (term_query forms text) (IsTerm forms text) (IsTermFault forms text)
    term_answers text utf8 = go (without_first 0x7E text) refl
      where
        go : (o : Option (List ℕ)) → without_first 0x7E text ≡ o
            → MatchResult (elim o [
              | None ↦ atom_query forms text
              | Some atom ↦ atom_query forms atom >>=
                  (λ x. Ok (Not x))
            ]) (IsTerm forms text) (IsTermFault forms text)
        go None h =
            MatchResult-weaker (atom_query forms text) (atom_answers text utf8) (λ q a. Wanted text q a)
            (λ kind f. InWanted text kind (λ rest same. cc) f)
        go (Some atom) h =
            let whole = first_is 0x7E text atom h in
            let after = utf8_after [] atom 0x7E (omega arith) (subst IsUtf8 whole utf8) in
            rw whole (then_answers (atom_query forms atom) Not _ _ (atom_answers atom after) (λ q a. Unwanted atom q a)
            (λ kind f. InUnwanted atom kind f))

    all_answers : (text : List ℕ) → IsUtf8 text
        → MatchResult (all_query forms text) (IsAll forms text) (IsAllFault forms text)
    all_answers text utf8 =
        then_answers (each_read (term_query forms) (slice_split (is_byte 0x2C) text)) all_of _ _
        (split_answers (IsTerm forms) (IsTermFault forms) (term_query forms) term_answers 0x2C text
        (split_utf8 0x2C text (omega arith) utf8))
        (λ qs each. EachTerm text qs each) (λ kind f. InTerm text f.0 kind f.1)

    pub rest_answers : (text : List ℕ) → IsUtf8 text
        → MatchResult (rest_query forms text) (IsRest forms text) (IsRestFault forms text)
    rest_answers text utf8 =
        then_answers (each_read (all_query forms) (slice_split (is_byte 0x2F) text)) either_of _ _
        (split_answers (IsAll forms) (IsAllFault forms) (all_query forms) all_answers 0x2F text
        (split_utf8 0x2F text (omega arith) utf8))
        (λ qs some. SomeAll text qs some) (λ kind f. InAll text f.0 kind f.1)

-- ---- patterns

no_prefix : (name : List ℕ) → bytes_eq name (codes "m") ≡ false → bytes_eq name (codes "d") ≡ false
    → bytes_eq name (codes "z") ≡ false → bytes_eq name (codes "F") ≡ false → kinds_of name ≡ None
    → ¬ IsPatternPrefix name
no_prefix name m d z f none (OfKinds letters are) = let some = letters_read letters are in cc
no_prefix name m d z f none OfId = cc
no_prefix name m d z f none OfDate = cc
no_prefix name m d z f none OfSize = cc
no_prefix name m d z f none OfFlags = cc

module _ (lexicon : Lexicon) (plain : HasNoSigns lexicon) where
  Answers : List ℕ → Result Query QueryFaultKind → Type 0
  Answers text r = MatchResult r (IsPattern lexicon text) (IsPatternFault lexicon text)

  prefixed_answers : (name rest : List ℕ) → Free 0x3A name → IsUtf8 rest
      → Answers (name ++ 0x3A ∷ rest) (prefixed_query lexicon name rest)
  unfolding Answers
  prefixed_answers name rest free utf8 =
      cond_both (bytes_eq name (codes "m")) _ _ (Answers (name ++ 0x3A ∷ rest)) (λ m. named (codes "m") _ m of_id) (λ m.
      cond_both (bytes_eq name (codes "d")) _ _ (Answers (name ++ 0x3A ∷ rest)) (λ d. named (codes "d") _ d of_date)
      (λ d.
      cond_both (bytes_eq name (codes "z")) _ _ (Answers (name ++ 0x3A ∷ rest)) (λ z. named (codes "z") _ z of_size)
      (λ z.
      cond_both (bytes_eq name (codes "F")) _ _ (Answers (name ++ 0x3A ∷ rest)) (λ f. named (codes "F") _ f of_flags)
      (λ f.
      of_kinds (kinds_of name) refl (no_prefix name m d z f)))))
    where
      named : (known : List ℕ) (r : Result Query QueryFaultKind) → bytes_eq name known ≡ true
          → Answers (known ++ 0x3A ∷ rest) r → Answers (name ++ 0x3A ∷ rest) r
      named known r h = grind (arith, bytes_eq-Decides)

      of_id : Answers (codes "m:" ++ rest) (rest_query id_forms rest)
      of_id = MatchResult-weaker (rest_query id_forms rest) (rest_answers id_forms id_plain rest utf8)
          (λ q r. grammar.OfId rest q r) (λ kind f. InId rest kind f)

      of_date : Answers (codes "d:" ++ rest) (ok_or (option_map Date (lexicon.dates rest)) BadDate)
      of_date =
          ok_or_answers (option_map Date (lexicon.dates rest)) BadDate _ _
          (λ q e. let m = map_some Date (lexicon.dates rest) q e
          in subst (IsPattern lexicon (codes "d:" ++ rest)) m.2 (grammar.OfDate rest m.0 m.1))
          (λ e. HasNoDate rest (unmapped Date (lexicon.dates rest) e))

      of_size : Answers (codes "z:" ++ rest) (ok_or (sizes_of rest) BadSize)
      of_size =
          ok_or_answers (sizes_of rest) BadSize _ _ (λ q e. grammar.OfSize rest q (read_sizes rest q e))
          (λ e. HasNoSize rest (λ q s. none-some q (sym e ∙ sizes_read rest q s)))

      of_flags : Answers (codes "F:" ++ rest) (ok_or (flags_of_text rest) BadFlag)
      of_flags =
          ok_or_answers (flags_of_text rest) BadFlag _ _ (λ q e. grammar.OfFlags rest q (read_flags rest q e))
          (λ e. HasNoFlags rest (λ q f. none-some q (sym e ∙ flags_read rest q f)))

      of_kinds : (o : Option Kinds) → kinds_of name ≡ o → (kinds_of name ≡ None → ¬ IsPatternPrefix name)
          → Answers (name ++ 0x3A ∷ rest) (elim o
          [ None ↦ Err BadPrefix | Some kinds ↦ rest_query (word_forms lexicon kinds) rest ])
      of_kinds None h none = HasNoPrefix name rest free (none h)
      of_kinds (Some kinds) h none =
          let are = read_letters name kinds h in
          subst (λ (k : Kinds). Answers (name ++ 0x3A ∷ rest) (rest_query (word_forms lexicon k) rest)) are.kinds_are
          (MatchResult-weaker (rest_query (word_forms lexicon _) rest)
          (rest_answers (word_forms lexicon _) (word_plain lexicon plain _) rest utf8)
          (λ q r. InKinds name rest q are.letters_are r) (λ kind f. InWords name rest kind are.letters_are f))

  pub pattern_answers : (text : List ℕ) → IsUtf8 text
      → MatchResult (pattern_query lexicon text) (IsPattern lexicon text) (IsPatternFault lexicon text)
  unfolding Answers
  pattern_answers text utf8 = go (texts_around 0x3A text) refl
    where
      go : (o : Option (List ℕ × List ℕ)) → texts_around 0x3A text ≡ o
          → Answers text (elim o [
            | None ↦ rest_query (word_forms lexicon plain_kinds) text
            | Some p ↦ prefixed_query
                lexicon p.0 p.1
          ])
      go None h =
          let free = uncut_free 0x3A text h in
          MatchResult-weaker (rest_query (word_forms lexicon plain_kinds) text)
          (rest_answers (word_forms lexicon plain_kinds) (word_plain lexicon plain plain_kinds) text utf8)
          (λ q r. Plain text q free r) (λ kind f. InPlain text kind free f)
      go (Some p) h =
          let parts = cut_parts 0x3A text p h in
          let after = utf8_after p.0 p.1 0x3A (omega arith) (subst IsUtf8 parts.0 utf8) in
          grind (arith, prefixed_answers)

  are_patterns : (patterns : List (List ℕ)) (qs : List Query) → 0 < length patterns
      → Each (IsPattern lexicon) patterns qs → ArePatterns lexicon patterns qs
  unfolding Each
  are_patterns [] qs some h = absurd (omega (arith, some))
  are_patterns (p ∷ ps) [] some h = absurd h
  are_patterns (p ∷ []) (q ∷ []) some h = Only p q h.0
  are_patterns (p ∷ []) (q ∷ r ∷ qs) some h = absurd h.1
  are_patterns (p ∷ t ∷ ps) (q ∷ qs) some h = AndAlso p (t ∷ ps) q qs h.0 (are_patterns (t ∷ ps) qs (omega arith) h.1)

  pub patterns_answer : (patterns : List (List ℕ)) → All IsUtf8 patterns
      → MatchResult (patterns_query lexicon patterns) (IsAsked lexicon patterns) (IsFirstFault lexicon patterns)
  patterns_answer [] utf8 = HasNone
  patterns_answer (p ∷ ps) utf8 =
      then_answers (patterns_from lexicon 1 (p ∷ ps)) all_of _ _
      (rw (patterns_numbered lexicon 1 (p ∷ ps)) at
      (each_answers (IsPattern lexicon) (IsPatternFault lexicon) (pattern_query lexicon) pattern_answers QueryFault
      at_number 1 (p ∷ ps) utf8))
      (λ qs each. EachPattern (p ∷ ps) qs (are_patterns (p ∷ ps) qs (omega arith) each))
      (λ fault f.
      let place : f.before + 1 ≡ 1 + f.before = omega arith in
      subst (IsFirstFault lexicon (p ∷ ps)) (cc (place, f.is))
      (InPattern (p ∷ ps) f.before f.kind f.first))
