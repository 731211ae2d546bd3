-- The reader of patterns agrees with their grammar, and its faults are the first faults, both in both directions.
use Rattle.mail_query.proofs.Words.{◌≡◌, ℕ, ◌+◌, false, List, [], ◌∷◌, ◌++◌, length, None, Result, Ok, Err, refl, sym, ◌∙◌, arith, IsUtf8, ◌↔◌, bytes_eq, codes, All, slice_split, false_from_ne_true, All-head, All-tail, MatchResult-at_ok, MatchResult-at_err, bytes_eq-Decides, ◌>>=◌, QueryFault, QueryFaultKind, BadPrefix, Kinds, is_byte, Lexicon, Query, all_of, sizes_of, flags_of_text, pattern_lexicon, mairix_query, Forms, kinds_of, is_approximate, id_forms, word_forms, each_read, found_query, atom_query, term_query, all_query, rest_query, prefixed_query, pattern_query, patterns_from, patterns_query, kinds_named, IsTerm, IsPattern, IsAsked, AskNothing, HasNoSigns, IsFirstOf, After, IsAtomFault, AsksApproximately, HasNoForm, IsTermFault, InWanted, InUnwanted, IsAllFault, InTerm, IsRestFault, InAll, IsPatternPrefix, OfKinds, IsPatternFault, HasNoPrefix, InPlain, InWords, InId, HasNoDate, HasNoSize, HasNoFlags, IsFirstFault, HasNone, InPattern}
use Rattle.mail_query.specs.MairixFaults.{OfId, OfDate, OfSize, OfFlags}
use Rattle.mail_query.proofs.PieceLemmas.{none_unless, cut_none, cut_at}
use Rattle.mail_query.proofs.MairixLaws.ApproximateLemmas.{approximate_is, is_marked}
use Rattle.mail_query.proofs.MairixLaws.EachLemmas.{at_number, unnumbered, numbered_read, each_numbered, patterns_numbered}
use Rattle.mail_query.proofs.MairixLaws.KindLemmas.{letters_read, read_letters}
use Rattle.mail_query.proofs.MairixLaws.FlagLemmas.{read_flags}
use Rattle.mail_query.proofs.MairixLaws.SizeLemmas.{read_sizes}
use Rattle.mail_query.proofs.MairixLaws.SignLemmas.{utf8_after}
use Rattle.mail_query.proofs.MairixLaws.MairixAnswers.{split_utf8, found_asks, pattern_answers, patterns_answer}
use Rattle.mail_query.proofs.MairixLaws.MairixComplete.{PlainForms, id_plain, word_plain, term_read, all_read, letters_free, prefixed_letters, pattern_read, patterns_read}
use Rattle.mail_query.proofs.MairixLaws.PlainWords.{mail_plain}

-- ---- the first of several texts

module _ (Asks : List ℕ → Query → Type 0) (Shows : List ℕ → QueryFaultKind → Type 0)
    (read : List ℕ → Result Query QueryFaultKind)
    (answered : (text : List ℕ) (q : Query) → Asks text q → IsUtf8 text → read text ≡ Ok q)
    (refused : (text : List ℕ) (kind : QueryFaultKind) → Shows text kind → IsUtf8 text → read text ≡ Err kind) where
  -- the reader refuses the first faulty text
  first_faulty : (E : Type 0) (fault : ℕ → QueryFaultKind → E) (n : ℕ) (texts : List (List ℕ)) (place : ℕ)
      (kind : QueryFaultKind) → IsFirstOf Asks Shows texts place kind
      → All IsUtf8 texts → numbered_read fault read n texts ≡ Err (fault (n + place) kind)
  first_faulty E fault n texts place kind (After before text more shown fine f) utf8 = go n before fine utf8
    where
      go : (m : ℕ) (front : List (List ℕ)) → All (λ (t : List ℕ). (q : Query) × Asks t q) front
          → All IsUtf8 (front ++ text ∷ more)
          → numbered_read fault read m (front ++ text ∷ more) ≡ Err (fault (m + length front) shown)
      go m [] fine utf8 =
          let here : m ≡ m + 0 = omega arith in
          cc (refused text shown f (All-head IsUtf8 text more utf8), here)
      go m (t ∷ ts) fine utf8 =
          let rest : List (List ℕ) = ts ++ text ∷ more in
          let asks = All-head (λ (u : List ℕ). (q : Query) × Asks u q) t ts fine in
          let after = go (m + 1) ts (All-tail (λ (u : List ℕ). (q : Query) × Asks u q) t ts fine)
          (All-tail IsUtf8 t rest utf8) in
          let here : m + 1 + length ts ≡ m + length (t ∷ ts) = omega arith in
          cc (answered t asks.0 asks.1 (All-head IsUtf8 t rest utf8), after, here)

  first_part_faulty : (texts : List (List ℕ)) (place : ℕ) (kind : QueryFaultKind)
      → IsFirstOf Asks Shows texts place kind → All IsUtf8 texts → each_read read texts ≡ Err kind
  first_part_faulty texts place kind f utf8 = sym (each_numbered read 0 texts)
      ∙ first_faulty QueryFaultKind unnumbered 0 texts place kind f utf8

-- ---- atoms, terms and what is made of them

module _ (forms : Forms) where
  atom_faulty : (text : List ℕ) (kind : QueryFaultKind) → IsAtomFault forms text kind → atom_query forms text ≡ Err kind
  atom_faulty text kind (AsksApproximately atom a) = rw (is_marked atom a) refl
  atom_faulty text kind (HasNoForm atom far none) =
      let exact : is_approximate atom ≡ false =
      grind (arith, approximate_is) in
      let unfound : found_query forms atom ≡ None =
      none_unless (found_query forms atom) (λ q h. none q (found_asks forms atom q h)) in
      rw (exact, unfound) refl

  term_faulty : (text : List ℕ) (kind : QueryFaultKind) → IsTermFault forms text kind → term_query forms text ≡ Err kind
  term_faulty text kind (InWanted atom shown free f) =
      grind (arith, atom_faulty)
  term_faulty text kind (InUnwanted atom shown f) =
      grind (arith, atom_faulty)

  module _ (plain : PlainForms forms) where
    all_faulty : (text : List ℕ) (kind : QueryFaultKind) → IsAllFault forms text kind → IsUtf8 text
        → all_query forms text ≡ Err kind
    all_faulty text kind (InTerm t n shown first) utf8 =
        cc (first_part_faulty (IsTerm forms) (IsTermFault forms) (term_query forms)
        (λ u q a v. let h = term_read forms plain u q a v in h.read) (λ u k f v. term_faulty u k f)
        (slice_split (is_byte 0x2C) t) n shown first (split_utf8 0x2C t (omega arith) utf8))

    rest_faulty : (text : List ℕ) (kind : QueryFaultKind) → IsRestFault forms text kind → IsUtf8 text
        → rest_query forms text ≡ Err kind
    rest_faulty text kind (InAll t n shown first) utf8 =
        grind (arith, first_part_faulty, all_read, all_faulty, split_utf8)

-- ---- patterns

other_name : (name known : List ℕ) → ¬ IsPatternPrefix name → IsPatternPrefix known → bytes_eq name known ≡ false
other_name name known unnamed is = grind (arith, bytes_eq-Decides, false_from_ne_true)

module _ (lexicon : Lexicon) (plain : HasNoSigns lexicon) where
  unprefixed : (name rest : List ℕ) → ¬ IsPatternPrefix name → prefixed_query lexicon name rest ≡ Err BadPrefix
  unprefixed name rest unnamed =
      let no_kinds : kinds_of name ≡ None = none_unless (kinds_of name)
      (λ kinds h. let are = read_letters name kinds h in unnamed (OfKinds name are.letters_are)) in
      rw (
        other_name name (codes "m") unnamed OfId,
        other_name name (codes "d") unnamed OfDate,
        other_name name (codes "z") unnamed OfSize,
        other_name name (codes "F") unnamed OfFlags,
        no_kinds,
      ) refl

  pattern_faulty : (text : List ℕ) (kind : QueryFaultKind) → IsPatternFault lexicon text kind → IsUtf8 text
      → pattern_query lexicon text ≡ Err kind
  pattern_faulty text kind (HasNoPrefix name rest free unnamed) utf8 =
      grind (arith, cut_at, unprefixed)
  pattern_faulty text kind (InPlain rest shown free f) utf8 = grind (arith, cut_none, rest_faulty)
  pattern_faulty text kind (InWords letters rest shown are f) utf8 =
      let kinds : Kinds = kinds_named letters in
      rw (cut_at 0x3A letters rest (letters_free lexicon plain letters are.letters), pattern_query)
      (prefixed_letters lexicon plain letters rest kinds (letters_read letters are)
      ∙ rest_faulty (word_forms lexicon kinds) (word_plain lexicon plain kinds) rest shown f
      (utf8_after letters rest 0x3A (omega arith) utf8))
  pattern_faulty text kind (InId rest shown f) utf8 =
      rest_faulty id_forms id_plain rest shown f (utf8_after (0x6D ∷ []) rest 0x3A (omega arith) utf8)
  pattern_faulty text kind (HasNoDate dates none) utf8 =
      grind arith
  pattern_faulty text kind (HasNoSize sizes none) utf8 =
      cc (none_unless (sizes_of sizes) (λ q h. none q (read_sizes sizes q h)))
  pattern_faulty text kind (HasNoFlags flags none) utf8 =
      cc (none_unless (flags_of_text flags) (λ q h. none q (read_flags flags q h)))

  some_first : (before : List (List ℕ)) (text : List ℕ) (more : List (List ℕ))
      → patterns_query lexicon (before ++ text ∷ more) ≡ patterns_from lexicon 1 (before ++ text ∷ more) >>=
      (λ qs. Ok (all_of qs))
  some_first [] text more = refl
  some_first (t ∷ ts) text more = refl

  patterns_faulty : (patterns : List (List ℕ)) (f : QueryFault) → All IsUtf8 patterns → IsFirstFault lexicon patterns f
      → patterns_query lexicon patterns ≡ Err f
  patterns_faulty patterns f utf8 HasNone = refl
  patterns_faulty patterns f utf8 (InPattern texts n kind first) =
      cc (
        some texts n kind first,
        patterns_numbered lexicon 1 texts,
        first_faulty (IsPattern lexicon) (IsPatternFault lexicon) (pattern_query lexicon) (pattern_read lexicon plain)
            pattern_faulty QueryFault at_number 1 texts n kind first utf8,
        place,
      )
    where
      place : 1 + n ≡ n + 1
      place = omega arith

      some : (ts : List (List ℕ)) (m : ℕ) (k : QueryFaultKind)
          → IsFirstOf (IsPattern lexicon) (IsPatternFault lexicon) ts m k → patterns_query lexicon ts
          ≡ patterns_from lexicon 1 ts >>= (λ qs. Ok (all_of qs))
      some ts m k (After before text more shown fine fault) = some_first before text more

  -- ---- both directions

  pub pattern_exact : (text : List ℕ) (q : Query) → IsUtf8 text
      → (pattern_query lexicon text ≡ Ok q) ↔ IsPattern lexicon text q
  pattern_exact text q utf8 = (
    λ e. MatchResult-at_ok (IsPattern lexicon text) (IsPatternFault lexicon text) q e
        (pattern_answers lexicon plain text utf8),
    grind (arith, pattern_read),
  )

  module _ (patterns : List (List ℕ)) (utf8 : All IsUtf8 patterns) where
    pub patterns_exact : (q : Query) → (patterns_query lexicon patterns ≡ Ok q) ↔ IsAsked lexicon patterns q
    patterns_exact q = (
      λ e. MatchResult-at_ok (IsAsked lexicon patterns) (IsFirstFault lexicon patterns) q e
          (patterns_answer lexicon plain patterns utf8),
      grind (arith, patterns_read),
    )

    pub fault_exact : (f : QueryFault) → (patterns_query lexicon patterns ≡ Err f) ↔ IsFirstFault lexicon patterns f
    fault_exact f = (
      λ e. MatchResult-at_err (IsAsked lexicon patterns) (IsFirstFault lexicon patterns) f e
          (patterns_answer lexicon plain patterns utf8),
      patterns_faulty patterns f utf8,
    )

    pub one_fault : (f g : QueryFault) → IsFirstFault lexicon patterns f → IsFirstFault lexicon patterns g → f ≡ g
    one_fault f g a b = grind (arith, patterns_faulty)

    pub refused_exact : ((f : QueryFault) × (patterns_query lexicon patterns ≡ Err f)) ↔ AskNothing lexicon patterns
    refused_exact = (unasked, λ none. refused (patterns_query lexicon patterns) refl none)
      where
        unasked : (f : QueryFault) × (patterns_query lexicon patterns ≡ Err f) → (q : Query)
            → IsAsked lexicon patterns q → ⊥
        unasked fault q asked = grind (arith, patterns_read)

        refused : (r : Result Query QueryFault) → patterns_query lexicon patterns ≡ r → AskNothing lexicon patterns
            → (f : QueryFault) × (patterns_query lexicon patterns ≡ Err f)
        refused (Ok q) e none = let exact = patterns_exact q in absurd (none q (exact.0 e))
        refused (Err f) e none = (f, e)

    pub faulty_or_asked : ((f : QueryFault) × IsFirstFault lexicon patterns f) ↔ AskNothing lexicon patterns
    faulty_or_asked = (
      λ fault. refused_exact.0 (fault.0, patterns_faulty patterns fault.0 utf8 fault.1),
      λ none. let refused = refused_exact.1 none in grind (arith, fault_exact),
    )

-- words of mail have no signs
pub dates_plain : (now : ℕ) → HasNoSigns (pattern_lexicon now)
dates_plain now = grind (arith, mail_plain)

pub patterns_of_mail : (patterns : List (List ℕ)) (now : ℕ) (q : Query) → All IsUtf8 patterns
    → (mairix_query patterns now ≡ Ok q) ↔ IsAsked (pattern_lexicon now) patterns q
patterns_of_mail patterns now q utf8 = grind (arith, patterns_exact, dates_plain)
