-- The reader returns each query that the grammar of patterns gives, by induction over the productions.
use Rattle.mail_query.proofs.Words.{◌≡◌, ℕ, ◌+◌, ◌<◌, true, false, eqb, List, [], ◌∷◌, ◌++◌, None, Some, Result, Ok, refl, ◌∙◌, arith, IsUtf8, bytes_eq, codes, list_any, list_all, slice_split, All, and_parts, or_from, false_from_ne_true, All-head, All-tail, cond_some, none-some, bytes_eq-Decides, ◌>>=◌, QueryFaultKind, Kinds, is_byte, Lexicon, Query, all_of, Forms, kinds_of, is_sign, may_be_id, id_forms, word_forms, each_read, atom_query, term_query, all_query, rest_query, prefixed_query, pattern_query, patterns_from, patterns_query, is_letter_among, kinds_named, Separated, Alone, Before, IsAtom, WholeWord, PartOfWord, FrontOfWord, IsTerm, Wanted, Unwanted, IsAll, EachTerm, IsRest, SomeAll, IsPattern, Plain, InKinds, OfId, OfDate, OfSize, OfFlags, ArePatterns, Only, AndAlso, IsAsked, EachPattern, HasNoSigns}
use Rattle.mail_query.proofs.PieceLemmas.{without_last-same, Free, cut_none, cut_at}
use Rattle.mail_query.proofs.MairixLaws.KindLemmas.{letters_read}
use Rattle.mail_query.proofs.MairixLaws.FlagLemmas.{flags_read}
use Rattle.mail_query.proofs.MairixLaws.SizeLemmas.{sizes_read}
use Rattle.mail_query.proofs.MairixLaws.SignLemmas.{any-append, any-after, free_of, not_approximate, not_approximate-marked, split_none, split_at, utf8_before, utf8_after}

-- ---- texts between signs

pub separated_read : (sign : ℕ) (Asks : List ℕ → Query → Type 0) (read : List ℕ → Result Query QueryFaultKind)
    → sign < 128
    → ((text : List ℕ) (q : Query) → Asks text q → IsUtf8 text → (read text ≡ Ok q) × Free sign text)
    → (text : List ℕ) (qs : List Query) → Separated sign Asks text qs → IsUtf8 text
    → each_read read (slice_split (is_byte sign) text) ≡ Ok qs
separated_read sign Asks read below one text qs (Alone t q a) utf8 = grind (arith, split_none)
separated_read sign Asks read below one text qs (Before t rest q more a s) utf8 =
    let h = one t q a (utf8_before t rest sign below utf8) in
    let k = separated_read sign Asks read below one rest more s (utf8_after t rest sign below utf8) in
    grind (arith, split_at)

separated_free : (sign c : ℕ) (Asks : List ℕ → Query → Type 0) → sign < 128 → eqb sign c ≡ false
    → ((text : List ℕ) (q : Query) → Asks text q → IsUtf8 text → Free c text) → (text : List ℕ) (qs : List Query)
    → Separated sign Asks text qs → IsUtf8 text → Free c text
separated_free sign c Asks below differs one text qs (Alone t q a) utf8 = one t q a utf8
separated_free sign c Asks below differs one text qs (Before t rest q more a s) utf8 =
    any-append (is_byte c) t (sign ∷ rest) (one t q a (utf8_before t rest sign below utf8))
    (or_from (eqb sign c) (list_any (is_byte c) rest) differs
    (separated_free sign c Asks below differs one rest more s (utf8_after t rest sign below utf8)))

-- ---- atoms, terms and what is made of them

-- no word and no part of a word has a sign
pub record PlainForms (forms : Forms) : Type 0 where
  pub words : (text sought : List ℕ) → IsUtf8 text → forms.word text ≡ Some sought → list_any is_sign text ≡ false
  pub parts : (text sought : List ℕ) → IsUtf8 text → forms.part text ≡ Some sought → list_any is_sign text ≡ false

module _ (forms : Forms) (plain : PlainForms forms) where
  no_word : (text : List ℕ) → IsUtf8 text → list_any is_sign text ≡ true → forms.word text ≡ None
  no_word text utf8 h = grind arith

  no_part : (text : List ℕ) → IsUtf8 text → list_any is_sign text ≡ true → forms.part text ≡ None
  no_part text utf8 h = grind arith

  -- the atom is read as this query, and has no signs but `^` and `=`
  pub record AtomRead (text : List ℕ) (q : Query) : Type 0 where
    pub read : atom_query forms text ≡ Ok q
    pub free : (c : ℕ) → is_sign c ≡ true → eqb 0x5E c ≡ false → eqb 0x3D c ≡ false → Free c text

  marked_free : (sub : List ℕ) → list_any is_sign sub ≡ false → (c : ℕ) → is_sign c ≡ true → eqb 0x3D c ≡ false
      → Free c (sub ++ 0x3D ∷ [])
  marked_free sub h c sign differs = grind (arith, any-append, free_of)

  pub atom_read : (text : List ℕ) (q : Query) → IsAtom forms text q → IsUtf8 text → AtomRead text q
  atom_read text q (WholeWord word sought e) utf8 = grind (arith, not_approximate, free_of)
  atom_read text q (PartOfWord sub sought e) utf8 =
      let h = plain.parts sub sought (utf8_before sub [] 0x3D (omega arith) utf8) e in
      grind (arith, not_approximate-marked, no_word, any-after, without_last-same, marked_free)
  atom_read text q (FrontOfWord sub sought e) utf8 =
      let after : IsUtf8 (sub ++ 0x3D ∷ []) = utf8_after [] (sub ++ 0x3D ∷ []) 0x5E (omega arith) utf8 in
      let h = plain.parts sub sought (utf8_before sub [] 0x3D (omega arith) after) e in
      record {
        read =
            rw (
              not_approximate-marked sub h,
              no_word (0x5E ∷ (sub ++ 0x3D ∷ [])) utf8 refl,
              without_last-same 0x3D (0x5E ∷ sub),
              no_part (0x5E ∷ sub) (utf8_before (0x5E ∷ sub) [] 0x3D (omega arith) utf8) refl,
              e,
            )
            refl;
        free = grind (arith, marked_free);
      }

  pub record TermRead (text : List ℕ) (q : Query) : Type 0 where
    pub read : term_query forms text ≡ Ok q
    pub comma : Free 0x2C text
    pub slash : Free 0x2F text

  pub term_read : (text : List ℕ) (q : Query) → IsTerm forms text q → IsUtf8 text → TermRead text q
  term_read text q (Wanted atom asked a) utf8 = grind (arith, atom_read)
  term_read text q (Unwanted atom asked a) utf8 =
      let h = atom_read atom asked a (utf8_after [] atom 0x7E (omega arith) utf8) in
      grind arith

  pub all_read : (text : List ℕ) (q : Query) → IsAll forms text q → IsUtf8 text → (all_query forms text ≡ Ok q)
      × Free 0x2F text
  all_read text q (EachTerm t qs s) utf8 = (
    grind (arith, separated_read, term_read),
    separated_free 0x2C 0x2F (IsTerm forms) (omega arith) refl (λ u x a v. let h = term_read u x a v in h.slash) t qs s
        utf8,
  )

  pub rest_read : (text : List ℕ) (q : Query) → IsRest forms text q → IsUtf8 text → rest_query forms text ≡ Ok q
  rest_read text q (SomeAll t qs s) utf8 = grind (arith, separated_read, all_read)

-- ---- patterns

id_unsigned : (text : List ℕ) → may_be_id text ≡ true → list_any is_sign text ≡ false
id_unsigned text h = grind arith

pub id_plain : PlainForms id_forms
id_plain = grind (arith, cond_some, and_parts, id_unsigned)

module _ (lexicon : Lexicon) (plain : HasNoSigns lexicon) where
  pub word_plain : (kinds : Kinds) → PlainForms (word_forms lexicon kinds)
  word_plain kinds = grind (arith, cond_some)

  -- letters that name kinds aren't another prefix
  differs : (letters other : List ℕ) (kinds : Kinds) → kinds_of letters ≡ Some kinds → kinds_of other ≡ None
      → bytes_eq letters other ≡ false
  differs letters other kinds e n = grind (arith, bytes_eq-Decides, false_from_ne_true, none-some)

  -- letters have no `:`
  pub letters_free : (letters : List ℕ) → list_all (is_letter_among (codes "tcfsban")) letters ≡ true
      → Free 0x3A letters
  letters_free [] h = refl
  letters_free (letter ∷ letters) h =
      grind (arith, letters_free letters)

  pub prefixed_letters : (letters rest : List ℕ) (kinds : Kinds) → kinds_of letters ≡ Some kinds
      → prefixed_query lexicon letters rest ≡ rest_query (word_forms lexicon kinds) rest
  prefixed_letters letters rest kinds e =
      rw (
        differs letters (codes "m") kinds e refl,
        differs letters (codes "d") kinds e refl,
        differs letters (codes "z") kinds e refl,
        differs letters (codes "F") kinds e refl,
        e,
      ) refl

  pub pattern_read : (text : List ℕ) (q : Query) → IsPattern lexicon text q → IsUtf8 text → pattern_query lexicon text
      ≡ Ok q
  pattern_read text q (Plain rest asked free r) utf8 =
      grind (arith, cut_none, rest_read)
  pattern_read text q (InKinds letters rest asked named r) utf8 =
      let kinds : Kinds = kinds_named letters in
      rw (cut_at 0x3A letters rest (letters_free letters named.letters), pattern_query)
      (prefixed_letters letters rest kinds (letters_read letters named)
      ∙ rest_read (word_forms lexicon kinds) (word_plain kinds) rest asked r
      (utf8_after letters rest 0x3A (omega arith) utf8))
  pattern_read text q (OfId rest asked r) utf8 =
      rest_read id_forms id_plain rest asked r (utf8_after (0x6D ∷ []) rest 0x3A (omega arith) utf8)
  pattern_read text q (OfDate dates range e) utf8 = rw e refl
  pattern_read text q (OfSize sizes asked s) utf8 =
      grind (arith, sizes_read)
  pattern_read text q (OfFlags flags asked f) utf8 =
      grind (arith, flags_read)

  -- ---- lists of patterns

  from_read : (n : ℕ) (patterns : List (List ℕ)) (qs : List Query) → ArePatterns lexicon patterns qs
      → All IsUtf8 patterns → patterns_from lexicon n patterns ≡ Ok qs
  from_read n patterns qs (Only pattern q a) utf8 =
      cc (pattern_read pattern q a (All-head IsUtf8 pattern [] utf8))
  from_read n patterns qs (AndAlso pattern rest q more a s) utf8 =
      cc (
        pattern_read pattern q a (All-head IsUtf8 pattern rest utf8),
        from_read (n + 1) rest more s (All-tail IsUtf8 pattern rest utf8),
      )

  first_read : (patterns : List (List ℕ)) (qs : List Query) → ArePatterns lexicon patterns qs
      → patterns_query lexicon patterns ≡ patterns_from lexicon 1 patterns >>= (λ xs. Ok (all_of xs))
  first_read patterns qs h = grind arith

  pub patterns_read : (patterns : List (List ℕ)) (q : Query) → IsAsked lexicon patterns q → All IsUtf8 patterns
      → patterns_query lexicon patterns ≡ Ok q
  patterns_read patterns q (EachPattern texts qs s) utf8 = grind (arith, first_read, from_read)
