-- Reading texts, or patterns, one after another: the queries so far and those of the rest make the whole.
use Rattle.mail_query.proofs.Words.{◌≡◌, ℕ, ◌+◌, ◌<◌, List, [], ◌∷◌, ◌++◌, length, get_or, drop, Option, Result, Ok, Err, IfSome, refl, sym, ap, ◌∙◌, arith, add-one, drop-cons, append-nil, map, String, Global, string_bytes, IsUtf8, drop_all, get_or-map, length-map, ◌>>=◌, with_front, fault_as, with_front-append, if_some_map, QueryFault, QueryFaultKind, Query, all_of, Lexicon, each_read, pattern_query, patterns_from, patterns_query, All, All-map, IsUtf8-string_bytes, OrMemory, refusal, fault_with_number}

-- the texts from a place on are the text there and those after it
drop-next : (texts : List (List ℕ)) (n : ℕ) (text : List ℕ) → (n < length texts) × (text ≡ get_or texts n text)
    → drop n texts ≡ text ∷ drop (n + 1) texts
drop-next texts n text h = grind (arith, drop-cons, add-one)

module _ {E : Type 0} (fault : ℕ → QueryFaultKind → E) (read : List ℕ → Result Query QueryFaultKind) where
  -- the queries of the texts from number n on, or the first fault, with its number
  abbrev pub numbered_read : ℕ → List (List ℕ) → Result (List Query) E
  numbered_read n [] = Ok []
  numbered_read n (text ∷ texts) = fault_as (fault n) (read text) >>=
      (λ q. with_front (q ∷ []) (numbered_read (n + 1) texts))

  module _ (texts : List (List ℕ)) where
    -- these queries were read, and with those of the rest they make the whole
    pub record HasRead (qs : List Query) (n : ℕ) : Type 0 where
      pub whole : with_front qs (numbered_read (n + 1) (drop n texts)) ≡ numbered_read 1 texts

    pub reads_none : (qs : List Query) → qs ≡ [] → HasRead qs 0
    reads_none qs e = grind arith

    -- the whole, given the result for the text at a place
    abbrev then_rest : List Query → ℕ → Result Query QueryFaultKind → Result (List Query) E
    then_rest qs n r = with_front qs (fault_as (fault (n + 1)) r >>=
        (λ q. with_front (q ∷ []) (numbered_read (n + 1 + 1) (drop (n + 1) texts))))

    turn : (qs : List Query) (n : ℕ) (text : List ℕ) (r : Result Query QueryFaultKind) → HasRead qs n
        → (n < length texts) × (text ≡ get_or texts n text)
        → read text ≡ r → then_rest qs n r ≡ numbered_read 1 texts
    turn qs n text r h here is = grind (arith, drop-next)

    pub reads_more : (qs : List Query) (n : ℕ) (text : List ℕ) (q : Query) → HasRead qs n → (n < length texts)
        × (text ≡ get_or texts n text)
        → read text ≡ Ok q → HasRead (qs ++ q ∷ []) (n + 1)
    reads_more qs n text q h here is = record {
      whole = with_front-append qs (q ∷ []) (numbered_read (n + 1 + 1) (drop (n + 1) texts))
          ∙ turn qs n text (Ok q) h here is;
    }

    pub refuses : (qs : List Query) (n : ℕ) (text : List ℕ) (kind : QueryFaultKind) → HasRead qs n → (n < length texts)
        × (text ≡ get_or texts n text)
        → read text ≡ Err kind → numbered_read 1 texts ≡ Err (fault (n + 1) kind)
    refuses qs n text kind h here is = sym (turn qs n text (Err kind) h here is)

    pub reads_all : (qs : List Query) (n : ℕ) → HasRead qs n → n ≡ length texts → numbered_read 1 texts ≡ Ok qs
    reads_all qs n h e = grind (arith, drop_all, append-nil)

-- ---- parts of a text have no number

abbrev pub unnumbered : ℕ → QueryFaultKind → QueryFaultKind
unnumbered n kind = kind

pub each_numbered : (read : List ℕ → Result Query QueryFaultKind) (n : ℕ) (texts : List (List ℕ))
    → numbered_read unnumbered read n texts ≡ each_read read texts
each_numbered read n [] = refl
each_numbered read n (text ∷ texts) = grind (arith, each_numbered read (n + 1) texts)

module _ (read : List ℕ → Result Query QueryFaultKind) (texts : List (List ℕ)) (made : List Query → Query) where
  pub part_refused : (qs : List Query) (n : ℕ) (text : List ℕ) (refusal : Option QueryFaultKind)
      → HasRead unnumbered read texts qs n → (n < length texts) × (text ≡ get_or texts n text)
      → IfSome refusal (λ kind. read text ≡ Err kind)
      → IfSome refusal (λ kind. each_read read texts >>= (λ xs. Ok (made xs)) ≡ Err kind)
  part_refused qs n text refusal h here is =
      if_some_map refusal (λ kind. read text ≡ Err kind)
      (λ kind. each_read read texts >>= (λ xs. Ok (made xs)) ≡ Err kind)
      (λ kind e. ap (λ (r : Result (List Query) QueryFaultKind). r >>= (λ xs. Ok (made xs)))
      (sym (each_numbered read 1 texts) ∙ refuses unnumbered read texts qs n text kind h here e)) is

  pub parts_read : (qs : List Query) (n : ℕ) → HasRead unnumbered read texts qs n → n ≡ length texts
      → each_read read texts >>= (λ xs. Ok (made xs)) ≡ Ok (made qs)
  parts_read qs n h e = grind (arith, each_numbered, reads_all)

-- ---- patterns have numbers

-- the fault of the pattern with this number
abbrev pub at_number : ℕ → QueryFaultKind → QueryFault
at_number n kind = record { number = n; kind = kind }

pub patterns_numbered : (lexicon : Lexicon) (n : ℕ) (patterns : List (List ℕ))
    → numbered_read at_number (pattern_query lexicon) n patterns ≡ patterns_from lexicon n patterns
patterns_numbered lexicon n [] = refl
patterns_numbered lexicon n (pattern ∷ patterns) = grind (arith, patterns_numbered lexicon (n + 1) patterns)

-- ---- all patterns

-- the query of all patterns, or the first fault, if there are any patterns
pub patterns_made : (lexicon : Lexicon) (patterns : List (List ℕ)) (r : Result (List Query) QueryFault)
    → 0 < length patterns
    → numbered_read at_number (pattern_query lexicon) 1 patterns ≡ r → patterns_query lexicon patterns ≡ r >>=
    (λ qs. Ok (all_of qs))
patterns_made lexicon patterns r h h2 = grind (arith, patterns_numbered)

-- if one pattern is refused, the whole list is, with that number
pub pattern_refused : (lexicon : Lexicon) (patterns : List (List ℕ)) (qs : List Query) (n : ℕ) (text : List ℕ)
    (given : OrMemory QueryFaultKind) → HasRead at_number (pattern_query lexicon) patterns qs n
    → (n < length patterns) × (text ≡ get_or patterns n text)
    → IfSome (refusal given) (λ k. pattern_query lexicon text ≡ Err k)
    → IfSome (refusal (fault_with_number (n + 1) given)) (λ f. patterns_query lexicon patterns ≡ Err f)
pattern_refused lexicon patterns qs n text given h here e = grind (arith, patterns_made, refuses)

-- the text of a pattern at a place
pub pattern_here : (patterns : List (String Global)) (i : ℕ) (pattern : String Global) (text : List ℕ)
    → i < length patterns → pattern ≡ get_or patterns i pattern → text ≡ string_bytes pattern
    → (i < length (map string_bytes patterns)) × (text ≡ get_or (map string_bytes patterns) i text)
pattern_here patterns i pattern text below is e = grind (arith, string_bytes, length-map, get_or-map)

-- strings are UTF-8
pub texts_utf8 : (patterns : List (String Global)) → All IsUtf8 (map string_bytes patterns)
texts_utf8 patterns = All-map IsUtf8 string_bytes patterns (λ k d below. IsUtf8-string_bytes (get_or patterns k d))
