-- The terms of a message say what its texts and its own id say, kind by kind.
use Rattle.mairix_tool.proofs.Words.{◌≡◌, ◌∙◌, ℕ, Bool, true, false, if◌then◌else◌, List, [], ◌∷◌, ◌++◌, map, flat_map, Option, refl, sym, ap, arith, ◌&&◌, ◌||◌, nat_eq, list_any, or-false, list_any-append, TextKind, words, folding, Kind, Text, OwnId, LinkId, kind_number, Facts, Pair, Term, text_terms, own_id_terms, link_terms, id_terms, is_kind, words_of, id_list}

-- the term is of this kind, and its text passes
abbrev pub term_says : Kind → (List ℕ → Bool) → Term → Bool
term_says kind passes t = nat_eq (kind_number t.0) (kind_number kind) && passes t.1

-- ---- kinds by their numbers

-- kinds of text with the same number are the same
text-kinds : (j kind : TextKind) → nat_eq (kind_number (Text j)) (kind_number (Text kind)) ≡ is_kind j kind
text-kinds = grind arith

-- an own id isn't a text
own-no-text : (kind : TextKind) → nat_eq (kind_number OwnId) (kind_number (Text kind)) ≡ false
own-no-text = grind arith

-- a link isn't a text
link-no-text : (kind : TextKind) → nat_eq (kind_number LinkId) (kind_number (Text kind)) ≡ false
link-no-text = grind arith

-- a text isn't an own id
text-no-own : (kind : TextKind) → nat_eq (kind_number (Text kind)) (kind_number OwnId) ≡ false
text-no-own = grind arith

-- ---- terms of a kind

-- the words of a text, if it is of the kind and if it isn't
words-say : (kind j : TextKind) (passes : List ℕ → Bool) (same : Bool)
    → nat_eq (kind_number (Text j)) (kind_number (Text kind)) ≡ same → (ws : List (List ℕ))
    → list_any (term_says (Text kind) passes) (map (λ w. (Text j, folding w)) ws)
    ≡ list_any passes (if same then map folding ws else [])
words-say kind j passes true e [] = refl
words-say kind j passes true e (w ∷ ws) = grind (arith, words-say kind j passes true e ws)
words-say kind j passes false e [] = refl
words-say kind j passes false e (w ∷ ws) = grind (arith, words-say kind j passes false e ws)

-- a term of the texts is of the kind and passes exactly if a word of the texts of this kind passes
texts-say : (kind : TextKind) (passes : List ℕ → Bool) (texts : List Pair)
    → list_any (term_says (Text kind) passes) (flat_map text_terms texts) ≡ list_any passes (words_of kind texts)
texts-say kind passes [] = refl
texts-say kind passes (p ∷ ps) =
    list_any-append (term_says (Text kind) passes) (text_terms p) _
    ∙ ap (λ b. b || list_any (term_says (Text kind) passes) (flat_map text_terms ps))
    (words-say kind _ _ _ (text-kinds _ _) _)
    ∙ ap (λ b. list_any passes (if is_kind p.0 kind then map folding (words p.1) else []) || b)
    (texts-say _ _ ps)
    ∙ sym (list_any-append passes (if is_kind p.0 kind then map folding (words p.1) else []) (words_of kind ps))

-- no word of a text is an own id
words-no-own : (j : TextKind) (passes : List ℕ → Bool) (ws : List (List ℕ))
    → list_any (term_says OwnId passes) (map (λ w. (Text j, folding w)) ws) ≡ false
words-no-own j passes [] = refl
words-no-own j passes (w ∷ ws) = grind (arith, text-no-own, words-no-own j passes ws)

-- no term of several texts is an own id
texts-no-own : (passes : List ℕ → Bool) (texts : List Pair)
    → list_any (term_says OwnId passes) (flat_map text_terms texts) ≡ false
texts-no-own passes [] = refl
texts-no-own passes (p ∷ ps) =
    list_any-append (term_says OwnId passes) (text_terms p) _
    ∙ ap (λ b. b || list_any (term_says OwnId passes) (flat_map text_terms ps))
    (words-no-own p.0 _ _) ∙ texts-no-own _ ps

-- no link is of a kind with another number
pub links-say : (kind : Kind) (passes : List ℕ → Bool) → nat_eq (kind_number LinkId) (kind_number kind) ≡ false
    → (ids : List (List ℕ)) → list_any (term_says kind passes) (link_terms ids) ≡ false
links-say kind passes e [] = refl
links-say kind passes e (id ∷ ids) = grind (arith, links-say kind passes e ids)

-- an own id says nothing about a kind of text
own-says-text : (kind : TextKind) (passes : List ℕ → Bool) (own : Option (List ℕ))
    → list_any (term_says (Text kind) passes) (own_id_terms own) ≡ false
own-says-text = grind (arith, own-no-text)

-- about own ids it says what it is
own-says : (passes : List ℕ → Bool) (own : Option (List ℕ)) → list_any (term_says OwnId passes) (own_id_terms own)
    ≡ list_any passes (id_list own)
own-says = grind arith

-- ---- all terms of a message

-- a term passes exactly if one of the texts, the own id or a link does
pub parts-say : (kind : Kind) (passes : List ℕ → Bool) (texts : List Pair) (facts : Facts)
    → list_any (term_says kind passes) (flat_map text_terms texts ++ id_terms facts)
    ≡ (list_any (term_says kind passes) (flat_map text_terms texts) ||
    (list_any (term_says kind passes) (own_id_terms facts.own_id) || list_any (term_says kind passes)
    (link_terms facts.ids)))
parts-say = grind (arith, list_any-append, flat_map)

-- for a kind of text, the terms say what the words of the texts of this kind say
pub terms-say-words : (kind : TextKind) (passes : List ℕ → Bool) (texts : List Pair) (facts : Facts)
    → list_any (term_says (Text kind) passes) (flat_map text_terms texts ++ id_terms facts)
    ≡ list_any passes (words_of kind texts)
terms-say-words =
    grind (arith, parts-say, texts-say, own-says-text, links-say, link-no-text, or-false)

-- for own ids, the terms say what the message's own id says
pub terms-say-own : (passes : List ℕ → Bool) (texts : List Pair) (facts : Facts)
    → list_any (term_says OwnId passes) (flat_map text_terms texts ++ id_terms facts)
    ≡ list_any passes (id_list facts.own_id)
terms-say-own = grind (arith, parts-say, texts-no-own, own-says, links-say, or-false)
