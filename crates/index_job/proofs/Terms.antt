-- What adding terms makes of a builder's draft.
use Rattle.index_job.proofs.Words.{◌≡◌, ◌<◌, ◌≤◌, ℕ, zero, Bor, List, [], ◌∷◌, ◌++◌, length, refl, ap, ◌∙◌, sym, subst, arith, suc, drop, take, map, append_assoc, get_or, ◌+◌, Vec, BuildFault, Global, AllByRecursion, drop_more, map-append, length-map, length-take-le, LinkId, Text, TextKind, Key, Draft, with_pair, draft_with_key, IsBuildRefusal, with_terms, draft_with_terms, IsFaultOfAdding, RefusesTerms, Term, link_terms, word_terms, HasTermLength}
use Rattle.mail_index.specs.declared.kind.Kind.{Kind}
use Rattle.mail_index.specs.Builders.{HasPair}
use Rattle.mail_index.proofs.BuildLaws.HadPairs.{with_pair-had}

-- ---- keys only become more

pub with_pair-more : (kind : Kind) (text : List ℕ) (n : ℕ) (ks : List Key)
    → length ks ≤ length (with_pair kind text n ks)
with_pair-more _ _ n [] = omega arith
with_pair-more kind text n (k ∷ ks) = grind (arith, with_pair-more kind text n ks)

pub with_terms-more : (n : ℕ) (ts : List Term) (ks : List Key) → length ks ≤ length (with_terms n ts ks)
with_terms-more n [] _ = omega arith
with_terms-more n (t ∷ ts) ks = grind (arith, with_pair-more, with_terms-more n ts (with_pair t.0 t.1 n ks))

pub with_terms-append : (n : ℕ) (ts us : List Term) (ks : List Key) → with_terms n (ts ++ us) ks
    ≡ with_terms n us (with_terms n ts ks)
with_terms-append n [] _ _ = refl
with_terms-append n (t ∷ ts) us ks = with_terms-append n ts us (with_pair t.0 t.1 n ks)

-- ---- one call

-- a term is refused
pub add-fails : (kind : Kind) (text : List ℕ) (ts : List Term) (old : Draft) (fault : BuildFault)
    → IsBuildRefusal (length (draft_with_key kind text old).table.keys) old fault
    → IsFaultOfAdding (draft_with_terms ((kind, text) ∷ ts) old) fault
add-fails _ _ _ _ _ h = grind (arith, with_terms-more)

-- the next of the ids that are left
pub next-link : (ids : List (Vec ℕ Global)) (i : ℕ) (v : Vec ℕ Global) (id : List ℕ) → (i < length ids)
    × (v ≡ get_or ids i v) → id ≡ v.items
    → link_terms (map (λ id. id.items) (drop i ids))
    ≡ (LinkId, id) ∷ link_terms (map (λ id. id.items) (drop (i + 1) ids))
next-link _ i v _ here same = grind (arith, drop_more)

-- ---- terms, and then others

pub joined : (ts us : List Term) (d : Draft) → draft_with_terms (ts ++ us) d
    ≡ draft_with_terms us (draft_with_terms ts d)
joined _ _ d = grind (arith, with_terms-append)

-- a draft with too many keys has too many with more terms, too
pub still-fails : (us : List Term) (d : Draft) (fault : BuildFault) → IsFaultOfAdding d fault
    → IsFaultOfAdding (draft_with_terms us d) fault
still-fails _ d _ h = grind (arith, with_terms-more)

pub fails-first : (ts us : List Term) (old : Draft) (fault : BuildFault)
    → IsFaultOfAdding (draft_with_terms ts old) fault
    → IsFaultOfAdding (draft_with_terms (ts ++ us) old) fault
fails-first ts us old fault h = subst (λ d. IsFaultOfAdding d fault) (sym (joined ts us old))
    (still-fails us (draft_with_terms ts old) _ h)

pub still-refuses : (us : List Term) (d : Draft) → RefusesTerms d → RefusesTerms (draft_with_terms us d)
still-refuses _ d h = grind (arith, with_terms-more)

-- ---- words of a batch

-- a term that the keys already have is also there after other terms
terms-had : (n : ℕ) (ts : List Term) (kind : Kind) (text : List ℕ) (ks : List Key) → with_pair kind text n ks ≡ ks
    → with_terms n (ts ++ (kind, text) ∷ []) ks ≡ with_terms n ts ks
terms-had n [] _ _ _ had = had
terms-had n (t ∷ ts) kind text ks had = terms-had n ts kind text (with_pair t.0 t.1 n ks)
    (with_pair-had n _ _ _ _ _ had)

-- a word that the message already has needn't join the batch
pub word-had : (kind : TextKind) (old : List (List ℕ)) (word : List ℕ) (d : Draft) → HasPair (Text kind) word d
    → draft_with_terms (word_terms kind (old ++ word ∷ [])) d ≡ draft_with_terms (word_terms kind old) d
word-had _ _ _ d had = grind (arith, map-append, terms-had)

-- a word joins the batch, or the batch is added first: either way, the same terms are added in the end
pub waits-next : (kind : TextKind) (old : List (List ℕ)) (word : List ℕ) (new : List (List ℕ)) (us : List Term)
    (d e : Draft)
    → draft_with_terms (word_terms kind (old ++ word ∷ [])) d ≡ draft_with_terms (word_terms kind new) e
    → draft_with_terms (word_terms kind old ++ (Text kind, word) ∷ us) d
    ≡ draft_with_terms (word_terms kind new ++ us) e
waits-next _ _ _ _ _ d e h = grind (arith, map-append, append_assoc, joined)

-- the bytes of a reference to a word
abbrev shown : Bor (List ℕ) → List ℕ
shown word = word.now

-- a word of the batch, one of the first n in an array
word-at : (words : List (Bor (List ℕ))) (n i : ℕ) (none : List ℕ) (nothing : Bor (List ℕ)) → i < n → n ≤ length words
    → get_or (map shown (take n words)) i none ≡ (get_or words i nothing).now
word-at [] n i _ _ below within = absurd (omega arith)
word-at (w ∷ ws) zero i _ _ below within = absurd (omega arith)
word-at (w ∷ ws) (suc n) zero _ _ _ _ = refl
word-at (w ∷ ws) (suc n) (suc i) none nothing below within = word-at ws n i none nothing (omega arith) (omega arith)

waiting-count : (words : List (Bor (List ℕ))) (n : ℕ) → n ≤ length words → length (map shown (take n words)) ≡ n
waiting-count words n within = length-map _ _ ∙ length-take-le n _ within

pub next-waiting : (kind : TextKind) (words : List (Bor (List ℕ))) (n i : ℕ) (nothing : Bor (List ℕ))
    (seen : List (List ℕ)) → map shown (take n words) ≡ seen → i < n → n ≤ length words
    → word_terms kind (drop i seen) ≡ (Text kind, (get_or words i nothing).now) ∷ word_terms kind (drop (i + 1) seen)
next-waiting kind words n i nothing _ is below within =
    let all = map shown (take n words) in
    subst (λ (l : List (List ℕ)). word_terms kind (drop i l)
    ≡ (Text kind, (get_or words i nothing).now) ∷ word_terms kind (drop (i + 1) l)) is
    (ap (word_terms kind) (drop_more _ i [] (omega (arith, below, waiting-count _ n within)))
    ∙ ap (λ (w : List ℕ). (Text kind, w) ∷ word_terms kind (drop (i + 1) all)) (word-at _ n i _ _ below within))

all-at : (ws : List (List ℕ)) (i : ℕ) → i < length ws → AllByRecursion HasTermLength ws → HasTermLength (get_or ws i [])
all-at [] i below all = absurd (omega arith)
all-at (w ∷ ws) zero _ all = all.0
all-at (w ∷ ws) (suc i) below all = all-at ws i (omega arith) all.1

pub waiting-length : (words : List (Bor (List ℕ))) (n i : ℕ) (nothing : Bor (List ℕ))
    → AllByRecursion HasTermLength (map shown (take n words)) → i < n → n ≤ length words
    → HasTermLength (get_or words i nothing).now
waiting-length words n i nothing all below within =
    subst HasTermLength (word-at _ n i _ _ below within) (all-at _ i (omega (arith, waiting-count)) all)

-- all words of the batch are added, and the batch has the next word
pub added-first : (kind : TextKind) (old now : List (List ℕ)) (word : List ℕ) (new : List (List ℕ)) (d e : Draft)
    → e ≡ draft_with_terms (word_terms kind old) d → now ≡ [] → new ≡ now ++ word ∷ []
    → draft_with_terms (word_terms kind (old ++ word ∷ [])) d ≡ draft_with_terms (word_terms kind new) e
added-first _ _ _ _ _ d e added none is = grind (arith, map-append, joined)
