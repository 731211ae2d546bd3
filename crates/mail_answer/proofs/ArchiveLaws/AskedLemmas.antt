-- Archives whose lengths are read in order agree with the index, one archive after another.
use Rattle.mail_answer.proofs.Words.{◌≡◌, ℕ, ◌+◌, ◌<◌, List, [], ◌∷◌, ◌++◌, map, length, length-take, take, take-add, drop, drop-cons, Option, IfSome, Ok, ap, ◌∙◌, arith, length-map, map-append, WasKnown, Archive, archive_at, TellLengths, indexed_lengths, Agree, Ghosts}
use Rattle.mail_answer.proofs.ArchiveLaws.KnowledgeLemmas.{some_later}

-- the length of one more archive was read
tell_more : {A : Type 0} (g : Ghosts A) (n : ℕ) (lengths : List ℕ) (l : ℕ) (old before new : A)
    → TellLengths g n lengths old before → g.measures before (n + length lengths) (Ok l) new
    → TellLengths g n (lengths ++ l ∷ []) old new
tell_more {A} g n [] l old before new e m = grind arith
tell_more {A} g n (k ∷ lengths) l old before new told m = (
  told.0,
  told.1,
  tell_more g (n + 1) lengths l _ _ _ told.2
      (grind arith),
)

map_one_more : {X : Type 0} (f : X → ℕ) (xs : List X) (n : ℕ) (x : X) (rest : List X) → drop n xs ≡ x ∷ rest
    → map f (take (n + 1) xs) ≡ map f (take n xs) ++ f x ∷ []
map_one_more {X} f xs n x rest e = ap (map f) (take-add n 1 xs ∙ ap (λ ys. take n xs ++ take 1 ys) e)
    ∙ map-append f _ _

known_more : (held : Option (List (List ℕ))) (named : List Archive) (n number : ℕ) (a : Archive) (rest : List Archive)
    → n < number → drop n named ≡ a ∷ rest
    → IfSome held (λ archives. length archives ≡ number)
    → IfSome held (λ archives. a.length ≡ length (archive_at archives n))
    → IfSome held (λ archives. map length (take n archives) ≡ indexed_lengths (take n named))
    → IfSome held (λ archives. map length (take (n + 1) archives) ≡ indexed_lengths (take (n + 1) named))
known_more = grind (arith, map_one_more, drop-cons)

-- one archive more agrees
pub agree_more : {A : Type 0} (g : Ghosts A) (named : List Archive) (n number : ℕ) (a : Archive) (rest : List Archive)
    (old before new : A) → n < number → number ≡ length named → drop n named ≡ a ∷ rest
    → WasKnown (g.held before) (g.held new) → IfSome (g.held new) (λ archives. length archives ≡ number)
    → IfSome (g.held new) (λ archives. a.length ≡ length (archive_at archives n))
    → g.measures before n (Ok a.length) new → Agree g named n old before → Agree g named (n + 1) old new
agree_more {A} g named n number a rest old before new h as_many e was count known measured so_far =
    let many : 0 + length (indexed_lengths (take n named)) ≡ n =
    omega (arith, length-map (take n named) (λ t. t.length), length-take n named, h, as_many) in
    record {
      told = grind (arith, map_one_more, tell_more);
      known = known_more _ _ n _ a _ h e count known
          (some_later _ _
          _
          was so_far.known);
    }
