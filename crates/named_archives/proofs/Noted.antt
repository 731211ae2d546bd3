-- What is noted of the states in which files were found, of one more file and of all.
use Rattle.std.proofs.Common.{◌≡◌, ◌∙◌, ◌<◌, ℕ, zero, suc, List, [], ◌∷◌, ◌++◌, All, Option, None, Some, map, reverse, slice_get, refl, sym, ap, subst, arith}
use Rattle.std.proofs.lemmas.List.{append-nil, append_assoc, map_push, reverse-append}
use Rattle.std.proofs.lemmas.List.Elements.{All-append, All-cons, All-head, All-nil, All-tail}
use Rattle.std.specs.List.{Contains}
use Rattle.std.specs.Option.{ForSome}
use Rattle.named_archives.specs.States.{noted_states, noted_files, IsInOneOf}

-- one more state is noted
pub noted-more : {S : Type 0} (states : List S) (state : S)
    → noted_states (states ++ state ∷ []) ≡ Some state ∷ noted_states states
noted-more states state =
    ap reverse (map_push Some states state) ∙ reverse-append (map Some states) (Some state ∷ [])

-- that of one more file is noted, if it was opened
pub noted-push : {F S : Type 0} (found : F → Option S) (files : List (Option F)) (file : Option F)
    → noted_files found (files ++ file ∷ []) ≡ noted_files found (file ∷ []) ++ noted_files found files
noted-push found [] file = sym (append-nil (noted_files found (file ∷ [])))
noted-push found (None ∷ files) file = noted-push found files file
noted-push found (Some x ∷ files) file =
    ap (λ l. l ++ found x ∷ []) (noted-push found files file)
    ∙ append_assoc (noted_files found (file ∷ [])) (noted_files found files) (found x ∷ [])

-- each that is noted passes if that of each file does
pub noted-passing : {F S : Type 0} (found : F → Option S) (P : Option S → Type 0) (files : List (Option F))
    → All (λ file. ForSome file (λ x. P (found x))) files → All P (noted_files found files)
noted-passing found P [] h = All-nil P
noted-passing found P (None ∷ files) h =
    noted-passing found P files (All-tail (λ file. ForSome file (λ x. P (found x))) None files h)
noted-passing found P (Some y ∷ files) h =
    All-append P (noted_files found files) (found y ∷ [])
    (noted-passing found P files (All-tail (λ file. ForSome file (λ x. P (found x))) (Some y) files h))
    (All-cons P (found y) [] (All-head (λ file. ForSome file (λ x. P (found x))) (Some y) files h y refl) (All-nil P))

-- a state with a number is one of all
pub contained-at : {S : Type 0} (states : List S) (n : ℕ) (state : S) → slice_get states n ≡ Some state
    → Contains states state
contained-at [] n state is = absurd cc
contained-at (x ∷ states) zero state is = (0, omega arith, grind arith)
contained-at (x ∷ states) (suc n) state is =
    let c = contained-at states n state is in (suc c.0, omega (arith, c.1), c.2)

-- a file that was found in one of the states
pub in-one-of : {S : Type 0} (states : List S) (found : Option S) (state : S) → found ≡ Some state
    → Contains states state → IsInOneOf states found
in-one-of states found state is among = subst (IsInOneOf states) (sym is) ∣ among ∣₁
