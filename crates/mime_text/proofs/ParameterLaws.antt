-- The parameters of a value are those of its pieces, and no other list is.
use Rattle.mime_text.proofs.Words.{◌≡◌, ◌≤◌, ℕ, zero, suc, List, [], ◌∷◌, Option, Some, None, length, refl, arith, Parameter, piece_of, AreParameters, none_left, piece_first, parameters_after}
use Rattle.mime_text.proofs.ParameterLemmas.{after-step, later-shorter}

pub only_parameters : (begin : Option (List ℕ)) (ps : List Parameter) → AreParameters begin ps → ps
    ≡ parameters_after begin
only_parameters None ps none_left = refl
only_parameters (Some bs) ps (piece_first {later = later} rest) =
    grind (arith, after-step, only_parameters (piece_of bs).later later rest)

first_piece : (bs : List ℕ) → AreParameters (piece_of bs).later (parameters_after (piece_of bs).later)
    → AreParameters (Some bs) (parameters_after (Some bs))
first_piece bs later = grind (arith, after-step, piece_first)

no_bytes : AreParameters (piece_of []).later (parameters_after (piece_of []).later)
unfolding piece_of
no_bytes = none_left

within_bytes : (n : ℕ) (bs : List ℕ) → length bs ≤ n → AreParameters (Some bs) (parameters_after (Some bs))
within_bytes n [] few = first_piece [] no_bytes
within_bytes zero (b ∷ bs) few = absurd (omega arith)
within_bytes (suc n) (b ∷ bs) few = first_piece (b ∷ bs) (go (piece_of (b ∷ bs)).later refl (within_bytes n))
  where
    go : (o : Option (List ℕ)) → (piece_of (b ∷ bs)).later ≡ o
        → ((rest : List ℕ) → length rest ≤ n → AreParameters (Some rest) (parameters_after (Some rest)))
        → AreParameters o (parameters_after o)
    go None e later = none_left
    go (Some rest) e later = let less = later-shorter (b ∷ bs) rest e in later rest (omega (arith, less))

pub are_parameters : (begin : Option (List ℕ)) → AreParameters begin (parameters_after begin)
are_parameters begin = grind (arith, none_left, within_bytes)
