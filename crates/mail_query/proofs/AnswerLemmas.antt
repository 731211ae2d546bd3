-- What is known of a call's result, if its definition gives a known value.
use Rattle.mail_query.proofs.Words.{◌≡◌, Option, Result, Ok, Err, IfOk, IfErr, IfSome, arith, Gives, if_some_map}

module _ {X Y E F : Type 0} (view : X → Y) (refusal : E → Option F) (r : Result X E) (defined : Result Y F)
    (given : Gives view refusal r defined) where
  pub if_ok : (P : Y → Type 0) → ((y : Y) → defined ≡ Ok y → P y) → IfOk r (λ x. P (view x))
  if_ok P h = grind arith

  pub if_err : (Q : F → Type 0) → ((f : F) → defined ≡ Err f → Q f) → IfErr r (λ e. IfSome (refusal e) Q)
  if_err Q h = grind (arith, if_some_map)
