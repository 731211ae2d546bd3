-- What is known after some calls was known before them. So what held of the known bytes then still holds.
use Rattle.mail_answer.proofs.Words.{◌≡◌, ℕ, List, ◌++◌, Option, None, Some, IfSome, refl, subst, option_map, WasKnown, Raw, Excerpt, Mbox, Table, Reading, bytes_left, known_answer, joined_texts, IsInsideArchive}
use Rattle.mail_answer.specs.declared.format.Format.{Format}

-- what holds of what was known, and of nothing, holds of what is still known
pub known_later : {X : Type 0} (P : Option X → Type 0) (old new : Option X) → WasKnown old new → P None → P old → P new
known_later {X} P old None was nothing holds = nothing
known_later {X} P old (Some x) was nothing holds = subst P was holds

pub some_later : {X : Type 0} (P : X → Type 0) (old new : Option X) → WasKnown old new → IfSome old P → IfSome new P
some_later {X} P old new was holds = known_later (λ known. IfSome known P) _ _ was tt holds

pub was_known_self : {X : Type 0} (known : Option X) → WasKnown known known
was_known_self None = tt
was_known_self (Some x) = refl

pub was_known_join : {X : Type 0} (a b c : Option X) → WasKnown a b → WasKnown b c → WasKnown a c
was_known_join {X} a b c first second = known_later (λ known. WasKnown a known) b c second tt first

-- a part is still within its archive
pub inside_later : (old new : Option (List (List ℕ))) (number : ℕ) (r : Reading) → WasKnown old new
    → IsInsideArchive number old r → IsInsideArchive number new r
inside_later old new number r was inside =
    let unknown : IsInsideArchive number None r = record { exists = inside.exists; fits = inside.fits; within = tt } in
    known_later (λ held. IsInsideArchive number held r) _ _ was unknown inside

-- what was copied of a part and what comes are still the whole part
pub copied_later : (old new : Option (List (List ℕ))) (whole part : Reading) (text : List ℕ) → WasKnown old new
    → bytes_left old whole ≡ option_map (λ bytes. text ++ bytes) (bytes_left old part)
    → bytes_left new whole ≡ option_map (λ bytes. text ++ bytes) (bytes_left new part)
copied_later old new whole part text was is =
    known_later (λ held. bytes_left held whole ≡ option_map (λ bytes. text ++ bytes) (bytes_left held part))
    _ _ was refl is

-- what was added to an answer and what comes are still all of it
pub answer_later : (format : Format) (t : Table) (old new : Option (List (List ℕ))) (all rest : List ℕ)
    (known : Option (List ℕ)) → WasKnown old new
    → known_answer format t old all ≡ joined_texts known (known_answer format t old rest)
    → known_answer format t new all ≡ joined_texts known (known_answer format t new rest)
answer_later Raw t old new all rest known was is = is
answer_later Excerpt t old new all rest None was is =
    known_later (λ held. known_answer Excerpt t held all ≡ joined_texts None (known_answer Excerpt t held rest))
    _ _ was refl is
answer_later Excerpt t old new all rest (Some text) was is =
    known_later (λ held. known_answer Excerpt t held all ≡ joined_texts (Some text) (known_answer Excerpt t held rest))
    _ _ was refl is
answer_later Mbox t old new all rest None was is =
    known_later (λ held. known_answer Mbox t held all ≡ joined_texts None (known_answer Mbox t held rest))
    _ _ was refl is
answer_later Mbox t old new all rest (Some text) was is =
    known_later (λ held. known_answer Mbox t held all ≡ joined_texts (Some text) (known_answer Mbox t held rest))
    _ _ was refl is
