-- Archives that are passed one after another are those of the index, in order.
use Rattle.mail_answer.proofs.Words.{◌≡◌, ℕ, zero, suc, ◌+◌, List, [], ◌∷◌, drop, ap, arith, Archive, ArePassed, path_at}
use Rattle.mail_answer.proofs.ArchiveLaws.StaleLemmas.{next_named}

next_path : (archives : List Archive) (n : ℕ) (a : Archive) (rest : List Archive) → drop n archives ≡ a ∷ rest
    → path_at archives n ≡ a.path
next_path [] zero a rest e = absurd cc
next_path [] (suc n) a rest e = absurd cc
next_path (b ∷ archives) zero a rest e = let first : b ≡ a = cc in ap (λ t. t.path) first
next_path (b ∷ archives) (suc n) a rest e = next_path archives n a _ e

-- one more archive was passed
pub passed_more : (archives : List Archive) (passed : ℕ) (rest : List Archive) (last : List ℕ) (a : Archive)
    (after : List Archive) → ArePassed archives passed rest last → rest ≡ a ∷ after
    → ArePassed archives (passed + 1) after a.path
passed_more = grind (arith, next_named, next_path)
