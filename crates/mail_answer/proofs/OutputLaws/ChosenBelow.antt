-- Chosen numbers are numbers of messages: by a query because it is tested for each message, and with threads because of
-- their definition.
use Rattle.mail_answer.proofs.Words.{◌≡◌, ℕ, zero, suc, ◌<◌, true, List, [], ◌∷◌, length, refl, arith, eq-eqb, slice_index_or, or_left, or_right, Table, Query, is_true, chosen_numbers, facts_at, is_number_among, AreThreads, ◌++◌}
use Rattle.std.specs.List.{All}
use Rattle.mail_answer.proofs.ThreadLaws.ChosenThreads.{from_passed}

-- each element is in the list
each-among : (ns : List ℕ) (k d : ℕ) → k < length ns → is_number_among (slice_index_or ns k d) ns ≡ true
each-among [] k d below = absurd (omega arith)
each-among (n ∷ ns) zero d below = or_left _ _ (eq-eqb n n refl)
each-among (n ∷ ns) (suc k) d below = or_right _
    _
    (each-among ns k d (omega arith))

pub chosen-below : (t : Table) (q : Query) → All (λ n. n < length t.messages) (chosen_numbers t q)
chosen-below t q k d below =
    let n = slice_index_or (chosen_numbers t q) k d in
    omega (
      arith,
      (from_passed (λ n. is_true q (facts_at t n)) 0 (length t.messages) n
          (each-among _ k d below)).0,
    )

pub threads-below : (t : Table) (numbers members : List ℕ) → AreThreads t numbers members
    → All (λ n. n < length t.messages) members
threads-below t numbers members threads k d below =
    ((threads.each (slice_index_or members k d)).0 (each-among _ k d below)).0

pub is_among_after : (n : ℕ) (done numbers : List ℕ) → is_number_among n (done ++ n ∷ numbers) ≡ true
is_among_after n [] numbers = or_left _ _ (eq-eqb n n refl)
is_among_after n (m ∷ done) numbers = or_right _ _
    (is_among_after n done _)
