-- Every table has exactly one answer to each search, because its threads and its texts are determined.
use Rattle.mail_answer.proofs.Words.{◌≡◌, ◌∙◌, ℕ, Bool, true, false, List, length, Option, refl, sym, ap, LinkId, Table, keys_of, Query, Search, AreChosenBy, satisfying, mail_of_table, TableAnswer, IsTableAnswer, answer_of_numbers}
use Rattle.mail_answer.proofs.ThreadLaws.EveryThread.{threads_by_keys}
use Rattle.mail_answer.proofs.ThreadLaws.OneThreadList.{one_thread_list}

pub some-chosen : (t : Table) (threads : Bool) (q : Query) → (numbers : List ℕ)
    × AreChosenBy threads (mail_of_table t) q numbers
some-chosen t false q = (satisfying (mail_of_table t) q, refl)
some-chosen t true q = (_, threads_by_keys (keys_of LinkId t.keys) (length t.messages) (satisfying (mail_of_table t) q))

pub some-answer : (t : Table) (s : Search) (held : Option (List (List ℕ))) → (a : TableAnswer)
    × IsTableAnswer t s held a
some-answer t s held = let some = some-chosen t _ _
    in (answer_of_numbers t s held some.0, (some.0, some.1, refl))

pub one-choice : (t : Table) (threads : Bool) (q : Query) (xs ys : List ℕ) → AreChosenBy threads (mail_of_table t) q xs
    → AreChosenBy threads (mail_of_table t) q ys → xs ≡ ys
one-choice t false q xs ys first second = first ∙ sym second
one-choice t true q xs ys first second = one_thread_list t _ _ _ first second

pub one-answer : (t : Table) (s : Search) (held : Option (List (List ℕ))) (a b : TableAnswer) → IsTableAnswer t s held a
    → IsTableAnswer t s held b → a ≡ b
one-answer t s held a b (xs, first, is) (ys, second, other) = is
    ∙ ap (answer_of_numbers t s held) (one-choice t _ _ _ _ first second) ∙ sym other
