-- Paths of links can be joined and turned around, so a thread is the same from each of its messages.
use Rattle.mail_answer.proofs.Words.{◌≡◌, ◌∙◌, ℕ, true, ◌&&◌, List, [], ◌∷◌, ◌++◌, refl, sym, subst, arith, list_any, and_comm, LinkId, Key, Table, keys_of, is_number_among, are_linked, IsPathOfLinks, IsInThread}

-- a key has both numbers, whichever is named first
both_turned : (m n : ℕ) (ks : List Key) → list_any
    (λ (k : Key). is_number_among m k.numbers && is_number_among n k.numbers) ks
    ≡ list_any (λ (k : Key). is_number_among n k.numbers && is_number_among m k.numbers) ks
both_turned m n [] = refl
both_turned m n (k ∷ ks) = grind (arith, and_comm, both_turned m n ks)

linked_turned : (t : Table) (m n : ℕ) → are_linked t m n ≡ true → are_linked t n m ≡ true
linked_turned t m n linked = both_turned n m (keys_of LinkId t.keys) ∙ linked

pub itself : (t : Table) (n : ℕ) → IsInThread t n n
itself t n = ([], refl)

pub by_link : (t : Table) (m n : ℕ) → are_linked t m n ≡ true → IsInThread t m n
by_link t m n linked = (n ∷ [], (linked, refl))

path_joined : (t : Table) (l m n : ℕ) (front back : List ℕ) → IsPathOfLinks t l front m → IsPathOfLinks t m back n
    → IsPathOfLinks t l (front ++ back) n
path_joined t l m n [] back here rest = subst (λ k. IsPathOfLinks t k back n) (sym here) rest
path_joined t l m n (k ∷ front) back given rest = (given.0, path_joined t k m n front _ given.1 rest)

pub through : (t : Table) (l m n : ℕ) → IsInThread t l m → IsInThread t m n → IsInThread t l n
through t l m n first rest = (first.0 ++ rest.0, path_joined t l m n _ _ first.1 rest.1)

turned_path : (t : Table) (m n : ℕ) (path : List ℕ) → IsPathOfLinks t m path n → IsInThread t n m
turned_path t m n [] here = ([], sym here)
turned_path t m n (l ∷ path) given = search (arith, through, by_link, linked_turned, turned_path t l n path given.1)

pub back_again : (t : Table) (m n : ℕ) → IsInThread t m n → IsInThread t n m
back_again t m n given = turned_path t m n _ given.1
