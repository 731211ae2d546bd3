-- The truths of the members of a query, number by number and member by member.
use Rattle.mail_answer.proofs.Words.{◌≡◌, ◌+◌, ◌<◌, ◌≤◌, ℕ, zero, suc, Bool, List, [], ◌∷◌, length, drop, get_or, refl, ap, arith, filter, range_with_len, drop_more, drop_all, length-map-range_with_len, get_or-map-range_with_len, Table, Node, Query, query_of, queries_of, is_true, facts_at, truths, truth_at}

-- the truth in the list is that of the query for the message
pub truths_at : (t : Table) (q : Query) (n : ℕ) → n < length t.messages → truth_at (truths t q) n
    ≡ is_true q (facts_at t n)
truths_at t q n lt = get_or-map-range_with_len _ 0 _ n n _ lt
    (omega arith)

pub truths_long : (t : Table) (q : Query) → length (truths t q) ≡ length t.messages
truths_long t q = length-map-range_with_len _ 0 _

-- the next member, and those after it
pub next_member : (nodes : List Node) (i : ℕ) (x : Node) → i < length nodes → x ≡ get_or nodes i x
    → queries_of (drop i nodes) ≡ query_of x ∷ queries_of (drop (i + 1) nodes)
next_member = grind (arith, drop_more)

pub no_member : (nodes : List Node) (i : ℕ) → length nodes ≤ i → queries_of (drop i nodes) ≡ []
no_member nodes i past = ap queries_of (drop_all i _ past)

-- ---- the numbers of the messages that are true

filter_same : (f g : ℕ → Bool) (a n : ℕ) → ((k : ℕ) → k < a + n → f k ≡ g k) → filter f (range_with_len a n)
    ≡ filter g (range_with_len a n)
filter_same f g a zero same = refl
filter_same f g a (suc n) same = grind (arith, filter_same f g (a + 1) n)
