-- Trees that are joined by all link ids are threads, because a path of links never leaves a tree.
use Rattle.mail_answer.proofs.Words.{◌≡◌, ◌∙◌, ◌<◌, ℕ, true, ◌&&◌, List, [], ◌∷◌, ◌++◌, length, map, take, take_all, take-append-le, get_or, refl, sym, ap, subst, arith, AllByRecursion, list_any, range_with_len, get_or-range_with_len, length-range_with_len, LinkId, Table, Key, IsKey, IsWellFormed, keys_of, text_and_numbers, is_number_among, are_linked, IsPathOfLinks, IsInThread, LeadsBack, StaysInThreads, LabelsTrees, Shortens, Unites, ShareKey, AreThreadRoots}
use Rattle.mail_answer.proofs.ThreadLaws.ThreadLemmas.{itself, by_link, through, back_again}

-- ---- single messages, and the keys of an index

at_single : (p : List ℕ) (count n : ℕ) → p ≡ range_with_len 0 count → n < length p → get_or p n 0 ≡ n
at_single = grind (arith, length-range_with_len, get_or-range_with_len)

pub single_back : (p : List ℕ) (count : ℕ) → p ≡ range_with_len 0 count → LeadsBack p
single_back = grind (arith, at_single)

keys_below : (version count : ℕ) (ks : List Key) → AllByRecursion (IsKey version count) ks
    → AllByRecursion (λ (k : List ℕ × List ℕ). AllByRecursion (λ n. n < count) k.1)
    (map text_and_numbers (keys_of LinkId ks))
keys_below version count [] all = tt
keys_below version count (k ∷ ks) all = grind (arith, keys_below _ _ ks all.1)

pub link_keys_below : (t : Table) (p : List ℕ) → IsWellFormed t → p ≡ range_with_len 0 (length t.messages)
    → AllByRecursion (λ (k : List ℕ × List ℕ). AllByRecursion (λ n. n < length p) k.1)
    (map text_and_numbers (keys_of LinkId t.keys))
link_keys_below t p given single =
    subst (λ count. AllByRecursion (λ k. AllByRecursion (λ n. n < count) k.1)
    (map text_and_numbers (keys_of LinkId t.keys)))
    (sym (ap length single ∙ length-range_with_len 0 _))
    (keys_below _ _ _ given.keys)

share_is_link : (m n : ℕ) (ks : List Key)
    → list_any (λ (k : List ℕ × List ℕ). is_number_among m k.1 && is_number_among n k.1) (map text_and_numbers ks)
    ≡ list_any (λ (k : Key). is_number_among m k.numbers && is_number_among n k.numbers) ks
share_is_link m n [] = refl
share_is_link m n (k ∷ ks) = grind (arith, share_is_link m n ks)

-- ---- trees that are joined by all link ids are threads

along : (t : Table) (label : ℕ → ℕ) → ((m n : ℕ) → are_linked t m n ≡ true → label m ≡ label n)
    → (m n : ℕ) (path : List ℕ) → IsPathOfLinks t m path n → label m ≡ label n
along t label links m n [] here = ap label here
along t label links m n (l ∷ path) given = links m l given.0 ∙ along t _ links l n path given.1

pub threads_told : (t : Table) (p q r : List ℕ) → p ≡ range_with_len 0 (length t.messages)
    → Unites (ShareKey (map text_and_numbers (keys_of LinkId t.keys))) p q → Shortens q r
    → ((n : ℕ) → n < length q → get_or r (get_or r n 0) 0 ≡ get_or r n 0) → AreThreadRoots t r
threads_told t p q r single joins short flat = record {
  long = long;
  back = grind (arith, single_back);
  same = λ m n m_within n_within. (
    λ same.
        through t m _ n (subst (IsInThread t m) same (stays m (omega (arith, long, m_within))))
        (back_again t n _ (stays n (omega (arith, long, n_within)))),
    λ path. along t _ linked m n _ path.1,
  );
}
  where
    root : ℕ → ℕ
    root n = get_or r n 0

    first_long : length p ≡ length t.messages
    first_long = ap length single ∙ length-range_with_len 0 _

    long : length r ≡ length t.messages
    long = short.long ∙ joins.long ∙ first_long

    stays : StaysInThreads t r
    stays = short.threads t (joins.threads t
        (λ m n share. by_link t m n (grind (arith, share_is_link)))
        (λ n lt. subst (IsInThread t n) (sym (at_single p _ n single lt)) (itself t n)))

    labels : LabelsTrees root r
    labels = λ n lt. flat n (omega (arith, lt, short.long))

    linked : (m n : ℕ) → are_linked t m n ≡ true → root m ≡ root n
    linked m n link = joins.united m n (share_is_link m n (keys_of LinkId t.keys) ∙ link) root
        (short.labels root labels)

-- new elements that were written over as many first ones
pub written_over : (count : ℕ) (new rest : List ℕ) → length new ≡ count → take count (new ++ rest) ≡ new
written_over count new rest long = take-append-le count new rest (omega (arith, long))
    ∙ take_all count new (omega (arith, long))
