-- The table of archives says about their messages, threads and texts what these say themselves, number by number.
use Rattle.mairix_tool.proofs.Words.{◌≡◌, ◌∙◌, ℕ, zero, suc, ◌+◌, Bool, true, false, cond, nat_eq, ◌&&◌, ◌||◌, List, [], ◌∷◌, ◌++◌, map, flat_map, length, Option, None, Some, refl, sym, ap, subst, arith, eq-eqb, append_assoc, min, list_any, range_with_len, length-map, length_push, get_or_at, fields_of, Message, text, facts_of, texts_of_message, Pair, Facts, TextKind, words, folding, Text, LinkId, kind_number, keys_of, Archive, Table, Query, is_true, Format, Raw, Excerpt, Search, IsChain, IsLedToBySome, AreThreadsOf, AreChosen, AreChosenBy, satisfying, message_text, answer_text, first_changed, stale_archive, mail_of_table, facts_at, record_at, texts_with, is_number_among, are_linked, table, entry_of_archive, with_messages, Term, text_terms, own_id_terms, link_terms, Numbered, numbered_messages, numbered_at, nobody, link_ids, share_id, mail_in, shape}
use Rattle.std.specs.List.{filter}
use Rattle.std.specs.Str.{bytes_eq}
use Rattle.mail_answer.specs.declared.format.Format.TheVariants.{Mbox}
use Rattle.index_job.specs.ArchiveTables.{Mbox as Archived}
use Rattle.index_job.proofs.SoundTables.Keys.{messages-sorted}
use Rattle.mairix_tool.proofs.TableLaws.Truth.{any-same}
use Rattle.mairix_tool.proofs.TableLaws.Terms.{term_says, parts-say}
use Rattle.mairix_tool.proofs.TableLaws.Messages.{keys-at, terms_at}
use Rattle.mairix_tool.proofs.TableLaws.Numbers.{messages-numbered, records-numbered, message_in, record_in, passes_in, AllTell, tells-from}
use Rattle.mairix_tool.proofs.TableLaws.ThreadLinks.{linked-by-texts}

-- ---- the link ids of a message are those among its terms

text-no-link : (kind : TextKind) → nat_eq (kind_number (Text kind)) (kind_number LinkId) ≡ false
text-no-link = grind arith

words-no-link : (j : TextKind) (passes : List ℕ → Bool) (ws : List (List ℕ)) (more : List Term)
    → list_any (term_says LinkId passes) (map (λ w. (Text j, folding w)) ws ++ more)
    ≡ list_any (term_says LinkId passes) more
words-no-link j passes [] more = refl
words-no-link j passes (w ∷ ws) more =
    ap (λ b. (b && passes (folding w)) || list_any (term_says LinkId passes)
    (map (λ v. (Text j, folding v)) ws ++ more)) (text-no-link j) ∙ words-no-link j _ ws _

texts-no-link : (passes : List ℕ → Bool) (texts : List Pair)
    → list_any (term_says LinkId passes) (flat_map text_terms texts) ≡ false
texts-no-link passes [] = refl
texts-no-link passes (p ∷ ps) = words-no-link p.0 passes (words p.1) _ ∙ texts-no-link _ ps

own-no-link : (passes : List ℕ → Bool) (own : Option (List ℕ)) → list_any (term_says LinkId passes) (own_id_terms own)
    ≡ false
own-no-link = grind arith

links-themselves : (passes : List ℕ → Bool) (ids : List (List ℕ)) → list_any (term_says LinkId passes) (link_terms ids)
    ≡ list_any passes ids
links-themselves passes [] = refl
links-themselves passes (id ∷ ids) = ap (λ b. passes id || b) (links-themselves _ ids)

terms-say-links : (passes : List ℕ → Bool) (texts : List Pair) (facts : Facts)
    → list_any (term_says LinkId passes) (flat_map text_terms texts ++
    (own_id_terms facts.own_id ++ link_terms facts.ids)) ≡ list_any passes facts.ids
terms-say-links passes texts facts =
    parts-say LinkId passes texts facts
    ∙ ap (λ b. b || (list_any (term_says LinkId passes) (own_id_terms facts.own_id) || list_any
    (term_says LinkId passes) (link_terms facts.ids))) (texts-no-link passes texts)
    ∙ ap (λ b. b || list_any (term_says LinkId passes) (link_terms facts.ids))
    (own-no-link _ _)
    ∙ links-themselves passes facts.ids

-- ---- what the keys say about the message of a number

no-ids : link_ids nobody.1 ≡ []
unfolding facts_of fields_of
no-ids = refl

links-at : (xs : List Numbered) (n : ℕ) (passes : List ℕ → Bool)
    → list_any (term_says LinkId passes) (terms_at n (map message_in xs))
    ≡ list_any passes (link_ids (numbered_at xs n).1)
links-at [] n passes = sym (ap (list_any passes) no-ids)
links-at (x ∷ xs) zero passes = terms-say-links passes (texts_of_message (text x.1)) (facts_of (fields_of (text x.1)))
links-at (x ∷ xs) (suc n) passes = links-at xs n passes

keys-say-links : (xs : List Numbered) (n : ℕ) (passes : List ℕ → Bool)
    → list_any passes (texts_with LinkId n (with_messages 0 (map message_in xs) []))
    ≡ list_any passes (link_ids (numbered_at xs n).1)
keys-say-links xs n passes = keys-at LinkId n passes (map message_in xs) ∙ links-at xs n passes

share-same : (xs ys us vs : List (List ℕ)) → ((p : List ℕ → Bool) → list_any p xs ≡ list_any p us)
    → ((p : List ℕ → Bool) → list_any p ys ≡ list_any p vs) → share_id xs ys ≡ share_id us vs
share-same xs ys us vs first second =
    any-same _ _ (λ id. second (bytes_eq id)) _
    ∙ first (λ id. list_any (bytes_eq id) vs)

-- the table of archives links two messages exactly if they share a link id
pub links-same : (archives : List Archived) (m n : ℕ) → are_linked (table archives) m n ≡ (mail_in archives).linked m n
links-same archives m n =
    let xs = numbered_messages 0 archives in
    ap (λ ms. list_any (λ k. is_number_among m k.numbers && is_number_among n k.numbers)
    (keys_of LinkId (with_messages 0 ms []))) (messages-numbered 0 _)
    ∙ linked-by-texts m n (with_messages 0 (map message_in xs) []) (messages-sorted 0 (map message_in xs) _ tt)
    ∙ share-same _
    _
    _ _ (keys-say-links _ m) (keys-say-links _ n)

-- ---- the messages that satisfy a query

count-same : (archives : List Archived) → length (table archives).messages ≡ length (numbered_messages 0 archives)
count-same archives = ap length (records-numbered 0 _) ∙ length-map (numbered_messages 0 archives) record_in

told-at : (test : ℕ → Bool) (q : Query) (all before xs : List Numbered) (n : ℕ) → all ≡ before ++ xs → length before ≡ n
    → AllTell test q n xs → filter test (range_with_len n (length xs))
    ≡ filter (λ i. passes_in q (numbered_at all i)) (range_with_len n (length xs))
told-at test q all before [] n whole h tells = refl
told-at test q all before (x ∷ xs) n whole h tells =
    let here = ap (λ l. numbered_at l n) whole
    ∙ get_or_at before x xs nobody n h in
    let rest = told-at _ q _ (before ++ x ∷ []) xs _ (whole ∙ sym (append_assoc before (x ∷ []) xs))
    (length_push _ x ∙ ap (λ i. i + 1) h) tells.1 in
    let agree = tells.0 ∙ sym (ap (passes_in q) here) in
    ap (λ b. cond b (n ∷ filter test (range_with_len (n + 1) (length xs)))
    (filter test (range_with_len (n + 1) (length xs)))) agree
    ∙ ap (λ l. cond (passes_in q (numbered_at all n)) (n ∷ l) l) rest

pub satisfying-same : (archives : List Archived) (q : Query) → satisfying (mail_of_table (table archives)) q
    ≡ satisfying (mail_in archives) q
satisfying-same archives q =
    let t : Table = table archives in
    let xs : List Numbered = numbered_messages 0 archives in
    ap (λ (count : ℕ). filter (λ i. is_true q (facts_at t i)) (range_with_len 0 count)) (count-same archives)
    ∙ told-at (λ i. is_true q (facts_at t i)) q xs [] xs 0 refl refl
    (tells-from q t 0 [] xs refl (records-numbered 0 archives)
    (ap (λ (ms : List Message). with_messages 0 ms []) (messages-numbered 0 archives)))

-- ---- the messages that are chosen

module _ (linked other : ℕ → ℕ → Bool) (same : (m n : ℕ) → linked m n ≡ other m n) where
  chain-same : (m n : ℕ) (path : List ℕ) → IsChain linked m path n → IsChain other m path n
  chain-same m n [] given = given
  chain-same m n (l ∷ path) given = (sym (same m l) ∙ given.0, chain-same l n path given.1)

  led-same : (numbers : List ℕ) (n : ℕ) → IsLedToBySome linked numbers n → IsLedToBySome other numbers n
  led-same numbers n given = (given.0, given.1, (given.2.0, chain-same _ n _ given.2.1))

threads-same : (linked other : ℕ → ℕ → Bool) → ((m n : ℕ) → linked m n ≡ other m n)
    → (count : ℕ) (numbers members : List ℕ) → AreThreadsOf count linked numbers members
    → AreThreadsOf count other numbers members
threads-same linked other same count numbers members are = record {
  rises = are.rises;
  each = λ n. (
    λ among. let inside = (are.each n).0 among
        in (inside.0, led-same _ _ same _ n inside.1),
    λ given. (are.each n).1
        (given.0, led-same _ _ (λ m k. sym (same m k)) _ n given.1),
  );
}

chosen-by : (threads : Bool) (q : Query) (archives : List Archived) (numbers : List ℕ)
    → AreChosenBy threads (mail_of_table (table archives)) q numbers → AreChosenBy threads (mail_in archives) q numbers
chosen-by false q archives numbers are = are ∙ satisfying-same _ q
chosen-by true q archives numbers are =
    subst (λ ns. AreThreadsOf (mail_in archives).count (mail_in archives).linked ns numbers)
    (satisfying-same _ q)
    (threads-same _ _ (links-same _) _
    _ _
    (subst (λ count. AreThreadsOf count (are_linked (table archives))
    (satisfying (mail_of_table (table archives)) q)
    numbers) (count-same _) are))

chosen-back-by : (threads : Bool) (q : Query) (archives : List Archived) (numbers : List ℕ)
    → AreChosenBy threads (mail_in archives) q numbers → AreChosenBy threads (mail_of_table (table archives)) q numbers
chosen-back-by false q archives numbers are = are ∙ sym (satisfying-same _ q)
chosen-back-by true q archives numbers are =
    subst (λ count. AreThreadsOf count (are_linked (table archives))
    (satisfying (mail_of_table (table archives)) q)
    numbers) (sym (count-same _))
    (threads-same _ _ (λ m n. sym (links-same _ m n))
    _ _ _
    (subst (λ ns. AreThreadsOf (mail_in archives).count (mail_in archives).linked ns numbers)
    (sym (satisfying-same _ q)) are))

pub chosen-back : (archives : List Archived) (s : Search) (numbers : List ℕ) → AreChosen (mail_in archives) s numbers
    → AreChosen (mail_of_table (table archives)) s numbers
chosen-back archives s numbers are = chosen-back-by _ _ _ _ are

pub chosen-same : (archives : List Archived) (s : Search) (numbers : List ℕ)
    → AreChosen (mail_of_table (table archives)) s numbers → AreChosen (mail_in archives) s numbers
chosen-same archives s numbers are = chosen-by _ _ _ _ are

-- ---- how the messages are written

shown-at : (format : Format) (named : List Archive) (held : List (List ℕ)) (xs : List Numbered) (n : ℕ)
    → message_text format named held (record_at (map record_in xs) n)
    ≡ message_text format named held (record_in (numbered_at xs n))
shown-at Raw named held [] n = refl
shown-at Excerpt named held [] n = refl
shown-at Mbox named held [] n = refl
shown-at format named held (x ∷ xs) zero = refl
shown-at format named held (x ∷ xs) (suc n) = shown-at format _ _ xs n

all-shown : (f g : ℕ → List ℕ) → ((n : ℕ) → f n ≡ g n) → (ns : List ℕ) → flat_map f ns ≡ flat_map g ns
all-shown f g same [] = refl
all-shown f g same (n ∷ ns) = ap (λ l. l ++ flat_map f ns) (same n)
    ∙ ap (λ l. g n ++ l) (all-shown f g same ns)

pub shape-same : (archives : List Archived) (format : Format) (numbers : List ℕ)
    → answer_text format (table archives) (map (λ (a : Archived). a.bytes) archives) numbers
    ≡ shape archives format numbers
shape-same archives format numbers =
    all-shown _
    _
    (λ n. ap (λ rs. message_text format (map entry_of_archive archives)
    (map (λ a. a.bytes) archives) (record_at rs n)) (records-numbered 0 _)
    ∙ shown-at _ _ _
    _
    n)
    _

-- ---- archives that are as they were indexed

none-changed : (n : ℕ) (archives : List Archived)
    → first_changed n (map entry_of_archive archives) (map (λ (a : Archived). a.bytes) archives) ≡ None
none-changed n [] = refl
none-changed n (a ∷ archives) =
    ap (λ b. cond b (first_changed (n + 1) (map entry_of_archive archives)
    (map (λ x. x.bytes) archives))
    (Some n)) (eq-eqb (length a.bytes) (length a.bytes) refl) ∙ none-changed (n + 1) archives

pub not-stale : (archives : List Archived)
    → stale_archive (table archives).archives (map (λ (a : Archived). a.bytes) archives) ≡ None
not-stale archives =
    let many =
    length-map archives (λ a. a.bytes) ∙ sym (length-map archives entry_of_archive) in
    ap (λ b. cond b (first_changed 0 (map entry_of_archive archives)
    (map (λ a. a.bytes) archives))
    (Some (min (length (map (λ a. a.bytes) archives)) (length (map entry_of_archive archives)))))
    (eq-eqb _ _ many) ∙ none-changed 0 archives
