-- The table of archives and the messages themselves give the same numbers for a query, message by message.
use Rattle.mairix_tool.proofs.Words.{◌≡◌, ◌∙◌, ℕ, suc, ◌+◌, Bool, List, [], ◌∷◌, ◌++◌, length, map, refl, sym, ap, append_assoc, list_any, map-append, length-map, length_push, get_or_at, fields_of, Message, text, Text, OwnId, Record, Table, texts_with, facts_at, record_at, no_record, Query, is_true, facts_of, texts_of_message, Mbox, messages_in, all_messages, record_of, records_from, with_messages, Numbered, numbered_messages, facts_of_message}
use Rattle.mairix_tool.proofs.TableLaws.Truth.{SaysTheSame, truth-same}
use Rattle.mairix_tool.proofs.TableLaws.Terms.{terms-say-words, terms-say-own}
use Rattle.mairix_tool.proofs.TableLaws.Messages.{keys-say}

-- the message, its record, and whether it satisfies the query
abbrev pub message_in : Numbered → Message
message_in x = x.1

abbrev pub record_in : Numbered → Record
record_in x = record_of x.0 x.1

abbrev pub passes_in : Query → Numbered → Bool
passes_in q x = is_true q (facts_of_message x.1)

-- ---- the archives as their numbered messages

-- all messages are the numbered ones
pub messages-numbered : (n : ℕ) (archives : List Mbox) → all_messages archives
    ≡ map message_in (numbered_messages n archives)
messages-numbered n [] = refl
messages-numbered n (a ∷ archives) =
    ap (λ ms. messages_in a.bytes ++ ms) (messages-numbered (suc n) archives)
    ∙ ap (λ ms. ms ++ map message_in (numbered_messages (suc n) archives))
    (alone _)
    ∙ sym (map-append _ _ _)
  where
    alone : (ms : List Message) → ms ≡ map message_in (map (λ (m : Message). (n, m)) ms)
    alone [] = refl
    alone (m ∷ ms) = ap (λ rest. m ∷ rest) (alone ms)

-- the records are those of the numbered messages
pub records-numbered : (n : ℕ) (archives : List Mbox) → records_from n archives
    ≡ map record_in (numbered_messages n archives)
records-numbered n [] = refl
records-numbered n (a ∷ archives) =
    ap (λ rs. map (record_of n) (messages_in a.bytes) ++ rs) (records-numbered _ archives)
    ∙ ap (λ rs. rs ++ map record_in (numbered_messages (suc n) archives)) (alone _)
    ∙ sym (map-append _ _ _)
  where
    alone : (ms : List Message) → map (record_of n) ms ≡ map record_in (map (λ (m : Message). (n, m)) ms)
    alone [] = refl
    alone (m ∷ ms) = ap (λ rest. record_of n m ∷ rest) (alone ms)

-- ---- numbers one after another

-- each number from this one on passes exactly if its message satisfies the query
abbrev pub AllTell : (ℕ → Bool) → Query → ℕ → List Numbered → Type 0
AllTell test q n [] = Unit {0}
AllTell test q n (x ∷ xs) = (test n ≡ passes_in q x) × AllTell test q (n + 1) xs

-- ---- the table

-- a table with the keys of these messages says about one of them what it says itself, if its record is at its number
facts-told : (t : Table) (n archive : ℕ) (before : List Message) (x : Message) (after : List Message) → length before
    ≡ n
    → t.keys ≡ with_messages 0 (before ++ x ∷ after) [] → record_at t.messages n ≡ record_of archive x
    → SaysTheSame (facts_at t n) (facts_of_message x)
facts-told t n archive before x after h keys known = record {
  words = λ kind passes.
      ap (λ ks. list_any passes (texts_with (Text kind) n ks)) keys
      ∙ keys-say (Text kind) n passes _ x _ h
      ∙ terms-say-words kind passes (texts_of_message (text x)) (facts_of (fields_of (text x)));
  own_ids = λ passes.
      ap (λ ks. list_any passes (texts_with OwnId n ks)) keys ∙ keys-say OwnId n passes _ x _ h
      ∙ terms-say-own passes (texts_of_message (text x)) (facts_of (fields_of (text x)));
  date = ap (λ r. r.date) known;
  size = ap (λ r. r.size) known;
  flags = ap (λ r. r.flags) known;
}

-- from here on, the numbers of a table pass exactly if the messages satisfy the query
pub tells-from : (q : Query) (t : Table) (n : ℕ) (before rest : List Numbered) → length before ≡ n
    → t.messages ≡ map record_in (before ++ rest) → t.keys ≡ with_messages 0 (map message_in (before ++ rest)) []
    → AllTell (λ i. is_true q (facts_at t i)) q n rest
tells-from q t n before [] h records keys = tt
tells-from q t n before (x ∷ rest) h records keys =
    let known : record_at t.messages n ≡ record_in x =
    ap (λ (rs : List Record). record_at rs n) (records ∙ map-append record_in before (x ∷ rest))
    ∙ get_or_at (map record_in before) (record_in x) (map record_in rest) no_record n (length-map before record_in ∙ h)
    in
    let keys-here : t.keys ≡ with_messages 0 (map message_in before ++ message_in x ∷ map message_in rest) [] =
    keys ∙ ap (λ (ms : List Message). with_messages 0 ms []) (map-append message_in before (x ∷ rest)) in
    let regrouped : before ++ x ∷ rest ≡ (before ++ x ∷ []) ++ rest = sym (append_assoc before (x ∷ []) rest) in (
      truth-same q (facts_at t n) (facts_of_message (message_in x))
          (facts-told t n x.0 (map message_in before) (message_in x) (map message_in rest)
          (length-map before message_in ∙ h) keys-here known),
      tells-from q t (n + 1) (before ++ x ∷ []) rest (length_push before x ∙ ap (λ (i : ℕ). i + 1) h)
          (records ∙ ap (map record_in) regrouped)
          (keys ∙ ap (λ (xs : List Numbered). with_messages 0 (map message_in xs) []) regrouped),
    )
