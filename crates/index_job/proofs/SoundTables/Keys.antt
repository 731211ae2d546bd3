-- The keys of archives are those of a well-formed table.
use Rattle.index_job.proofs.Words.{ℕ, suc, ◌+◌, ◌<◌, ◌≤◌, ◌++◌, List, [], ◌∷◌, length, map, flat_map, Option, IfSome, arith, AllByRecursion, TextKind, folding, Text, Key, IsKey, KeyBefore, AllNext, newest, Message, text, Pair, with_terms, with_messages, Term, text_terms, own_id_terms, link_terms, message_terms}
use Rattle.mail_index.proofs.BuildLaws.DraftLemmas.{with_pair-listed}
use Rattle.mail_index.proofs.BuildLaws.KeyPlaces.{with_pair-sorted}
use Rattle.index_job.proofs.SoundTables.Folds.{IsKeyText, words-fold}
use Rattle.index_job.proofs.SoundTables.Ids.{own-id-sized, links-sized}

-- ---- the terms of a message

abbrev IsKeyTerm : Term → Type 0
IsKeyTerm t = IsKeyText t.1

joined-terms : (ts us : List Term) → AllByRecursion IsKeyTerm ts → AllByRecursion IsKeyTerm us
    → AllByRecursion IsKeyTerm (ts ++ us)
joined-terms [] _ _ there = there
joined-terms (t ∷ ts) us here there = (here.0, joined-terms ts us here.1 there)

terms-of-words : (kind : TextKind) (ws : List (List ℕ)) → AllByRecursion (λ w. IsKeyText (folding w)) ws
    → AllByRecursion IsKeyTerm (map (λ w. let t : Term = (Text kind, folding w) in t) ws)
terms-of-words _ [] _ = tt
terms-of-words kind (w ∷ ws) all = (all.0, terms-of-words kind ws all.1)

terms-of-texts : (ps : List Pair) → AllByRecursion IsKeyTerm (flat_map text_terms ps)
terms-of-texts [] = tt
terms-of-texts (p ∷ ps) = joined-terms _ _ (terms-of-words _ _ (words-fold _)) (terms-of-texts ps)

own-term : (own : Option (List ℕ)) → IfSome own IsKeyText → AllByRecursion IsKeyTerm (own_id_terms own)
own-term _ h = grind arith

links-terms : (ids : List (List ℕ)) → AllByRecursion IsKeyText ids → AllByRecursion IsKeyTerm (link_terms ids)
links-terms [] _ = tt
links-terms (id ∷ ids) all = (all.0, links-terms ids all.1)

message-terms : (ls : List (List ℕ)) → AllByRecursion IsKeyTerm (message_terms ls)
message-terms _ = grind (
  arith,
  joined-terms,
  flat_map,
  terms-of-texts,
  own-term,
  own-id-sized,
  links-terms,
  links-sized,
)

-- ---- the keys

terms-listed : (count n : ℕ) → n < count → (ts : List Term) → AllByRecursion IsKeyTerm ts → (ks : List Key)
    → AllByRecursion (IsKey newest count) ks → AllByRecursion (IsKey newest count) (with_terms n ts ks)
terms-listed _ n _ [] _ _ listed = listed
terms-listed count n below (t ∷ ts) sized ks listed = grind (
  arith,
  with_pair-listed,
  terms-listed count n below ts sized.1 _ (with_pair-listed count n t.0 _ sized.0.0 sized.0.1 below _ listed),
)

pub messages-listed : (count n : ℕ) (ms : List Message) → n + length ms ≤ count → (ks : List Key)
    → AllByRecursion (IsKey newest count) ks → AllByRecursion (IsKey newest count) (with_messages n ms ks)
messages-listed count n [] within ks listed = listed
messages-listed count n (m ∷ ms) within ks listed =
    grind (
      arith,
      terms-listed,
      message-terms,
      messages-listed count (suc n) ms (omega (arith, within)) _
          (terms-listed count n (omega (arith, within)) (message_terms (text m)) (message-terms (text m)) ks listed),
    )

pub terms-sorted : (n : ℕ) (ts : List Term) (ks : List Key) → AllNext KeyBefore ks
    → AllNext KeyBefore (with_terms n ts ks)
terms-sorted n [] _ sorted = sorted
terms-sorted n (t ∷ ts) ks sorted = terms-sorted n ts _ (with_pair-sorted _ _ n _ sorted)

pub messages-sorted : (n : ℕ) (ms : List Message) (ks : List Key) → AllNext KeyBefore ks
    → AllNext KeyBefore (with_messages n ms ks)
messages-sorted n [] _ sorted = sorted
messages-sorted n (m ∷ ms) ks sorted = messages-sorted (suc n) ms _ (terms-sorted n (message_terms (text m)) _ sorted)
