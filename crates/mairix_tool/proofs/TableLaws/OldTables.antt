-- A table without digests answers as the whole table; so does that of version 1 if the query uses no names of
-- attachments.
use Rattle.mairix_tool.proofs.Words.{◌≡◌, ◌∙◌, ℕ, ◌+◌, Bool, false, not, cond, List, [], ◌∷◌, map, flat_map, length, Option, Some, refl, sym, ap, inl, inr, min, unwrap_or, arith, ◌&&◌, ◌==◌, nat_eq, filter, list_any, range_with_len, slice_get, option_map, eqb_tells, length-map, TextKind, Name, Kind, Text, OwnId, LinkId, kind_number, is_of_kind, keys_of, Archive, Key, Table, Query, uses_names, is_true, words_but_names, without_names, Format, Raw, Excerpt, Search, AreChosen, AreChosenBy, satisfying, path_at, answer_text, first_changed, stale_archive, mail_of_table, is_number_among, texts_with, facts_at, record_at, are_linked, without_digest, keys_but_names, but_digests, old_table, Answer, IsAnswerOrStale, IsStaleOr, answer_of_text, first_renamed, renamed_archive}
use Rattle.std.specs.Str.{bytes_eq}
use Rattle.mail_answer.specs.declared.format.Format.TheVariants.{Mbox}
use Rattle.std.proofs.Math.Path.{transport, transport⁻¹}
use Rattle.std.proofs.lemmas.Option.{slice_get-map}
use Rattle.mail_query.proofs.NameLemmas.{true-without}

-- ---- keys

-- keys of any other kind stay
others-stay : (kind : Kind) → nat_eq 9 (kind_number kind) ≡ false → (ks : List Key) → keys_of kind (keys_but_names ks)
    ≡ keys_of kind ks
others-stay kind other [] = refl
others-stay kind other (k ∷ ks) =
    elim (eqb_tells (kind_number k.kind) 9) [
      | inl named ↦
          ap (λ (b : Bool). keys_of kind (cond (not b) (k ∷ keys_but_names ks) (keys_but_names ks))) named.0
          ∙ others-stay _ other ks
          ∙ sym (ap (λ b. cond b (k ∷ keys_of kind ks) (keys_of kind ks))
          (ap (λ n. nat_eq n (kind_number kind)) named.1 ∙ other))
      | inr unnamed ↦
          ap (λ b. keys_of kind (cond (not b) (k ∷ keys_but_names ks) (keys_but_names ks))) unnamed.0
          ∙ ap (λ rest. cond (is_of_kind kind k) (k ∷ rest) rest) (others-stay _ other ks)
    ]

-- no key of a name stays
no-names : (ks : List Key) → keys_of (Text Name) (keys_but_names ks) ≡ []
no-names [] = refl
no-names (k ∷ ks) = go _ refl (no-names ks)
  where
    go : (b : Bool) → is_of_kind (Text Name) k ≡ b → keys_of (Text Name) (keys_but_names ks) ≡ []
        → keys_of (Text Name) (cond (not (is_of_kind (Text Name) k)) (k ∷ keys_but_names ks) (keys_but_names ks)) ≡ []
    go b h h2 = grind arith

-- ---- what a message says

texts-of : (n : ℕ) (ks ls : List Key) → ks ≡ ls
    → map (λ (k : Key). k.text) (filter (λ k. is_number_among n k.numbers) ks)
    ≡ map (λ (k : Key). k.text) (filter (λ k. is_number_among n k.numbers) ls)
texts-of n ks ls e = ap (λ keys. map (λ k. k.text)
    (filter (λ k. is_number_among n k.numbers) keys)) e

texts-old : (t : Table) (n : ℕ) (kind : TextKind) → texts_with (Text kind) n (keys_but_names t.keys)
    ≡ words_but_names (λ k. texts_with (Text k) n t.keys) kind
texts-old = grind (arith, texts-of, others-stay, no-names)

facts-old : (t : Table) (n : ℕ) → facts_at (old_table t) n ≡ without_names (facts_at t n)
facts-old t n = λ i. record {
  words = λ kind. texts-old t n kind i;
  own_ids = texts-of n _ _ (others-stay OwnId refl t.keys) i;
  date = (record_at t.messages n).date;
  size = (record_at t.messages n).size;
  flags = (record_at t.messages n).flags;
}

truth-old : (t : Table) (q : Query) → uses_names q ≡ false → (n : ℕ) → is_true q (facts_at (old_table t) n)
    ≡ is_true q (facts_at t n)
truth-old t q none n = ap (is_true q) (facts-old t n) ∙ true-without q _ none

linked-old : (t : Table) (m n : ℕ) → are_linked (old_table t) m n ≡ are_linked t m n
linked-old t m n = ap (list_any (λ k. is_number_among m k.numbers && is_number_among n k.numbers))
    (others-stay LinkId refl t.keys)

-- ---- the messages that are chosen

satisfying-old : (t : Table) (q : Query) → uses_names q ≡ false → satisfying (mail_of_table (old_table t)) q
    ≡ satisfying (mail_of_table t) q
satisfying-old t q none = λ i. filter (λ n. truth-old t q none n i) (range_with_len 0 (length t.messages))

chosen-by-old : (t : Table) (threads : Bool) (q : Query) (numbers : List ℕ) → uses_names q ≡ false
    → AreChosenBy threads (mail_of_table (old_table t)) q numbers ≡ AreChosenBy threads (mail_of_table t) q numbers
chosen-by-old = grind (arith, satisfying-old, linked-old)

-- ---- how the messages are written

path-old : (named : List Archive) (n : ℕ) → path_at (map without_digest named) n ≡ path_at named n
path-old named n = ap (λ o. unwrap_or (option_map (λ a. a.path) o) [])
    (slice_get-map without_digest named n) ∙ go (slice_get named n)
  where
    go : (o : Option Archive) → unwrap_or (option_map (λ a. a.path) (option_map without_digest o)) []
        ≡ unwrap_or (option_map (λ a. a.path) o) []
    go o = grind arith

pub text-undigested : (t : Table) (format : Format) (held : List (List ℕ)) (numbers : List ℕ)
    → answer_text format (but_digests t) held numbers ≡ answer_text format t held numbers
text-undigested = grind (arith, flat_map, path-old)

-- the text has no names
text-old : (t : Table) (format : Format) (held : List (List ℕ)) (numbers : List ℕ)
    → answer_text format (old_table t) held numbers ≡ answer_text format t held numbers
text-old t Raw held numbers = text-undigested t Raw held numbers
text-old t Excerpt held numbers = text-undigested t Excerpt held numbers
text-old t Mbox held numbers = refl

-- ---- which archive isn't as it was indexed

changed-old : (n : ℕ) (named : List Archive) (held : List (List ℕ)) → first_changed n (map without_digest named) held
    ≡ first_changed n named held
changed-old n [] held = refl
changed-old n (a ∷ named) [] = refl
changed-old n (a ∷ named) (bytes ∷ held) =
    ap (λ o. cond (length bytes == a.length) o (Some n)) (changed-old (n + 1) named held)

pub stale-old : (named : List Archive) (held : List (List ℕ)) → stale_archive (map without_digest named) held
    ≡ stale_archive named held
stale-old named held =
    ap (λ o. cond (length held == length (map without_digest named)) o
    (Some (min (length held) (length (map without_digest named))))) (changed-old 0 named _)
    ∙ ap (λ n. cond (length held == n) (first_changed 0 named held) (Some (min (length held) n)))
    (length-map named without_digest)

first-renamed-old : (n : ℕ) (named : List Archive) (paths : List (List ℕ))
    → first_renamed n (map without_digest named) paths ≡ first_renamed n named paths
first-renamed-old n [] paths = refl
first-renamed-old n (a ∷ named) [] = refl
first-renamed-old n (a ∷ named) (path ∷ paths) =
    ap (λ o. cond (bytes_eq a.path path) o (Some n)) (first-renamed-old (n + 1) named paths)

pub renamed-old : (named : List Archive) (paths : List (List ℕ)) → renamed_archive (map without_digest named) paths
    ≡ renamed_archive named paths
renamed-old named paths =
    ap (λ o. cond (length paths == length (map without_digest named)) o
    (Some (min (length paths) (length (map without_digest named))))) (first-renamed-old 0 named _)
    ∙ ap (λ n. cond (length paths == n) (first_renamed 0 named paths) (Some (min (length paths) n)))
    (length-map named without_digest)

-- ---- the answers

told-undigested : (t : Table) (s : Search) (held : List (List ℕ)) (answer : Answer)
    → IsAnswerOrStale (but_digests t) s held answer ≡ IsAnswerOrStale t s held answer
told-undigested t s held answer = λ i.
    IsStaleOr (stale-old t.archives held i)
    (λ a. (numbers : List ℕ) × AreChosen (mail_of_table t) s numbers
    × (a ≡ answer_of_text (text-undigested t s.format held numbers i) (length numbers))) answer

-- two tables that differ only in their digests give the same answers
module _ (t u : Table) (same : but_digests t ≡ but_digests u) (s : Search) (held : List (List ℕ)) (answer : Answer)
  where
    alike : IsAnswerOrStale t s held answer ≡ IsAnswerOrStale u s held answer
    alike = sym (told-undigested t s _ _) ∙ ap (λ v. IsAnswerOrStale v s held answer) same
        ∙ told-undigested u s _ _

    pub told-same : IsAnswerOrStale t s held answer → IsAnswerOrStale u s held answer
    told-same = transport alike

    pub same-told : IsAnswerOrStale u s held answer → IsAnswerOrStale t s held answer
    same-told = transport⁻¹ alike

told-alike : (t : Table) (s : Search) (held : List (List ℕ)) (answer : Answer) → uses_names s.query ≡ false
    → IsAnswerOrStale (old_table t) s held answer ≡ IsAnswerOrStale t s held answer
told-alike t s held answer none = λ i.
    IsStaleOr (stale-old t.archives held i)
    (λ (a : Answer). (numbers : List ℕ) × chosen-by-old t s.threads s.query numbers none i
    × (a ≡ answer_of_text (text-old t s.format held numbers i) (length numbers))) answer

pub told-old : (t : Table) (s : Search) (held : List (List ℕ)) (answer : Answer) → uses_names s.query ≡ false
    → IsAnswerOrStale (old_table t) s held answer → IsAnswerOrStale t s held answer
told-old t s held answer none = transport (told-alike t s _ _ none)

pub old-told : (t : Table) (s : Search) (held : List (List ℕ)) (answer : Answer) → uses_names s.query ≡ false
    → IsAnswerOrStale t s held answer → IsAnswerOrStale (old_table t) s held answer
old-told t s held answer none = transport⁻¹ (told-alike t s _ _ none)
