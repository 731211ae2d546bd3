-- Rows of boolean queries, each with the query or the first fault that a second reader finds.
use Rattle.mail_query.proofs.Words.{◌≡◌, ℕ, List, codes, None, Some, Ok, Err, refl, true, QueryFaultKind, NoPattern, BadPrefix, BadWord, BadDate, NeedsOperator, BadParenthesis, MissingTerm, TooDeep, Phrase, Query, Word, Prefix, Date, Not, Either, End, More, no_kinds, query_tokens, first_fault, tokens_query}
use Rattle.mail_query.specs.Query.{All}
use Rattle.mail_query.proofs.RowLexicon.{toy, every_date}

abbrev Asks : List ℕ → Query → Type 0
Asks text q = (tokens_query toy (query_tokens text) ≡ Ok q) × (first_fault toy (query_tokens text) ≡ None)

abbrev Shows : List ℕ → ℕ → QueryFaultKind → Type 0
Shows text n kind =
    (tokens_query toy (query_tokens text) ≡ Err (record { number = n; kind = kind }))
    × (first_fault toy (query_tokens text) ≡ Some (record { number = n; kind = kind }))

rows : Asks (codes "subject:hello and not body:ho")
    (All (More (Word (record no_kinds { subject = true }) (codes "hello"))
    (More (Not (Word (record no_kinds { body = true }) (codes "ho"))) End)))
    × Asks (codes "(subject:ho or body:hi) hel*")
    (All (More (Either (More (Word (record no_kinds { subject = true }) (codes "ho"))
    (More (Word (record no_kinds { body = true }) (codes "hi")) End)))
    (More (Prefix (record no_kinds { to = true; cc = true; bcc = true; from = true; subject = true; body = true })
    (codes "hel")) End)))
    × Shows (codes "subject:a subject:b") 2 NeedsOperator
    × Shows (codes "a or") 3 MissingTerm
    × Shows (codes "(a") 3 BadParenthesis
    × Shows (codes "subject:\"a") 1 Phrase
    × Shows (codes "(((((((((((((((((((((((((((((((") 31 TooDeep
    × Shows (codes "  \t\n") 1 NoPattern
    × Shows (codes "xor") 1 BadWord
    × Shows (codes "q:x") 1 BadPrefix
    × Asks (codes "date:ok") (Date every_date)
    × Shows (codes "date:no") 1 BadDate
    × Asks (codes "id:<x>") (Word (record no_kinds { own_id = true }) (codes "x"))
    × Asks (codes "a\nb\tc") (All (More (Word
    (record no_kinds { to = true; cc = true; bcc = true; from = true; subject = true; body = true }) (codes "a"))
    (More (Word (record no_kinds { to = true; cc = true; bcc = true; from = true; subject = true; body = true })
    (codes "b")) (More (Word (record no_kinds
    { to = true; cc = true; bcc = true; from = true; subject = true; body = true }) (codes "c")) End))))
unfolding query_tokens
rows = (
  (refl, refl),
  (refl, refl),
  (refl, refl),
  (refl, refl),
  (refl, refl),
  (refl, refl),
  (refl, refl),
  (refl, refl),
  (refl, refl),
  (refl, refl),
  (refl, refl),
  (refl, refl),
  (refl, refl),
  (refl, refl),
)
