-- Rows of queries, with whether one letter satisfies them.
use Rattle.mail_query.proofs.Words.{◌≡◌, Bool, List, ℕ, [], ◌∷◌, map, codes, None, Some, refl, true, false, Seen, Replied, Flagged, Kinds, no_kinds, Query, Any, Word, Part, Prefix, Date, Size, HasFlag, Not, Either, End, More, uses_names, Facts, is_true}
use Rattle.mail_words.specs.declared.kind.TextKind.{TextKind}
use Rattle.mail_words.specs.declared.kind.TextKind.TheVariants.{To, Cc, Bcc, From, Subject, Body, Name}
use Rattle.mail_query.specs.Query.{All}

-- the letter: from Alice <alice@example.org>, to bob@x, blind copy to carol, with an attached report.pdf; 19 bytes,
-- seen, without a date
abbrev words : TextKind → List (List ℕ)
words From = codes "alice" ∷ codes "alice" ∷ codes "alice@example.org" ∷ codes "example" ∷ codes "org" ∷ []
words To = codes "bob" ∷ codes "bob@x" ∷ codes "x" ∷ []
words Bcc = codes "carol" ∷ []
words Cc = []
words Subject = []
words Body = []
words Name = codes "report" ∷ codes "report.pdf" ∷ codes "pdf" ∷ []

abbrev letter : Facts
letter = record {
  words = words;
  own_ids = codes "1@X" ∷ [];
  date = None;
  size = 19;
  flags = record { seen = true; replied = false; flagged = false };
}

abbrev from : Kinds
from = record no_kinds { from = true }

abbrev to : Kinds
to = record no_kinds { to = true }

abbrev to_cc : Kinds
to_cc = record no_kinds { to = true; cc = true }

abbrev plain : Kinds
plain = record no_kinds { to = true; cc = true; from = true; subject = true; body = true }

abbrev names : Kinds
names = record no_kinds { name = true }

abbrev own : Kinds
own = record no_kinds { own_id = true }

-- whether the letter satisfies these queries: all of them, or none
abbrev Have : Bool → List Query → Type 0
Have truth queries = map (λ query. is_true query letter) queries ≡ map (λ _. truth) queries

-- words, parts of words, and beginnings of words
rows : Have true (Word from (codes "alice@example.org") ∷ Word from (codes "example") ∷ Part from (codes "alic") ∷ Part
    from (codes "xample")
    ∷ Part from (codes "org") ∷ Prefix from (codes "exam") ∷ Word names (codes "report") ∷ Word own (codes "1@X") ∷ [])
    × Have false (Word from (codes "alic") ∷ Part from (codes "examplealice") ∷ Prefix from (codes "xample") ∷ Word to
    (codes "alice")
    ∷ Word own (codes "1@x") ∷ [])
    -- a word without a prefix isn't looked for in blind copies, names of attachments and ids
    × Have false (Word plain (codes "carol") ∷ Word plain (codes "report") ∷ Word plain (codes "1@X") ∷ [])
    -- the word is in none of the kinds
    × Have false (Not (Word to_cc (codes "bob")) ∷ [])
    × Have true (Not (Word from (codes "bob")) ∷ [])
    -- sizes include both ends; a message without a date is in no range
    × Have true (Size 19 (Some 19) ∷ [])
    × Have false (Size 20 None ∷ Size 0 (Some 18) ∷ Size 21 (Some 3) ∷ Date (record { from = None; until = None }) ∷ [])
    × Have true (HasFlag Seen true ∷ All (More (HasFlag Replied false) (More (HasFlag Seen true) End)) ∷ [])
    × Have false (HasFlag Seen false ∷ HasFlag Flagged true ∷ [])
    -- two words may be in two fields
    × Have true (All End ∷ All (More (Word plain (codes "alice")) (More (Word plain (codes "bob")) End)) ∷ Either
    (More (Word plain (codes "carol")) (More (Word plain (codes "bob")) End)) ∷ Any ∷ [])
    × Have false (Either End ∷ [])
rows = (refl, refl, refl, refl, refl, refl, refl, refl, refl, refl, refl)

names_that_are_used : (uses_names (All (More (Word plain (codes "report")) (More (Not (Part names (codes "rep"))) End)))
    ≡ true)
    × (uses_names (Either (More (Word plain (codes "report")) (More (Word own (codes "1@X")) End))) ≡ false)
names_that_are_used = (refl, refl)
