-- Rows: what a table of two messages says about them, and which of them each query chooses.
use Rattle.mail_answer.proofs.Words.{◌≡◌, ℕ, true, false, List, [], ◌∷◌, map, replicate, None, Some, codes, refl, pos, Subject, Body, Name, Text, OwnId, LinkId, newest, Table, Kinds, no_kinds, Query, Any, Word, Part, Prefix, Date, Size, HasFlag, Not, All, Either, End, texts_with, facts_at, truths, chosen_numbers}
use Rattle.mail_words.specs.declared.flags.Flag.TheVariants.{Seen}
use Rattle.mail_query.specs.Query.{More}

-- The first message has 19 bytes and no date; its own id is 1@x, its subject hello, and its text hi. The second has 30
-- bytes, is dated second 1000 and is seen; its own id is 2@x, its link id 1@x, its subjects are hello and re, its text
-- is high, and it has an attachment named re.pdf.
abbrev two : Table
two = record {
  version = newest;
  archives = record { path = codes "m.mbox"; length = 120; digest = Some (replicate 32 0) } ∷ [];
  messages = record {
    archive = 0;
    offset = 0;
    length = 58;
    size = 19;
    date = None;
    flags =
        record { seen = false; replied = false; flagged = false };
  }
      ∷ record {
        archive = 0;
        offset = 58;
        length = 62;
        size = 30;
        date = Some (pos 1000);
        flags =
            record { seen = true; replied = false; flagged = false };
      } ∷ [];
  keys = record { kind = Text Subject; text = codes "hello"; numbers = 0 ∷ 1 ∷ [] } ∷ record
      { kind = Text Subject; text = codes "re"; numbers = 1 ∷ [] }
      ∷ record { kind = Text Body; text = codes "hi"; numbers = 0 ∷ [] } ∷ record
      { kind = Text Body; text = codes "high"; numbers = 1 ∷ [] }
      ∷ record { kind = OwnId; text = codes "1@x"; numbers = 0 ∷ [] } ∷ record
      { kind = OwnId; text = codes "2@x"; numbers = 1 ∷ [] }
      ∷ record { kind = LinkId; text = codes "1@x"; numbers = 0 ∷ 1 ∷ [] } ∷ record
      { kind = Text Name; text = codes "pdf"; numbers = 1 ∷ [] }
      ∷ record { kind = Text Name; text = codes "re.pdf"; numbers = 1 ∷ [] } ∷ [];
}

abbrev subject : Kinds
subject = record no_kinds { subject = true }

abbrev body : Kinds
body = record no_kinds { body = true }

abbrev subject_body : Kinds
subject_body = record no_kinds { subject = true; body = true }

abbrev name : Kinds
name = record no_kinds { name = true }

abbrev subject_name : Kinds
subject_name = record no_kinds { subject = true; name = true }

abbrev own : Kinds
own = record no_kinds { own_id = true }

facts : (texts_with (Text Subject) 1 two.keys ≡ codes "hello" ∷ codes "re" ∷ [])
    × ((facts_at two 1).size ≡ 30)
    -- there is no third message
    × (texts_with (Text Subject) 2 two.keys ≡ [])
facts = (refl, refl, refl)

-- each of these queries chooses exactly these messages
abbrev Choose : List ℕ → List Query → Type 0
Choose numbers queries = map (chosen_numbers two) queries ≡ map (λ _. numbers) queries

-- a link id isn't an own id, and a message without a date is in no range
chosen : Choose (0 ∷ []) (Word body (codes "hi") ∷ Word own (codes "1@x") ∷ HasFlag Seen false ∷ [])
    × Choose (1 ∷ []) (Word subject_body (codes "re") ∷ Part body (codes "gh") ∷ Word name (codes "re.pdf") ∷ Date
    (record { from = None; until = None }) ∷ [])
    × Choose (0 ∷ 1 ∷ []) (Word subject (codes "hello") ∷ Prefix body (codes "hi") ∷ Prefix subject_name (codes "h") ∷
    Size 19 (Some 30)
    ∷ Not (Word body (codes "nobody")) ∷ Either (More (Word body (codes "hi")) (More (Size 30 None) End)) ∷ [])
    × Choose [] (Word subject (codes "hi") ∷ Word subject (codes "pdf") ∷ [])
    × (map (truths two) (All End ∷ Either End ∷ All (More Any (More (Not (Word subject (codes "re"))) End)) ∷ [])
    ≡ (true ∷ true ∷ []) ∷ (false ∷ false ∷ []) ∷ (true ∷ false ∷ []) ∷ [])
chosen = (refl, refl, refl, refl, refl)
