-- Rows: threads of a table of six messages, whose keys are link ids alone.
use Rattle.mail_answer.proofs.Words.{◌≡◌, true, false, [], ◌∷◌, replicate, Some, codes, refl, OwnId, LinkId, newest, Table, no_record, are_linked, IsInThread, IsInThreadOfSome}

-- The second message refers to the first, and the third answers the second. The fourth has no id. The fifth and the
-- sixth refer to 0@x, which no message has.
abbrev six : Table
six = record {
  version = newest;
  archives = record { path = codes "m.mbox"; length = 6; digest = Some (replicate 32 0) } ∷ [];
  messages = no_record ∷ no_record ∷ no_record ∷ no_record ∷ no_record ∷ no_record ∷ [];
  keys = record { kind = OwnId; text = codes "3@x"; numbers = 2 ∷ 3 ∷ [] } ∷ record
      { kind = LinkId; text = codes "0@x"; numbers = 4 ∷ 5 ∷ [] }
      ∷ record { kind = LinkId; text = codes "1@x"; numbers = 0 ∷ 1 ∷ [] } ∷ record
      { kind = LinkId; text = codes "2@x"; numbers = 1 ∷ 2 ∷ [] }
      ∷ record { kind = LinkId; text = codes "3@x"; numbers = 2 ∷ [] } ∷ record
      { kind = LinkId; text = codes "5@x"; numbers = 4 ∷ [] }
      ∷ record { kind = LinkId; text = codes "6@x"; numbers = 5 ∷ [] } ∷ [];
}

-- A message and the one that it answers are linked; the first and the third share no id; an id that no message has
-- links messages; an own id doesn't.
links : (are_linked six 2 1 ≡ true) × (are_linked six 0 2 ≡ false) × (are_linked six 4 5 ≡ true)
    × (are_linked six 2 3 ≡ false)
links = (refl, refl, refl, refl)

-- the first and the third are in one thread nevertheless; a message without ids is in its own thread
threads : IsInThread six 0 2 × IsInThreadOfSome six (3 ∷ []) 3
threads = ((1 ∷ 2 ∷ [], (refl, (refl, refl))), (3, refl, ([], refl)))
