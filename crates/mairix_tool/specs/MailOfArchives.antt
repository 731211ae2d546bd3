-- The messages of archives by their numbers: what they say themselves, which of them are linked, and their text in an
-- answer.
use Rattle.std.specs.Prelude.{ℕ, suc, Bool, List, [], ◌∷◌, ◌++◌, length, map, flat_map}
use Rattle.std.specs.List.{list_any, slice_index_or}
use Rattle.std.specs.Str.{bytes_eq}
use Rattle.header_text.specs.Headers.{fields_of}
use Rattle.mbox_cutter.specs.Archives.{Message, text}
use Rattle.mime_text.specs.MessageFacts.{facts_of}
use Rattle.mail_answer.specs.declared.format.Format.{Format}
use Rattle.mail_answer.specs.Mail.{Mail}
use Rattle.mail_answer.specs.Shapes.{message_text}
use Rattle.index_job.specs.ArchiveTables.{Mbox, messages_in, entry_of_archive, record_of}
use Rattle.mairix_tool.specs.Chosen.{facts_of_message}

-- a message, after the number of its archive
abbrev pub Numbered : Type 0
Numbered = ℕ × Message

-- the messages of the archives, if the first archive has the number n
abbrev pub numbered_messages : ℕ → List Mbox → List Numbered
numbered_messages n [] = []
numbered_messages n (a ∷ archives) = map (λ m. (n, m)) (messages_in a.bytes) ++ numbered_messages (suc n) archives

-- a message for numbers after the last one; it has no meaning
abbrev pub nobody : Numbered
nobody = (0, record { offset = 0; separator = 0 ∷ []; after = [] })

-- the message with this number
abbrev pub numbered_at : List Numbered → ℕ → Numbered
numbered_at xs n = slice_index_or xs n nobody

-- ---- what they say

-- all ids of the Message-ID, In-Reply-To and References fields of a message's own header
abbrev pub link_ids : Message → List (List ℕ)
link_ids m = (facts_of (fields_of (text m))).ids

-- whether an id is in both lists
abbrev pub share_id : List (List ℕ) → List (List ℕ) → Bool
share_id ids others = list_any (λ id. list_any (bytes_eq id) others) ids

-- each says what its own text says, and two are linked if they share a link id
abbrev pub mail_of : List Numbered → Mail
mail_of xs = record {
  count = length xs;
  facts = λ n. facts_of_message (numbered_at xs n).1;
  linked = λ m n. share_id (link_ids (numbered_at xs m).1) (link_ids (numbered_at xs n).1);
}

-- the messages of all archives, by archive, then offset
abbrev pub mail_in : List Mbox → Mail
mail_in archives = mail_of (numbered_messages 0 archives)

-- ---- their text in an answer

-- the text of a message in a form, by the bytes of its span
abbrev pub text_in_form : Format → List Mbox → Numbered → List ℕ
text_in_form format archives x = message_text format (map entry_of_archive archives) (map (λ a. a.bytes) archives)
    (record_of x.0 x.1)

-- the texts of the messages with these numbers, one after another
abbrev pub shape : List Mbox → Format → List ℕ → List ℕ
shape archives format numbers = flat_map
    (λ n. text_in_form format archives (numbered_at (numbered_messages 0 archives) n))
    numbers
