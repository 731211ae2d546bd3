-- What a message's own header says besides its texts.
use Rattle.std.specs.Prelude.{ℕ, ◌<◌, ◌≤◌, Bool, ◌&&◌, ◌||◌, ◌==◌, List, [], ◌∷◌, length, All, IfSome, filter, flat_map}
use Rattle.std.specs.Prelude.{Option, Some, None, option_map, codes}
use Rattle.std.specs.List.{list_any}
use Rattle.header_text.specs.Headers.{HeaderField, most_in_header}
use Rattle.header_text.specs.Names.{is_named, first_body}
use Rattle.header_text.specs.Unfolding.{unfolded_body}
use Rattle.header_text.specs.Ids.{ids_of}
use Rattle.mail_words.specs.declared.flags.Flags.{Flags}
use Rattle.mime_text.specs.declared.header.facts.Facts.{Facts}
use Rattle.mime_text.specs.FieldTexts.{text_of_body}

-- the first element, if there is one
abbrev pub first_of : {A : Type 0} → List A → Option A
first_of [] = None
first_of (x ∷ xs) = Some x

-- the text of the first Date field (RFC 5322, 3.6.1)
abbrev pub date_text_of : List HeaderField → Option (List ℕ)
date_text_of fields = option_map text_of_body (first_body (codes "date") fields)

-- whether a field of this name has the flags that mail programs set
abbrev pub is_status : List ℕ → Bool
is_status name = is_named name (codes "status") || is_named name (codes "x-status")

-- whether the letter is in the value of a Status or X-Status field
abbrev pub has_letter : ℕ → List HeaderField → Bool
has_letter letter fields = list_any (λ f. is_status f.name && list_any (λ b. b == letter) (unfolded_body f.body)) fields

-- the flags: R for read, A for replied, F for flagged
abbrev pub flags_of_header : List HeaderField → Flags
flags_of_header fields = record {
  seen = has_letter 0x52 fields;
  replied = has_letter 0x41 fields;
  flagged =
      has_letter 0x46 fields;
}

-- the message's own id: the first id in a Message-ID field (RFC 5322, 3.6.4)
abbrev pub own_id_of : List HeaderField → Option (List ℕ)
own_id_of fields = first_of (flat_map (λ f. ids_of f.body) (filter (λ f. is_named f.name (codes "message-id")) fields))

-- whether a field of this name links the message to others
abbrev pub is_linking : List ℕ → Bool
is_linking name = is_named name (codes "message-id") || is_named name (codes "in-reply-to") || is_named name
    (codes "references")

-- all ids of the linking fields, in order
abbrev pub ids_of_fields : List HeaderField → List (List ℕ)
ids_of_fields fields = flat_map (λ f. ids_of f.body) (filter (λ f. is_linking f.name) fields)

-- the most bytes of an id, which are those that are kept of a header
abbrev pub most_in_id : ℕ
most_in_id = most_in_header

-- an id has at least one byte, and at most as many as are kept of a header
abbrev pub IsSizedId : List ℕ → Type 0
IsSizedId id = (0 < length id) × (length id ≤ most_in_id)

-- each id of these facts has such a size
abbrev pub HasSizedIds : Facts → Type 0
HasSizedIds facts = IfSome facts.own_id IsSizedId × All IsSizedId facts.ids

-- the facts that a header with these fields says
unfoldable pub facts_of : List HeaderField → Facts
facts_of fields = record {
  date_text = date_text_of fields;
  flags = flags_of_header fields;
  own_id = own_id_of fields;
  ids =
      ids_of_fields fields;
}
