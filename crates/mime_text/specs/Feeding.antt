-- What a reader of a message's lines still gives, by its fields. Public clauses of MessageText use it through Fed only:
-- together with what was given before, it is the texts of the message, whatever lines come. The rest serves proofs.
use Rattle.std.specs.Prelude.{◌≡◌, ℕ, Bool, true, false, List, [], ◌++◌, Option, Some, None}
use Rattle.header_text.specs.Headers.{HeaderField, fields_of}
use Rattle.header_text.specs.declared.header.Header.{Header}
use Rattle.header_text.specs.HeldLines.{HasLines}
use Rattle.header_text.specs.Stages.{has_empty}
use Rattle.mime_text.specs.declared.parts.shape.DefaultType.{DefaultType}
use Rattle.mime_text.specs.declared.parts.shape.DefaultType.TheVariants.{TextPlain}
use Rattle.mime_text.specs.declared.parts.shape.Shape.{Shape}
use Rattle.mime_text.specs.declared.parts.frame.Frame.{Frame}
use Rattle.mime_text.specs.declared.header.facts.Facts.{Facts}
use Rattle.mime_text.specs.declared.leaf.leaf_reader.LeafReader.{LeafReader}
use Rattle.mime_text.specs.declared.parts.part_reader.State.{State}
use Rattle.mime_text.specs.declared.parts.part_reader.State.TheVariants as state
use Rattle.mime_text.specs.declared.parts.part_reader.PartReader.{PartReader}
use Rattle.mime_text.specs.declared.parts.nesting.Lead.{Lead}
use Rattle.mime_text.specs.declared.parts.nesting.Lead.TheVariants.{Nowhere, Piece, Epilogue}
use Rattle.mime_text.specs.Sinks.{Pair, ComingPairs}
use Rattle.mime_text.specs.FieldTexts.{texts_of_fields}
use Rattle.mime_text.specs.Names.{name_texts}
use Rattle.mime_text.specs.LeafReading.{pairs_to_come}
use Rattle.mime_text.specs.MessageFacts.{facts_of}
use Rattle.mime_text.specs.Types.{shape_of}
use Rattle.mime_text.specs.Stream.{StreamPlace, Skip, InHeader, InLeaf, after_header, values_given}
use Rattle.mime_text.specs.Frames.{Nest}
use Rattle.mime_text.specs.Texts.{part_texts}

-- what the lines to come give from a place on
abbrev pub given_from : List Frame → StreamPlace Pair → ComingPairs
given_from frames place ms = values_given shape_of part_texts frames place ms

-- the texts of a header, if it counts
abbrev pub counted_texts : Bool → List HeaderField → List Pair
counted_texts true fields = texts_of_fields fields
counted_texts false fields = []

-- the texts of an entity's header, if it counts, and then the entity's name
abbrev pub header_texts : Bool → List HeaderField → List Pair
header_texts counted fields = counted_texts counted fields ++ name_texts fields

-- what an entity gives if it ends here; the fields are those of its header, if that is still being read
abbrev pub ending : State → List HeaderField → LeafReader → List Pair
ending state.Skipping fields leaf = []
ending (state.InHeader counted d) fields leaf = header_texts counted fields
ending state.InLeaf fields leaf = pairs_to_come leaf []

-- what comes after the end of a header with these fields
abbrev pub given_after_header : Shape → Nest → List HeaderField → ComingPairs
given_after_header shape nest fields ms =
    let after = after_header shape_of part_texts shape nest.frames nest.left fields in given_from after.0 after.1 ms

-- what comes after a delimiter line, by what the line delimits
abbrev pub given_after_delimiter : Lead → Nest → ComingPairs
given_after_delimiter Nowhere nest ms = given_from nest.frames Skip ms
given_after_delimiter (Piece d) nest ms = given_from nest.frames (InHeader false nest.left d []) ms
given_after_delimiter Epilogue nest ms = given_from nest.frames Skip ms

-- these pairs come, if the reader is in this state
abbrev pub ComesAt : State → PartReader → ComingPairs → Type 0
ComesAt state.Skipping r c = (ms : List (List ℕ)) → c ms ≡ given_from r.nesting.frames Skip ms
ComesAt (state.InHeader counted d) r c = (held : List (List ℕ)) × HasLines r.header held × (has_empty held ≡ false)
    × ((ms : List (List ℕ)) → c ms ≡ given_from r.nesting.frames (InHeader counted r.nesting.left d held) ms)
ComesAt state.InLeaf r c = (ms : List (List ℕ)) → c ms ≡ given_from r.nesting.frames (InLeaf (pairs_to_come r.leaf)) ms

-- these pairs come from the reader, for any lines to come
abbrev pub Comes : PartReader → ComingPairs → Type 0
Comes r c = ComesAt r.state r c

-- these pairs come from a reader whose header has just ended
abbrev pub ComesAfterHeader : PartReader → Bool → DefaultType → ComingPairs → Type 0
ComesAfterHeader r counted d c = (ls : List (List ℕ)) × HasLines r.header ls
    × ((ms : List (List ℕ)) → c ms ≡ header_texts counted (fields_of ls) ++ given_after_header
    (shape_of d (fields_of ls))
    r.nesting (fields_of ls) ms)

-- these pairs come if the entity ends in this state, and then those after a delimiter line
abbrev pub ComesEndingAt : State → PartReader → Lead → ComingPairs → Type 0
ComesEndingAt state.Skipping r lead c = (ms : List (List ℕ)) → c ms ≡ given_after_delimiter lead r.nesting ms
ComesEndingAt (state.InHeader counted d) r lead c = (held : List (List ℕ)) × HasLines r.header held
    × ((ms : List (List ℕ)) → c ms ≡ header_texts counted (fields_of held) ++ given_after_delimiter lead r.nesting ms)
ComesEndingAt state.InLeaf r lead c = (ms : List (List ℕ)) → c ms
    ≡ pairs_to_come r.leaf [] ++ given_after_delimiter lead r.nesting ms

-- the same for the state of the reader
abbrev pub ComesEnding : PartReader → Lead → ComingPairs → Type 0
ComesEnding r lead c = ComesEndingAt r.state r lead c

-- the header of the message itself is being read, and these are its lines
pub record IsInOwnHeader (r : PartReader) (ls : List (List ℕ)) : Type 0 where
  pub state_is : r.state ≡ state.InHeader true TextPlain
  pub outside : r.nesting.frames ≡ []
  pub lines : HasLines r.header ls
  pub open_ended : has_empty ls ≡ false

-- what is known of the facts after these lines: they are right whatever lines come; until they are known, the message's
-- own header is being read
abbrev pub KnowsAt : Option Facts → PartReader → List (List ℕ) → Type 0
KnowsAt None r ls = IsInOwnHeader r ls
KnowsAt (Some facts) r ls = (ms : List (List ℕ)) → facts ≡ facts_of (fields_of (ls ++ ms))

-- facts that were known stay; otherwise the new ones are those of the header that has ended
abbrev pub NotesFacts : Option Facts → Option Facts → Header → Type 0
NotesFacts None new h = (ls : List (List ℕ)) → HasLines h ls → new ≡ Some (facts_of (fields_of ls))
NotesFacts (Some facts) new h = new ≡ Some facts

-- what the reader knows of the facts after these lines
abbrev pub KnowsFacts : PartReader → List (List ℕ) → Type 0
KnowsFacts r ls = KnowsAt r.facts r ls
