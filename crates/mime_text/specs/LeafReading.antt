-- What a reader of a leaf still gives, by its fields. It serves proofs: LeafTexts defines the texts of a leaf.
use Rattle.std.specs.Prelude.{ℕ, List, ◌++◌, map}
use Rattle.mail_words.specs.declared.kind.TextKind.TheVariants as kind
use Rattle.mbox_cutter.specs.Lines.{lines}
use Rattle.mime_text.specs.Sinks.{Pair}
use Rattle.mime_text.specs.OpenTags.{texts_after}
use Rattle.mime_text.specs.Decoders.{still_decoded}
use Rattle.mime_text.specs.declared.leaf.line_texts.LineTexts.{LineTexts}
use Rattle.mime_text.specs.declared.leaf.leaf_reader.LeafReader.{LeafReader}

-- the texts of a body, each with its kind
abbrev pub body_pairs : List (List ℕ) → List Pair
body_pairs texts = map (λ text. (kind.Body, text)) texts

-- the texts of the decoded lines to come
abbrev pub pairs_of_lines : LineTexts → List (List ℕ) → List Pair
pairs_of_lines texts ls = body_pairs (texts_after texts.charset texts.is_html texts.is_open ls)

-- the texts of the decoded bytes to come
abbrev pub pairs_of_bytes : LineTexts → List ℕ → List Pair
pairs_of_bytes texts bytes = pairs_of_lines texts (lines bytes)

-- the texts that a reader still gives, if these are the lines of the body to come
abbrev pub pairs_to_come : LeafReader → List (List ℕ) → List Pair
pairs_to_come reader ls = pairs_of_bytes reader.texts (reader.held ++ still_decoded reader.decoder ls)
