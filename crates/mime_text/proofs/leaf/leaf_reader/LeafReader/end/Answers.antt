-- `LeafReader::end` gives nothing if all lines were given as they are, because no bytes are left then.
use Rattle.mime_text.proofs.Words.{◌≡◌, ◌++◌, ℕ, List, [], refl, lines, still_decoded, pairs_of_bytes, LineTexts, arith}
use Rattle.mime_text.specs.declared.leaf.decoder.Decoder.{Decoder}
use Rattle.mime_text.specs.declared.leaf.decoder.Decoder.TheVariants.{Identity}
use Rattle.mime_text.proofs.leaf.leaf_reader.LeafReader.end.Goals as goal

none_left : (texts : LineTexts) (decoder : Decoder) (held : List ℕ) → decoder ≡ Identity → held ≡ []
    → pairs_of_bytes texts (held ++ still_decoded decoder []) ≡ []
unfolding lines
none_left texts decoder held e f = rw (e, f) refl

pub returns-then-has_given_all : goal.returns-then-has_given_all
returns-then-has_given_all g c =
    grind (arith, none_left)
