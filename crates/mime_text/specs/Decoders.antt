-- The bytes that a decoder still gives for the lines of a body that are to come.
use Rattle.std.specs.Prelude.{ℕ, List, flat_map}
use Rattle.std.specs.List.{concat}
use Rattle.header_text.specs.Symbols.{bytes_to_come}
use Rattle.mime_text.specs.Transfer.{printable_bytes}
use Rattle.mime_text.specs.declared.leaf.decoder.Decoder.{Decoder}
use Rattle.mime_text.specs.declared.leaf.decoder.Decoder.TheVariants as decoder

-- the bytes that a decoder still gives if these are the lines to come
abbrev pub still_decoded : Decoder → List (List ℕ) → List ℕ
still_decoded decoder.Identity ls = concat ls
still_decoded decoder.QuotedPrintable ls = flat_map printable_bytes ls
still_decoded (decoder.Base64 reader) ls = bytes_to_come reader (concat ls)
