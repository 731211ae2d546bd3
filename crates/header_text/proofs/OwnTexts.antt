-- The text of some bytes is the bytes themselves.
use Rattle.header_text.proofs.Words.{◌≡◌, ◌∙◌, ℕ, List, IsAscii, IsUtf8, IsUtf8-from_ascii, lossy_chars-utf8, text_of, Charset, Utf8, Latin1, Latin9, Windows1252, Unknown, arith}
use Rattle.header_text.proofs.WordLaws.CharacterLemmas.{lossy-ascii}

-- valid UTF-8
pub text_of-utf8 : (bytes : List ℕ) → IsUtf8 bytes → text_of Utf8 bytes ≡ bytes
unfolding text_of
text_of-utf8 bytes h = lossy_chars-utf8 bytes h

-- ASCII in each charset
pub text_of-ascii : (charset : Charset) (bytes : List ℕ) → IsAscii bytes → text_of charset bytes ≡ bytes
unfolding text_of
text_of-ascii Utf8 bytes h = lossy_chars-utf8 bytes (IsUtf8-from_ascii bytes h)
text_of-ascii Latin1 bytes h = grind (arith, lossy-ascii, lossy_chars-utf8, IsUtf8-from_ascii)
text_of-ascii Latin9 bytes h = grind (arith, lossy-ascii, lossy_chars-utf8, IsUtf8-from_ascii)
text_of-ascii Windows1252 bytes h = grind (arith, lossy-ascii, lossy_chars-utf8, IsUtf8-from_ascii)
text_of-ascii Unknown bytes h = grind (arith, lossy-ascii, lossy_chars-utf8, IsUtf8-from_ascii)
