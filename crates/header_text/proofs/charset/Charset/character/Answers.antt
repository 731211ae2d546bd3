-- Each character of the table for Windows-1252 is below 65,536: all of its entries are tried.
use Rattle.header_text.proofs.Words.{refl, windows_1252_upper}
use Rattle.header_text.proofs.WordLaws.CharsetLemmas.{small-at}
use Rattle.header_text.proofs.charset.Charset.character.Goals as goal

pub returns-in-Windows1252-128-to-159-clause-small :
    goal.returns-in-Windows1252-128-to-159-clause-small
returns-in-Windows1252-128-to-159-clause-small c = small-at windows_1252_upper refl c.from.result
