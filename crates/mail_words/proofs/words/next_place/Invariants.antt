-- The words left in the rest are those left in the text. The loop ends because each turn makes the rest shorter.
use Rattle.mail_words.proofs.Imports.{◌≡◌, length, words_left}
use Rattle.std.proofs.Common.{chars}
use denote.Text.{Utf8}
use denote.Shadow.{shadow}
use Rattle.mail_words.proofs.words.next_place.Given as goal

abbrev pub invariant-places : goal.invariant-places
invariant-places l = shadow (Utf8 l.rest)
    × (words_left l.goes_on (chars l.rest) ≡ words_left l.fn.in_run (chars l.fn.text))

abbrev pub decreases-places : goal.decreases-places
decreases-places l = length l.rest
