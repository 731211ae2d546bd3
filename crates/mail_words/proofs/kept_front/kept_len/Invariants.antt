-- All characters before the rest are kept by folding. The loop ends because the rest gets shorter.
use Rattle.mail_words.proofs.Imports.{◌-◌, length}
use denote.Text.{Utf8}
use denote.Shadow.{shadow}
use Rattle.mail_words.specs.Inside.Folds.{keeps_itself}
use Rattle.mail_words.proofs.FrontReads.{FrontRead}
use Rattle.mail_words.proofs.kept_front.kept_len.Given as goal

abbrev pub invariant-runs : goal.invariant-runs
invariant-runs l = shadow (Utf8 l.rest) × FrontRead keeps_itself l.text (length l.text - length l.rest) l.rest

abbrev pub decreases-runs : goal.decreases-runs
decreases-runs l = length l.rest
