-- Reading the rest gives what reading the whole text does. The loop ends because each token makes the rest shorter.
use Rattle.std.proofs.Common.{◌≡◌, ◌+◌, ◌≤◌, length}
use Rattle.std.specs.Str.{IsUtf8}
use Rattle.mail_query.specs.Mail.{boolean_lexicon}
use Rattle.mail_query.specs.Inside.Shown.{state_of_reader}
use Rattle.mail_query.specs.Tokens.{query_tokens}
use Rattle.mail_query.specs.BooleanReading.{run_from, start}
use Rattle.mail_query.proofs.boolean.read_tokens.Given as goal

abbrev pub decreases-tokens : goal.decreases-tokens
decreases-tokens l = length l.rest

abbrev pub invariant-tokens : goal.invariant-tokens
invariant-tokens l = record {
  whole : run_from boolean_lexicon l.number (state_of_reader l.reader) (query_tokens l.rest)
      ≡ run_from boolean_lexicon 1 start (query_tokens l.text);
  numbered : l.number + length l.rest ≤ length l.text + 1;
  first : l.number ≡ 1 → l.rest ≡ l.text;
  some : 1 ≤ l.number;
  utf8 : IsUtf8 l.rest;
}
