-- What the two query languages mean over mail: their grammars with mail's own words and dates.
use Rattle.std.specs.Prelude.{ℕ, List, Option, Result}
use Rattle.std.specs.Result.{result_ok}
use Rattle.mail_words.specs.Words.{is_one_word, is_part_of_word}
use Rattle.mail_words.specs.Folding.{folding}
use Rattle.mail_dates.specs.declared.range.Range.{Range}
use Rattle.mail_dates.specs.Ranges.{range_at}
use Rattle.mail_dates.specs.IsoRanges.{iso_range_of}
use Rattle.mail_query.specs.declared.fault.QueryFault.{QueryFault}
use Rattle.mail_query.specs.Lexicon.{Lexicon}
use Rattle.mail_query.specs.Query.{Query}
use Rattle.mail_query.specs.Mairix.{patterns_query}
use Rattle.mail_query.specs.Tokens.{query_tokens}
use Rattle.mail_query.specs.BooleanReading.{tokens_query}

-- mail's words, with these dates
abbrev pub mail_lexicon : (List ℕ → Option Range) → Lexicon
mail_lexicon dates = record { is_word = is_one_word; is_piece = is_part_of_word; folded = folding; dates = dates }

-- mail's words, with dates as a pattern names them; ages, and days without a year, count from the moment `now`
abbrev pub pattern_lexicon : ℕ → Lexicon
pattern_lexicon now = mail_lexicon (λ text. result_ok (range_at text now))

-- mail's words, with days of the calendar in the form of ISO 8601
abbrev pub boolean_lexicon : Lexicon
boolean_lexicon = mail_lexicon (λ text. result_ok (iso_range_of text))

-- the query of a list of mairix patterns, or the first fault
abbrev pub mairix_query : List (List ℕ) → ℕ → Result Query QueryFault
mairix_query patterns now = patterns_query (pattern_lexicon now) patterns

-- the query of a text in the boolean language, or the first fault
abbrev pub boolean_query : List ℕ → Result Query QueryFault
boolean_query text = tokens_query boolean_lexicon (query_tokens text)
