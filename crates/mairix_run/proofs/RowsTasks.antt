-- What has to be unfolded, so that tasks and lines are found by computation.
use Rattle.std.specs.Char.{encode_utf8}
use Rattle.std.specs.Fmt.{digits}
use Rattle.std.specs.Str.{chars}
use Rattle.bstr.proofs.Computing.{computing}
use Rattle.caseless.proofs.Computing.{caseless}
use Rattle.clap.proofs.OnLiterals.{clap_on_literals}
use Rattle.unicode.proofs.CategoryComputing.{ucd_category}
use Rattle.unicode.proofs.DerivedComputing.{ucd_derived}
use Rattle.mail_query.specs.Sizes.{size_of, sizes_of}
use Rattle.mail_query.specs.Tokens.{query_tokens}
use Rattle.mail_words.specs.Words.{is_joiner, is_one_word, is_part_of_word, is_word, is_word_character}
use Rattle.mairix_options.specs.Blanks.{text_without_blanks}
use Rattle.mairix_options.specs.CommandLine.{parse, plan}
use Rattle.mairix_run.specs.WorkedTasks.{IsWorkedTask}

-- what a proof unfolds to compute a task
unfoldable pub asking : Unit {0}
unfolding IsWorkedTask parse plan clap_on_literals computing text_without_blanks size_of sizes_of query_tokens
    is_one_word is_part_of_word
    is_word is_joiner is_word_character ucd_derived ucd_category chars encode_utf8 caseless
asking = tt

-- what a proof unfolds to compute a line with a number
unfoldable pub counting : Unit {0}
unfolding digits
counting = tt
