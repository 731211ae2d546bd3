-- The table agrees with the definition at each of the 256 bytes, by computation.
use Rattle.mail_words.proofs.Imports.{◌&&◌, nat_lt, get_or, refl, arith, agree_below_at, ucd_category, ucd_derived, is_word_character, CLASSES}
use Rattle.std.proofs.Common.{◌==◌}
use Rattle.mail_words.proofs.ascii.is_ascii_word_character.Goals as goal

pub returns : goal.returns
unfolding ucd_derived ucd_category is_word_character
returns c = agree_below_at (λ b. get_or CLASSES b 0 == 119) (λ b. nat_lt b 128 && is_word_character b) 256 c.args.byte
    refl (omega arith)
