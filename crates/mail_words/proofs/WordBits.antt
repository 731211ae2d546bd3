-- The table of word characters agrees with the definition at each of the 2,048 characters, by computation.
use Rattle.mail_words.proofs.Imports.{ℕ, Bool, ◌≡◌, ◌<◌, ◌%◌, ◌^◌, get_or, refl, bit_and, agree_below_at, is_word_character, ucd_category, ucd_derived}
use Rattle.std.proofs.Common.{◌==◌, ◌/◌}
use Rattle.mail_words.specs.declared.bit_tables.TheConstants.{WORD_BITS}

-- the bit of a character in the table
abbrev pub word_bit : ℕ → Bool
word_bit n = bit_and (get_or WORD_BITS (n / 64) 0 / 2 ^ (n % 64)) 1 == 1

pub word_bits_agree : (c : ℕ) → c < 2048 → word_bit c ≡ is_word_character c
unfolding ucd_derived ucd_category is_word_character
word_bits_agree c below = agree_below_at word_bit is_word_character 2048 c refl below
