-- A small lexicon for rows: a word is 1 to 6 letters, a part of a word has hyphens too, and `ok` names every date.
use Rattle.mail_query.proofs.Words.{ℕ, Bool, ◌&&◌, ◌||◌, ◌==◌, nat_le, if◌then◌else◌, List, length, bytes_eq, codes, None, Some, list_all, is_ascii_alphabetic, str_to_ascii_lowercase, Range, Lexicon}

abbrev pub is_short : List ℕ → Bool
is_short text = nat_le 1 (length text) && nat_le (length text) 6

abbrev pub every_date : Range
every_date = record { from = None; until = None }

abbrev pub toy : Lexicon
toy = record {
  is_word = λ text. is_short text && list_all is_ascii_alphabetic text;
  is_piece = λ text. is_short text && list_all (λ c. is_ascii_alphabetic c || (c == 0x2D)) text;
  folded = str_to_ascii_lowercase;
  dates = λ text. if bytes_eq text (codes "ok") then Some every_date else None;
}
