-- ASCII folds evenly, so the words of its folding are the foldings of its words.
use Rattle.mail_words.proofs.Imports.{◌≡◌, ℕ, suc, ◌<◌, true, ◌&&◌, List, [], ◌∷◌, IsAscii, refl, ◌∙◌, chars-IsAscii, to_ascii_lowercase, list_all, ucd_category, ucd_derived, all_below, all_below-at, folding, is_word_character, is_joiner, words, arith}
use Rattle.std.proofs.Common.{map}
use Rattle.std.proofs.lemmas.Str.{IsUtf8-from_ascii}
use Rattle.ucd_case.proofs.CaseFoldingLemmas.{full_fold-ascii}
use Rattle.mail_words.specs.Folding.{are_alike, folds_evenly}
use Rattle.mail_words.proofs.EvenFolding.{words-folding-even}

alike-ascii : (c : ℕ) → c < 128 → are_alike c (to_ascii_lowercase c) ≡ true
unfolding all_below ucd_derived ucd_category is_word_character is_joiner
alike-ascii c below = all_below-at (λ n. are_alike n (to_ascii_lowercase n)) 128 c refl below

even-ascii : (c : ℕ) → c < 128 → folds_evenly c ≡ true
even-ascii c below = grind (arith, full_fold-ascii, alike-ascii)

all_even-ascii : (cs : List ℕ) → IsAscii cs → list_all folds_evenly cs ≡ true
all_even-ascii [] ascii = refl
all_even-ascii (c ∷ cs) ascii = (λ k. even-ascii c (ascii 0) k && all_even-ascii cs (λ i. ascii (suc i)) k)

pub words-folding-ascii : (text : List ℕ) → IsAscii text → words (folding text) ≡ map folding (words text)
words-folding-ascii text ascii = grind (arith, words-folding-even, IsUtf8-from_ascii, chars-IsAscii, all_even-ascii)
