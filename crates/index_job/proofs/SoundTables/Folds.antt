-- The folding of a word has at least one byte, and not too many for a key, whatever bytes the word has.
use Rattle.index_job.proofs.Words.{◌≡◌, ℕ, zero, suc, ◌+◌, ◌-◌, ◌*◌, ◌/◌, ◌%◌, ◌^◌, ◌<◌, ◌≤◌, List, [], ◌∷◌, ◌++◌, length, map, encode_utf8_all, ap, arith, length-append, AllByRecursion, chars, chars_after, continuation_len, lead_bits, nat_tests, recursion_from_All, folding, range_bytes, words, HasWordLength}
use Rattle.std.specs.Char.{encode_utf8}
use Rattle.std.proofs.lemmas.Str.{len_utf8_bounds, length-encode, length-le-encodes}
use Rattle.caseless.specs.Caseless.{default_case_fold}
use Rattle.caseless.proofs.CaselessLemmas.{default_case_fold-cons, length-default_case_fold}
use Rattle.unicode.specs.CaseFolding.{full_fold}
use Rattle.mail_words.proofs.Lengths.{all-words}

-- a text that a key may have
abbrev pub IsKeyText : List ℕ → Type 0
IsKeyText text = (0 < length text) × (length text < 2 ^ 32)

-- ---- characters of bytes

after-some : (n c : ℕ) (bs : List ℕ) → n ≤ length bs → 1 ≤ length (chars_after n c bs)
after-some zero c [] few = omega arith
after-some zero c (b ∷ bs) few = omega arith
after-some (suc n) c [] few = absurd (omega arith)
after-some (suc n) c (b ∷ bs) few = after-some n _ bs (omega arith)

after-few : (n c : ℕ) (bs : List ℕ) → length (chars_after n c bs) ≤ suc (length bs)
after-few zero c [] = omega arith
after-few zero c (b ∷ bs) = omega (arith, after-few (continuation_len b) (lead_bits b) bs)
after-few (suc n) c [] = omega arith
after-few (suc n) c (b ∷ bs) = omega (arith, after-few n (c * 64 + (b - 128)) bs)

-- bytes have at most as many characters
chars-few : (bs : List ℕ) → length (chars bs) ≤ length bs
unfolding chars
chars-few [] = omega arith
chars-few (b ∷ bs) = after-few _ _ _

-- and at least one character, if the bytes that the first byte announces are there
led-some : (b : ℕ) (bs : List ℕ) → continuation_len b ≤ length bs → 1 ≤ length (chars (b ∷ bs))
unfolding chars
led-some b bs few = after-some _ _ _ few

led-one : (b : ℕ) → b < 128 → continuation_len b ≤ 0
led-one b h = grind (arith, nat_tests)

led-two : (b : ℕ) → b < 224 → continuation_len b ≤ 1
led-two b h = grind (arith, nat_tests)

led-three : (b : ℕ) → b < 240 → continuation_len b ≤ 2
led-three b h = grind (arith, nat_tests)

led-four : (b : ℕ) → continuation_len b ≤ 3
led-four b = grind (arith, nat_tests)

-- the bytes of an encoded character have those that their first byte announces
encoded-some : (c : ℕ) (rest : List ℕ) → 1 ≤ length (chars (encode_utf8 c ++ rest))
unfolding encode_utf8
encoded-some c rest = grind (arith, led-some, led-one, led-two, led-three, led-four)

chars-some : (cs : List ℕ) → 1 ≤ length (encode_utf8_all cs) → 1 ≤ length (chars (encode_utf8_all cs))
chars-some [] some = absurd (omega arith)
chars-some (c ∷ cs) _ = encoded-some c _

-- ---- their folding

full_fold-has : (c : ℕ) → 1 ≤ length (full_fold c)
full_fold-has c = grind arith

folded-some : (cs : List ℕ) → 1 ≤ length cs → 1 ≤ length (encode_utf8_all (default_case_fold cs))
folded-some [] some = absurd (omega arith)
folded-some (c ∷ cs) some = omega (
  arith,
  ap length (default_case_fold-cons c cs),
  length-append (full_fold c) (default_case_fold cs),
  full_fold-has c,
  length-le-encodes (default_case_fold (c ∷ cs)),
)

encoded-few : (cs : List ℕ) → length (encode_utf8_all cs) ≤ 4 * length cs
encoded-few [] = omega arith
encoded-few (c ∷ cs) = grind (arith, length-append, length-encode, len_utf8_bounds, encoded-few cs)

folding-few : (text : List ℕ) → length (folding text) ≤ 32 * length text
folding-few text = omega (arith, encoded-few, length-default_case_fold (chars text), encoded-few, chars-few)

-- ---- words

word-folds : (cs : List ℕ) → HasWordLength (encode_utf8_all cs) → IsKeyText (folding (encode_utf8_all cs))
word-folds _ h = grind (arith, folded-some, encode_utf8_all, chars-some, folding-few)

ranges-fold : (cs : List ℕ) (rs : List (ℕ × ℕ)) → AllByRecursion HasWordLength (map (range_bytes cs) rs)
    → AllByRecursion (λ w. IsKeyText (folding w)) (map (range_bytes cs) rs)
ranges-fold _ [] _ = tt
ranges-fold cs (r ∷ rs) all = (word-folds _ all.0, ranges-fold cs rs all.1)

pub words-fold : (text : List ℕ) → AllByRecursion (λ w. IsKeyText (folding w)) (words text)
unfolding words
words-fold text = ranges-fold _ _ (recursion_from_All _ (words text) (all-words _))
