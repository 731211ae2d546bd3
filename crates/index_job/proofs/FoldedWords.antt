-- Laws of folded words, one after another in memory, and of their terms.
use Rattle.index_job.proofs.Words.{◌≡◌, ◌≤◌, ◌<◌, ◌+◌, ℕ, List, [], ◌∷◌, ◌++◌, length, map, take, drop, get_or, refl, ap, ap₂, ◌∙◌, arith, IsAscii, length-append, append-nil, Global, String, string_bytes, string_len, sum, AllByRecursion, concat, drop_more, map-append, Text, TextKind, folding, words, parts_of_lengths, HoldsWords, HasTermLength, Term, word_terms, text_terms}
use Rattle.std.proofs.Math.Seq.{take-append_seam, drop-append_seam}
use Rattle.std.proofs.lemmas.List.Folds.{concat-append}
use Rattle.std.proofs.lemmas.List.Sums.{sum_by-cons}
use Rattle.std.proofs.Common.{chars, IsUtf8, true}
use Rattle.std.specs.List.{list_all}
use Rattle.mail_words.specs.Folding.{folds_evenly}
use Rattle.mail_words.proofs.AsciiFolding.{words-folding-ascii}
use Rattle.mail_words.proofs.EvenFolding.{words-folding-even}
use Rattle.index_job.specs.declared.folding_room.FoldingRoom.{FoldingRoom}

-- ---- a room

pub cut-words : (ws : List (List ℕ)) → parts_of_lengths (map length ws) (concat ws) ≡ ws
cut-words [] = refl
cut-words (w ∷ ws) = grind (arith, take-append_seam, drop-append_seam, cut-words ws)

sum-lengths : (ws : List (List ℕ)) → sum (map length ws) ≡ length (concat ws)
sum-lengths [] = refl
sum-lengths (w ∷ ws) = omega (
  arith,
  sum_by-cons (λ n. n) (length w) (map length ws),
  sum-lengths ws,
  length-append w (concat ws),
)

all-push : (ws : List (List ℕ)) (w : List ℕ) → AllByRecursion HasTermLength ws → HasTermLength w
    → AllByRecursion HasTermLength (ws ++ w ∷ [])
all-push [] w _ sized = (sized, tt)
all-push (v ∷ ws) w all sized = (all.0, all-push ws w all.1 sized)

-- the string and its length after a word was appended
pub grown : (old new : String Global) (word : List ℕ) → string_bytes new ≡ string_bytes old ++ word → string_len new
    ≡ string_len old + length word
grown old new word is = cc (length-append (string_bytes old) word)

pub sized : (old new : String Global) (word : List ℕ) → string_bytes new ≡ string_bytes old ++ word
    → (string_len old + 1 ≤ string_len new) × (string_len new ≤ string_len old + 1024) → HasTermLength word
sized old new word is h = (omega (arith, grown), omega (arith, grown))

pub holds-push : (old new : FoldingRoom) (ws : List (List ℕ)) (w : List ℕ) → HoldsWords old ws → string_bytes new.folded
    ≡ string_bytes old.folded ++ w → new.lengths.items ≡ old.lengths.items ++ length w ∷ []
    → HasTermLength w → HoldsWords new (ws ++ w ∷ [])
holds-push _ _ _ w h bytes lengths sized = grind (arith, append-nil, concat-append, map-append, all-push, sized)

-- the bytes of a room, cut to its lengths, are its words
pub held-cut : (room : FoldingRoom) (ws : List (List ℕ)) → HoldsWords room ws
    → parts_of_lengths room.lengths.items (string_bytes room.folded) ≡ ws
held-cut _ ws h = ap₂ parts_of_lengths h.lengths h.bytes ∙ cut-words _

pub held-within : (room : FoldingRoom) (ws : List (List ℕ)) → HoldsWords room ws
    → sum room.lengths.items ≤ length (string_bytes room.folded)
held-within _ ws h = omega (arith, ap sum h.lengths, sum-lengths, ap length h.bytes)

pub held-sizes : (room : FoldingRoom) (ws : List (List ℕ)) → HoldsWords room ws
    → AllByRecursion HasTermLength (parts_of_lengths room.lengths.items (string_bytes room.folded))
held-sizes room ws h = rw (held-cut _ _ h) h.sizes

-- ---- the next of the words that are left to cut

pub next-cut : (lengths : List ℕ) (i : ℕ) (rest : List ℕ) → i < length lengths
    → parts_of_lengths (drop i lengths) rest ≡ take (get_or lengths i 0) rest ∷ parts_of_lengths (drop (i + 1) lengths)
    (drop (get_or lengths i 0) rest)
next-cut lengths i rest below = cc (drop_more _ i 0 below)

pub next-sum : (lengths : List ℕ) (i : ℕ) → i < length lengths → sum (drop i lengths)
    ≡ get_or lengths i 0 + sum (drop (i + 1) lengths)
next-sum lengths i below = ap sum (drop_more _ i 0 below)
    ∙ sum_by-cons (λ n. n) (get_or lengths i 0) (drop (i + 1) lengths)

-- ---- terms

folded-terms : (kind : TextKind) (ws : List (List ℕ)) → word_terms kind (map folding ws)
    ≡ map (λ w. let t : Term = (Text kind, folding w) in t) ws
folded-terms _ [] = refl
folded-terms kind (w ∷ ws) = ap (λ (ts : List Term). (Text kind, folding w) ∷ ts) (folded-terms kind ws)

-- the words of a text that was folded as a whole
pub words-of-ascii : (text folded : List ℕ) → IsAscii text → folded ≡ folding text → words folded
    ≡ map folding (words text)
words-of-ascii text _ ascii is = ap words is ∙ words-folding-ascii _ ascii

pub words-of-even : (text folded : List ℕ) → IsUtf8 text → list_all folds_evenly (chars text) ≡ true → folded
    ≡ folding text → words folded ≡ map folding (words text)
words-of-even text _ utf8 even is = ap words is ∙ words-folding-even _ utf8 even

-- and their terms
pub terms-of-whole : (kind : TextKind) (text folded : List ℕ) → words folded ≡ map folding (words text)
    → word_terms kind (words folded) ≡ text_terms (kind, text)
terms-of-whole kind text _ is = ap (word_terms kind) is ∙ folded-terms _ _

-- the terms of a text whose words were folded into a room
pub terms-of-held : (kind : TextKind) (text : List ℕ) (room : FoldingRoom) → HoldsWords room (map folding (words text))
    → word_terms kind (parts_of_lengths room.lengths.items (string_bytes room.folded)) ≡ text_terms (kind, text)
terms-of-held kind text room h = ap (word_terms kind) (held-cut _ _ h) ∙ folded-terms _ _
