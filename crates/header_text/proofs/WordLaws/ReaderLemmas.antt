-- Reading base64 piece by piece gives the bytes of the whole text.
use Rattle.header_text.proofs.Words.{◌≡◌, ◌∙◌, ◌==◌, ◌<◌, ◌≤◌, ◌+◌, ◌-◌, ◌++◌, ℕ, zero, suc, Bool, true, List, [], ◌∷◌, Some, None, length, slice_index, take, drop, refl, sym, ap, ap₂, arith, length-append, append_assoc, append-nil, not, if◌then◌else◌, get_or-take, split_while, cut_at, sextet, bytes_of_sextets, bytes_of_symbols, base64_bytes, is_symbol, filter_map}
use Rattle.std.proofs.lemmas.List.{length-take}
use Rattle.header_text.proofs.CutLemmas.{Lacks, IsCut-from, Lacks-from, split_while-lacks}
use Rattle.header_text.proofs.Fronts.{split_while-joined}
use Rattle.header_text.proofs.WordLaws.GroupLemmas.{AreSymbols, symbol, below}
use Rattle.std.proofs.Math.Seq.{take-append-add}

-- what is before the first `=`
abbrev text_in : List ℕ → List ℕ
text_in text = (split_while (λ b. not (b == 0x3D)) text).0

Lacks-symbols : (s : List ℕ) → AreSymbols s → Lacks 0x3D s
Lacks-symbols [] h = tt
Lacks-symbols (x ∷ s) h = (
  (symbol x (below x (h 0 (omega arith))) (h 0 (omega arith))).padding,
  Lacks-symbols s (λ k lt. h (suc k) (omega arith)),
)

text_in-front : (s later : List ℕ) → Lacks 0x3D s → text_in (s ++ later) ≡ s ++ text_in later
text_in-front [] later free = refl
text_in-front (b ∷ s) later free = grind (arith, text_in-front s later free.1)

base64_bytes-front : (s later : List ℕ) → AreSymbols s → base64_bytes (s ++ later)
    ≡ bytes_of_symbols (s ++ text_in later)
unfolding base64_bytes
base64_bytes-front s later h = grind (arith, text_in-front, Lacks-symbols)

module _ (old new before after : List ℕ) (piece : List ℕ) (held : AreSymbols before) (holds : AreSymbols after) where
  -- a piece with `=`
  pub read-ended : (text rest : List ℕ) → cut_at 0x3D piece ≡ Some (text, rest)
      → ((later : List ℕ) → new ++ bytes_of_symbols (after ++ later)
      ≡ old ++ bytes_of_symbols (before ++ (text ++ later)))
      → (later : List ℕ) → new ++ bytes_of_symbols after ≡ old ++ base64_bytes (before ++ (piece ++ later))
  read-ended text rest e h later =
      let cut = IsCut-from 0x3D piece text rest e in
      let split : text_in (piece ++ later) ≡ text =
      ap (λ (l : List ℕ). text_in (l ++ later)) cut.joined ∙ ap text_in (append_assoc text (0x3D ∷ rest) later)
      ∙ ap (λ (p : List ℕ × List ℕ). p.0) (split_while-lacks 0x3D text (rest ++ later) cut.free) in
      cc (append-nil after, h [], append-nil text, split, base64_bytes-front before (piece ++ later) held)

  -- a piece without `=`
  pub read-on : cut_at 0x3D piece ≡ None →
      ((later : List ℕ) → new ++ bytes_of_symbols (after ++ later)
      ≡ old ++ bytes_of_symbols (before ++ (piece ++ later)))
      → (later : List ℕ) → new ++ base64_bytes (after ++ later) ≡ old ++ base64_bytes (before ++ (piece ++ later))
  read-on e h later = grind (arith, Lacks-from, base64_bytes-front, text_in-front)

-- ---- the end

pub to_come-end : (held : List ℕ) → AreSymbols held → (ended : Bool)
    → (if ended then bytes_of_symbols held else base64_bytes (held ++ [])) ≡ bytes_of_symbols held
to_come-end held h ended = grind (arith, base64_bytes-front, append-nil)

abbrev fill : List ℕ
fill = 65 ∷ 65 ∷ 65 ∷ 65 ∷ []

pub filled-symbols : (h : List ℕ) → AreSymbols h → 2 ≤ length h → length h ≤ 3 → AreSymbols (h ++ drop (length h) fill)
filled-symbols [] are low high k lt = absurd (omega arith)
filled-symbols (a ∷ []) are low high k lt = absurd (omega arith)
filled-symbols (a ∷ b ∷ []) are low high zero lt = are 0 (omega arith)
filled-symbols (a ∷ b ∷ []) are low high (suc zero) lt = are 1 (omega arith)
filled-symbols (a ∷ b ∷ []) are low high (suc (suc zero)) lt = refl
filled-symbols (a ∷ b ∷ []) are low high (suc (suc (suc zero))) lt = refl
filled-symbols (a ∷ b ∷ []) are low high (suc (suc (suc (suc k)))) lt = absurd (omega arith)
filled-symbols (a ∷ b ∷ c ∷ []) are low high zero lt = are 0 (omega arith)
filled-symbols (a ∷ b ∷ c ∷ []) are low high (suc zero) lt = are 1 (omega arith)
filled-symbols (a ∷ b ∷ c ∷ []) are low high (suc (suc zero)) lt = are 2 (omega arith)
filled-symbols (a ∷ b ∷ c ∷ []) are low high (suc (suc (suc zero))) lt = refl
filled-symbols (a ∷ b ∷ c ∷ []) are low high (suc (suc (suc (suc k)))) lt = absurd (omega arith)
filled-symbols (a ∷ b ∷ c ∷ d ∷ h) are low high k lt = absurd (omega arith)

sextet-A : sextet 65 ≡ Some 0
unfolding sextet
sextet-A = refl

pub filled-bytes : (h : List ℕ) → AreSymbols h → 2 ≤ length h → length h ≤ 3
    → take (length h - 1) (bytes_of_symbols (h ++ drop (length h) fill)) ≡ bytes_of_symbols h
unfolding bytes_of_sextets
filled-bytes [] are low high = absurd (omega arith)
filled-bytes (a ∷ []) are low high = absurd (omega arith)
filled-bytes (a ∷ b ∷ []) are low high =
    let x = (symbol a (below a (are 0 (omega arith))) (are 0 (omega arith))).sextet_is in
    let y = (symbol b (below b (are 1 (omega arith))) (are 1 (omega arith))).sextet_is in
    rw (x, y, sextet-A) refl
filled-bytes (a ∷ b ∷ c ∷ []) are low high =
    let x = (symbol a (below a (are 0 (omega arith))) (are 0 (omega arith))).sextet_is in
    let y = (symbol b (below b (are 1 (omega arith))) (are 1 (omega arith))).sextet_is in
    let z = (symbol c (below c (are 2 (omega arith))) (are 2 (omega arith))).sextet_is in
    rw (x, y, z, sextet-A) refl
filled-bytes (a ∷ b ∷ c ∷ d ∷ h) are low high = absurd (omega arith)

-- the bytes that are kept of the last group
pub kept : (old new : List ℕ) (held : List ℕ) (count end : ℕ) → AreSymbols held → length held ≡ count → 2 ≤ count
    → count ≤ 3 → end ≡ length old + count - 1
    → new ≡ old ++ bytes_of_symbols (held ++ drop count fill) → take end new ≡ old ++ bytes_of_symbols held
kept old new held count end h size low high e f =
    let at : end ≡ length old + (length held - 1) = omega arith in
    let group : List ℕ = bytes_of_symbols (held ++ drop count fill) in
    let same : drop count fill ≡ drop (length held) fill = ap (λ (n : ℕ). drop n fill) (sym size) in
    ap₂ (λ (n : ℕ) (l : List ℕ). take n l) at f ∙ take-append-add old group (length held - 1)
    ∙ ap (λ (l : List ℕ). old ++ l) (ap (λ (l : List ℕ). take (length held - 1) (bytes_of_symbols (held ++ l))) same
    ∙ filled-bytes held h (omega arith) (omega arith))

-- fewer than two symbols give nothing
pub short-bytes : (h : List ℕ) → length h < 2 → bytes_of_symbols h ≡ []
unfolding bytes_of_sextets
short-bytes [] lt = refl
short-bytes (a ∷ []) lt = grind arith
short-bytes (a ∷ b ∷ h) lt = absurd (omega arith)

-- the held symbols are symbols
pub held-symbols : (symbols : List ℕ) (count : ℕ) → ((k : ℕ) → k < count → is_symbol (slice_index symbols k) ≡ true)
    → AreSymbols (take count symbols)
held-symbols symbols count all k lt = grind (arith, length-take, get_or-take)

-- ---- the bytes are no more than those of the text

length-bytes_of_sextets : (xs : List ℕ) → length (bytes_of_sextets xs) ≤ length xs
unfolding bytes_of_sextets
length-bytes_of_sextets [] = omega arith
length-bytes_of_sextets (a ∷ []) = omega arith
length-bytes_of_sextets (a ∷ b ∷ []) = omega arith
length-bytes_of_sextets (a ∷ b ∷ c ∷ []) = omega arith
length-bytes_of_sextets (a ∷ b ∷ c ∷ d ∷ xs) = let later = length-bytes_of_sextets xs in omega arith

length-sextets : (text : List ℕ) → length (filter_map sextet text) ≤ length text
length-sextets [] = omega arith
length-sextets (b ∷ text) = grind (arith, length-sextets text)

pub length-base64_bytes : (text : List ℕ) → length (base64_bytes text) ≤ length text
unfolding base64_bytes
length-base64_bytes text =
    let front = text_in text in
    let joined = split_while-joined (λ b. not (b == 0x3D)) text in
    omega (
      arith,
      length-bytes_of_sextets (filter_map sextet front),
      length-sextets front,
      length-append front (split_while (λ b. not (b == 0x3D)) text).1,
      ap length joined,
    )
