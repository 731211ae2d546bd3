-- The decoder reads whole groups of base64 as the definition does.
use Rattle.header_text.proofs.Words.{◌≡◌, ◌∙◌, ◌==◌, ◌&&◌, ◌<◌, ◌≤◌, ◌+◌, ◌-◌, ◌*◌, ◌/◌, ◌%◌, ◌++◌, ℕ, zero, suc, Bool, true, false, ◌⊎◌, nat_lt, List, [], ◌∷◌, Option, Some, None, length, slice_index, slice_set, take, drop, map, refl, sym, ap, arith, length-append, append_assoc, append-nil, if◌then◌else◌, not, Ok, Result, OnOk, is_none, filter_map, and_parts, ne_eqb, cases_lt, filter_map-append, drop_more, drop_all, map-append, length-map, length-take-le, take-append-drop, take_at, take_all, take_more_set, length-set, get_or-set_same, get_or-set_other, get_or-take, nat_tests, sextet, bytes_of_sextets, bytes_of_symbols, is_symbol}
use Rattle.base64.specs.Engines.{standard}
use Rattle.base64.specs.GeneralPurpose.{decode_slice_of, decoded_bytes_of}
use Rattle.base64.specs.Decode.{IsWrittenOver, push_leftover, no_leftover, scan_last, suffix_error, suffix_bytes, decode_group, groups_error, groups_bytes, group_error, group_bytes, groups_before_last, symbol_error}
use Rattle.base64.specs.declared.decode.DecodeSliceError.{DecodeSliceError}
use Rattle.base64.specs.declared.engine.DecodePaddingMode.TheVariants.{RequireCanonical}
use Rattle.base64.proofs.Decoding.{length-groups_bytes, scan-cons_ok, scan-nil}
use Rattle.base64.specs.Tables.{all_below}
use Rattle.base64.proofs.Tables.{all_below_at}

abbrev pub dec : List ℕ
dec = standard.decode_table

abbrev pub value : ℕ → ℕ
value b = slice_index dec b

is_value : Option ℕ → ℕ → Bool
is_value None n = false
is_value (Some m) n = m == n

-- a symbol isn't padding, and its value is its place in the alphabet; any other byte has no value
abbrev test : ℕ → Bool
test b = if is_symbol b then not (b == 61) && (not (value b == 255) && is_value (sextet b) (value b))
    else is_none (sextet b)

all : all_below test 256 ≡ true
unfolding sextet is_value
all = refl

if_parts : (s p q : Bool) → s ≡ true → (if s then p else q) ≡ true → p ≡ true
if_parts s p q h h2 = grind arith

if_not_parts : (s p q : Bool) → s ≡ false → (if s then p else q) ≡ true → q ≡ true
if_not_parts s p q h h2 = grind arith

pub record IsSymbol (b : ℕ) : Type 0 where
  pub padding : (b == 61) ≡ false
  pub valued : (value b == 255) ≡ false
  pub sextet_is : sextet b ≡ Some (value b)

from_value : (o : Option ℕ) (n : ℕ) → is_value o n ≡ true → o ≡ Some n
unfolding is_value
from_value o n h = grind arith

pub symbol : (b : ℕ) → b < 256 → is_symbol b ≡ true → IsSymbol b
symbol b lt is =
    let parts = if_parts (is_symbol b) (not (b == 61) && (not (value b == 255) && is_value (sextet b) (value b)))
    (is_none (sextet b)) is (all_below_at test 256 b all lt) in
    grind (arith, and_parts, from_value)

pub sextet-other : (b : ℕ) → b < 256 → is_symbol b ≡ false → sextet b ≡ None
sextet-other b lt no_symbol = none (sextet b)
    (if_not_parts (is_symbol b) (not (b == 61) && (not (value b == 255) && is_value (sextet b) (value b)))
    (is_none (sextet b)) no_symbol (all_below_at test 256 b all lt))
  where
    none : (o : Option ℕ) → is_none o ≡ true → o ≡ None
    none o h = grind arith

-- ---- groups joined

pub bytes_of_sextets-append : (k : ℕ) (xs ys : List ℕ) → length xs ≡ 4 * k → bytes_of_sextets (xs ++ ys)
    ≡ bytes_of_sextets xs ++ bytes_of_sextets ys
unfolding bytes_of_sextets
bytes_of_sextets-append zero [] ys e = refl
bytes_of_sextets-append zero (a ∷ xs) ys e = absurd (omega arith)
bytes_of_sextets-append (suc k) [] ys e = absurd (omega arith)
bytes_of_sextets-append (suc k) (a ∷ []) ys e = absurd (omega arith)
bytes_of_sextets-append (suc k) (a ∷ b ∷ []) ys e = absurd (omega arith)
bytes_of_sextets-append (suc k) (a ∷ b ∷ c ∷ []) ys e = absurd (omega arith)
bytes_of_sextets-append (suc k) (a ∷ b ∷ c ∷ d ∷ xs) ys e =
    grind (arith, append_assoc, bytes_of_sextets-append k xs ys (omega arith))

one_group : (a b c d : ℕ) → bytes_of_sextets (a ∷ b ∷ c ∷ d ∷ []) ≡ decode_group a b c d
unfolding bytes_of_sextets
one_group a b c d = append-nil (decode_group a b c d)

-- ---- the decoder's result for symbols in whole groups

-- all are symbols
abbrev pub AreSymbols : List ℕ → Type 0
AreSymbols s = (k : ℕ) → k < length s → is_symbol (slice_index s k) ≡ true

abbrev pub AreBytes : List ℕ → Type 0
AreBytes s = (k : ℕ) → slice_index s k < 256

pub sextets-symbols : (s : List ℕ) → AreSymbols s → AreBytes s → filter_map sextet s ≡ map value s
sextets-symbols [] h b = refl
sextets-symbols (x ∷ s) h b =
    let is = (symbol x (b 0) (h 0 (omega arith))).sextet_is in
    rw is (cc (sextets-symbols s (λ k lt. h (suc k) (omega arith)) (λ k. b (suc k))))

module _ (s : List ℕ) (h : AreSymbols s) (bytes : AreBytes s) where
  at : (i : ℕ) → i < length s → IsSymbol (slice_index s i)
  at i lt = symbol (slice_index s i) (bytes i) (h i lt)

  symbol_error-none : (i : ℕ) → i < length s → symbol_error dec s i ≡ None
  symbol_error-none i lt = rw (at i lt).valued refl

  group_error-none : (i : ℕ) → i + 3 < length s → group_error dec s i ≡ None
  group_error-none i lt = grind (arith, symbol_error-none)

  groups_error-none : (j : ℕ) → 4 * j ≤ length s → groups_error dec s j ≡ None
  unfolding groups_error
  groups_error-none zero le = refl
  groups_error-none (suc j) le = grind (arith, group_error-none, groups_error-none j)

  four : (i : ℕ) → i + 3 < length s → drop i s
      ≡ slice_index s i ∷ slice_index s (i + 1) ∷ slice_index s (i + 2) ∷ slice_index s (i + 3) ∷ drop (i + 4) s
  four i lt = grind (arith, drop_more, slice_index)

  -- one more group
  taken_group : (j : ℕ) → 4 * suc j ≤ length s
      → take (4 * suc j) s ≡ take (4 * j) s ++ slice_index s (4 * j) ∷ slice_index s (4 * j + 1) ∷ slice_index s
      (4 * j + 2) ∷ slice_index s (4 * j + 3) ∷ []
  taken_group j le =
      let i = 4 * j in
      let group : List ℕ = slice_index s i ∷ slice_index s (i + 1) ∷ slice_index s (i + 2) ∷ slice_index s (i + 3) ∷ []
      in
      let front : length (take i s) ≡ i = length-take-le i s (omega arith) in
      let size : length (take i s ++ group) ≡ 4 * suc j = omega (arith, length-append (take i s) group) in
      let split : s ≡ (take i s ++ group) ++ drop (i + 4) s =
      cc (take-append-drop i s, four i (omega arith), append_assoc (take i s) group (drop (i + 4) s)) in
      grind (arith, take_at)

  -- the bytes of the groups, one after another
  groups_bytes-sextets : (j : ℕ) → 4 * j ≤ length s → groups_bytes dec s j
      ≡ bytes_of_sextets (map value (take (4 * j) s))
  unfolding groups_bytes bytes_of_sextets
  groups_bytes-sextets zero le = refl
  groups_bytes-sextets (suc j) le =
      let i = 4 * j in
      let group : List ℕ = slice_index s i ∷ slice_index s (i + 1) ∷ slice_index s (i + 2) ∷ slice_index s (i + 3) ∷ []
      in
      let sum : 4 * suc j ≡ i + 4 = omega arith in
      let taken : take (4 * suc j) s ≡ take i s ++ group = taken_group j le in
      let size : length (map value (take i s)) ≡ 4 * j = grind (arith, length-map, length-take-le)
      in
      cc (
        groups_bytes-sextets j (omega arith),
        one_group (value (slice_index s i)) (value (slice_index s (i + 1))) (value (slice_index s (i + 2)))
            (value (slice_index s (i + 3))),
        bytes_of_sextets-append j (map value (take i s)) (map value group) size,
        map-append value (take i s) group,
        taken,
      )

  -- the last group
  last_group : (i : ℕ) → i + 4 ≡ length s → (suffix_error dec 61 false RequireCanonical i s ≡ None)
      × (suffix_bytes dec 61 i s ≡ group_bytes dec s i)
  last_group i e =
      let a = slice_index s i in
      let b = slice_index s (i + 1) in
      let c = slice_index s (i + 2) in
      let d = slice_index s (i + 3) in
      let fa = at i (omega arith) in
      let fb = at (i + 1) (omega arith) in
      let fc = at (i + 2) (omega arith) in
      let fd = at (i + 3) (omega arith) in
      let st1 = record no_leftover {
        morsels = value a ∷ 0 ∷ 0 ∷ 0 ∷ [];
        morsels_count = 1;
        last_symbol = a;
        last_symbol_value = value a;
      } in
      let st2 = record no_leftover {
        morsels = value a ∷ value b ∷ 0 ∷ 0 ∷ [];
        morsels_count = 2;
        last_symbol = b;
        last_symbol_value = value b;
      } in
      let st3 = record no_leftover {
        morsels = value a ∷ value b ∷ value c ∷ 0 ∷ [];
        morsels_count = 3;
        last_symbol = c;
        last_symbol_value = value c;
      } in
      let st4 = record no_leftover {
        morsels = value a ∷ value b ∷ value c ∷ value d ∷ [];
        morsels_count = 4;
        last_symbol = d;
        last_symbol_value = value d;
      } in
      let push1 : push_leftover dec 61 i no_leftover 0 a ≡ Ok st1 = rw (fa.padding, fa.valued) refl in
      let push2 : push_leftover dec 61 i st1 1 b ≡ Ok st2 = rw (fb.padding, fb.valued) refl in
      let push3 : push_leftover dec 61 i st2 2 c ≡ Ok st3 = rw (fc.padding, fc.valued) refl in
      let push4 : push_leftover dec 61 i st3 3 d ≡ Ok st4 = rw (fd.padding, fd.valued) refl in
      let rest : drop i s ≡ a ∷ b ∷ c ∷ d ∷ [] = grind (arith, four, drop_all) in
      let scanned : scan_last dec 61 i s ≡ Ok st4 =
      cc (
        rest,
        scan-cons_ok dec 61 i no_leftover 0 a (b ∷ c ∷ d ∷ []) st1 push1,
        scan-cons_ok dec 61 i st1 1 b (c ∷ d ∷ []) st2 push2,
        scan-cons_ok dec 61 i st2 2 c (d ∷ []) st3 push3,
        scan-cons_ok dec 61 i st3 3 d [] st4 push4,
        scan-nil dec 61 i st4 4,
      ) in
      grind arith

  groups_bytes-suc : (j : ℕ) → groups_bytes dec s (suc j) ≡ groups_bytes dec s j ++ group_bytes dec s (4 * j)
  unfolding groups_bytes
  groups_bytes-suc j = refl

  -- all groups
  abbrev pub out : List ℕ
  out = bytes_of_sextets (filter_map sextet s)

  pub decoded_is : (m : ℕ) → length s ≡ 4 * suc m → decoded_bytes_of standard s ≡ out
  decoded_is m e =
      let last : groups_before_last (length s) ≡ m = omega arith in
      let ends = last_group (4 * m) (omega arith) in
      rw last (cc ends.1) ∙ sym (groups_bytes-suc m)
      ∙ groups_bytes-sextets (suc m) (omega arith)
      ∙ ap (λ (l : List ℕ). bytes_of_sextets (map value l)) (take_all (4 * suc m) s (omega arith))
      ∙ ap bytes_of_sextets (sym (sextets-symbols s h bytes))

  pub length-decoded : (m : ℕ) → length s ≡ 4 * suc m → length (decoded_bytes_of standard s) ≡ 3 * suc m
  length-decoded m e =
      let last : groups_before_last (length s) ≡ m = omega arith in
      let ends = last_group (4 * m) (omega arith) in
      rw last (cc (ends.1, groups_bytes-suc m, length-groups_bytes dec s (suc m)))

  pub decode_slice_is : (m : ℕ) → length s ≡ 4 * suc m → decode_slice_of standard s (3 * suc m) ≡ Ok (3 * suc m)
  decode_slice_is m e =
      let last : groups_before_last (length s) ≡ m = omega arith in
      let ends = last_group (4 * m) (omega arith) in
      let lone : (length s % 4 == 1) ≡ false = grind arith in
      let room : nat_lt (3 * suc m / 3) m ≡ false = grind arith in
      let fits : nat_lt (3 * suc m) (3 * suc m) ≡ false = grind arith in
      let len : length (decoded_bytes_of standard s) ≡ 3 * suc m = length-decoded m e in
      grind (arith, groups_error-none)

-- what the decoder wrote into a slice of the right length
pub decoded-into : (s back new : List ℕ) (r : Result ℕ DecodeSliceError) → AreSymbols s → AreBytes s → 0 < length s
    → length s % 4 ≡ 0 → length back ≡ length s / 4 * 3
    → r ≡ decode_slice_of standard s (length back) → OnOk r (IsWrittenOver (decoded_bytes_of standard s) back new) → new
    ≡ bytes_of_sextets (filter_map sextet s)
decoded-into s back new r h bytes some whole room e written =
    let m : ℕ = length s / 4 - 1 in
    let size : length s ≡ 4 * suc m = omega arith in
    let three : length back ≡ 3 * suc m = omega arith in
    let ok : r ≡ Ok (3 * suc m) = grind (arith, decode_slice_is) in
    let over : new ≡ decoded_bytes_of standard s ++ drop (length (decoded_bytes_of standard s)) back =
    grind arith
    in
    let none : drop (length (decoded_bytes_of standard s)) back ≡ [] =
    grind (arith, drop_all) in
    cc (none, append-nil (decoded_bytes_of standard s), decoded_is s h bytes m size)

-- ---- symbols of any text

pub below : (b : ℕ) → is_symbol b ≡ true → b < 256
below b is = grind (arith, cases_lt, nat_tests, ne_eqb)

pub AreBytes-symbols : (s : List ℕ) → AreSymbols s → AreBytes s
AreBytes-symbols [] h k = omega arith
AreBytes-symbols (x ∷ s) h zero = below x (h 0 (omega arith))
AreBytes-symbols (x ∷ s) h (suc k) = AreBytes-symbols s (λ j lt. h (suc j) (omega arith)) k

-- whole groups at the front
pub bytes_of_symbols-groups : (s later : List ℕ) → AreSymbols s → length s % 4 ≡ 0 → bytes_of_symbols (s ++ later)
    ≡ bytes_of_symbols s ++ bytes_of_symbols later
bytes_of_symbols-groups s later h whole =
    let values : filter_map sextet s ≡ map value s = sextets-symbols s h (AreBytes-symbols s h) in
    let size : length (filter_map sextet s) ≡ 4 * (length s / 4) = grind (arith, length-map)
    in
    cc (
      filter_map-append sextet s later,
      bytes_of_sextets-append (length s / 4) (filter_map sextet s)
          (filter_map sextet later) size,
    )

-- a byte outside the alphabet is skipped
pub bytes_of_symbols-other : (front later : List ℕ) (b : ℕ) → sextet b ≡ None → bytes_of_symbols (front ++ b ∷ later)
    ≡ bytes_of_symbols (front ++ later)
bytes_of_symbols-other front later b other = grind (arith, filter_map-append)

-- ---- the fourth symbol of a group

module _ (symbols : List ℕ) (count symbol : ℕ) (size : length symbols ≡ 4) (third : count ≡ 3)
    (held : (k : ℕ) → k < count → is_symbol (slice_index symbols k) ≡ true) (is : is_symbol symbol ≡ true) where
  pub hold-symbols : AreSymbols (slice_set symbols count symbol)
  hold-symbols k lt =
      let inside : count < length symbols = omega arith in
      grind (arith, length-set, each)
    where
      each : count < length symbols → k < 4 → (k ≡ count) ⊎ (k ≡ count → ⊥)
          → is_symbol (slice_index (slice_set symbols count symbol) k) ≡ true
      each h h2 h3 = grind (arith, get_or-set_same, get_or-set_other)

  pub hold-bytes : (later old new : List ℕ) → new ≡ old ++ bytes_of_symbols (slice_set symbols count symbol)
      → new ++ bytes_of_symbols later ≡ old ++ bytes_of_symbols (take count symbols ++ symbol ∷ later)
  hold-bytes later old new e =
      let group : List ℕ = slice_set symbols count symbol in
      let full : length group ≡ 4 = length-set symbols count symbol ∙ size in
      let inside : count < length symbols = omega arith in
      let front : take count symbols ++ symbol ∷ [] ≡ group = sym (take_more_set symbols count symbol inside)
      ∙ take_all (count + 1) group (omega arith) in
      let whole : length group % 4 ≡ 0 = rw full refl in
      cc (
        append_assoc old (bytes_of_symbols group) (bytes_of_symbols later),
        bytes_of_symbols-groups group later hold-symbols whole,
        front,
        append_assoc (take count symbols) (symbol ∷ []) later,
      )

-- ---- the groups of a text, if no symbol is held

pub text-groups : (symbols : List ℕ) (count : ℕ) (rest : List ℕ) (n : ℕ) → count ≡ 0 → n ≤ length rest → n % 4 ≡ 0
    → ((k : ℕ) → k < n → is_symbol (slice_index rest k) ≡ true)
    → (later old new : List ℕ) → new ≡ old ++ bytes_of_symbols (take n rest) → (after : List ℕ) → after ≡ drop n rest
    → new ++ bytes_of_symbols (take count symbols ++ (after ++ later))
    ≡ old ++ bytes_of_symbols (take count symbols ++ (rest ++ later))
text-groups symbols count rest n none fits whole are later old new e after f =
    let run : List ℕ = take n rest in
    let size : length run ≡ n = length-take-le n rest fits in
    let symbols : AreSymbols run = grind (arith, get_or-take) in
    let split : run ++ (after ++ later) ≡ rest ++ later = cc (append_assoc run after later, take-append-drop n rest) in
    grind (arith, append_assoc, bytes_of_symbols-groups)

-- a byte that is skipped
pub text-other : (front rest others : List ℕ) (b : ℕ) → rest ≡ b ∷ others → sextet b ≡ None → (later : List ℕ)
    → bytes_of_symbols (front ++ (others ++ later)) ≡ bytes_of_symbols (front ++ (rest ++ later))
text-other front rest others b e other later = grind (arith, bytes_of_symbols-other)
