-- Parameters piece by piece: each piece is shorter than the bytes that it begins, so the recursion ends.
use Rattle.mime_text.proofs.Words.{◌≡◌, ◌∙◌, ◌<◌, ◌≤◌, ◌+◌, ◌++◌, ◌==◌, ℕ, zero, suc, Bool, true, false, List, [], ◌∷◌, Option, Some, None, length, cond, refl, sym, ap, arith, length-append, option_map, find, option_map_or, option_to_list, split_while, after_blanks, without_outer_blanks, cut_at, length-split_while, split_while-joined, IsCut-from, Parameter, Piece, quoted_and_rest, value_and_rest, is_parameter_name_byte, after_semicolon, piece_of, parameters_within, parameters_after, first_named, parameter}
use Rattle.header_text.specs.Names.{is_named}

-- ---- what follows is shorter

length-after_blanks : (bs : List ℕ) → length (after_blanks bs) ≤ length bs
length-after_blanks [] = omega arith
length-after_blanks (b ∷ bs) = grind (arith, length-after_blanks bs)

-- what is between quotes and what follows them are together no longer than the bytes
length-quoted : (bs : List ℕ) → length (quoted_and_rest bs).0 + length (quoted_and_rest bs).1 ≤ length bs
length-quoted [] = omega arith
length-quoted (b ∷ []) = grind arith
length-quoted (b ∷ c ∷ bs) = grind (arith, length-quoted bs, length-quoted (c ∷ bs))

length-value_and_rest : (bs : List ℕ) → length (value_and_rest bs).1 ≤ length bs
length-value_and_rest bs = grind (arith, length-quoted, length-split_while)

length-after : (bs rest : List ℕ) (o : Option (List ℕ × List ℕ)) → cut_at 0x3B bs ≡ o → option_map (λ parts. parts.1) o
    ≡ Some rest → length rest < length bs
length-after bs rest None e h = absurd (cc h)
length-after bs rest (Some (x, y)) e h = grind (arith, (IsCut-from 0x3B bs x y e).joined, length-append x (0x3B ∷ y))

length-after_semicolon : (bs rest : List ℕ) → after_semicolon bs ≡ Some rest → length rest < length bs
length-after_semicolon bs rest h = length-after bs rest (cut_at 0x3B bs) refl h

piece_after : List ℕ → List ℕ → Piece
piece_after name after = elim after [
  | [] ↦ record { parameter = None; later = None }
  | c ∷ rest ↦ elim (c == 0x3D) [
    | false ↦ record { parameter = None; later = Some rest }
    | true ↦ record {
      parameter = Some (record { name = name; value = (value_and_rest (after_blanks rest)).0 });
      later =
          after_semicolon (value_and_rest (after_blanks rest)).1;
    }
  ]
]

later-shorter_after : (name after rest : List ℕ) → (piece_after name after).later ≡ Some rest
    → length rest < length after
unfolding piece_after
later-shorter_after name [] rest h = absurd (cc h)
later-shorter_after name (c ∷ bs) rest h =
    grind (
      arith,
      length-after_semicolon (value_and_rest (after_blanks bs)).1 rest,
      length-value_and_rest (after_blanks bs),
      length-after_blanks bs,
    )

pub later-shorter : (bs rest : List ℕ) → (piece_of bs).later ≡ Some rest → length rest < length bs
unfolding piece_of piece_after
later-shorter bs rest h = grind (
  arith,
  length-split_while is_parameter_name_byte bs,
  later-shorter_after (without_outer_blanks (split_while is_parameter_name_byte bs).0)
      (split_while is_parameter_name_byte bs).1
      rest h,
)

-- ---- any number of pieces that is large enough gives the same parameters

within-nil : (n : ℕ) → parameters_within n [] ≡ []
unfolding piece_of
within-nil n = grind arith

within-enough : (n m : ℕ) (bs : List ℕ) → length bs ≤ n → length bs ≤ m → parameters_within n bs
    ≡ parameters_within m bs
within-enough n m [] h k = within-nil n ∙ sym (within-nil m)
within-enough zero m (b ∷ bs) h k = absurd (omega arith)
within-enough (suc n) zero (b ∷ bs) h k = absurd (omega arith)
within-enough (suc n) (suc m) (b ∷ bs) h k = grind (arith, later-shorter (b ∷ bs), within-enough n m)

after-nil : [] ≡ option_to_list (piece_of []).parameter ++ parameters_after (piece_of []).later
unfolding piece_of
after-nil = refl

-- the parameters with one piece more
pub after-step : (bs : List ℕ) → parameters_after (Some bs)
    ≡ option_to_list (piece_of bs).parameter ++ parameters_after (piece_of bs).later
after-step [] = after-nil
after-step (b ∷ bs) = grind (arith, later-shorter (b ∷ bs), within-enough)

-- a piece that is no parameter, a parameter with another name, and one with the name
pub named-none : (name bs : List ℕ) → (piece_of bs).parameter ≡ None → first_named name (parameters_after (Some bs))
    ≡ first_named name (parameters_after (piece_of bs).later)
named-none name bs e = grind (arith, after-step)

pub named-other : (name bs : List ℕ) (p : Parameter) → (piece_of bs).parameter ≡ Some p → is_named p.name name ≡ false
    → first_named name (parameters_after (Some bs)) ≡ first_named name (parameters_after (piece_of bs).later)
named-other name bs p e f = grind (arith, after-step)

pub named-found : (name bs : List ℕ) (p : Parameter) → (piece_of bs).parameter ≡ Some p → is_named p.name name ≡ true
    → first_named name (parameters_after (Some bs)) ≡ Some p.value
named-found name bs p e f = grind (arith, after-step)

abbrev parameter_of : List ℕ → List ℕ → Parameter
parameter_of name value = record { name = name; value = value }

pub piece-other : {A : Type 0} (o : Option A) (now : A → List ℕ) (name value bs : List ℕ)
    → option_map (λ a. parameter_of (now a) value) o ≡ (piece_of bs).parameter
    → option_map_or (λ a. is_named (now a) name) o false ≡ false → first_named name (parameters_after (Some bs))
    ≡ first_named name (parameters_after (piece_of bs).later)
piece-other None now name value bs e f = named-none name bs (sym e)
piece-other (Some a) now name value bs e f = named-other name bs (parameter_of (now a) value) (sym e) f

pub piece-found : {A : Type 0} (o : Option A) (now : A → List ℕ) (name value bs : List ℕ)
    → option_map (λ a. parameter_of (now a) value) o ≡ (piece_of bs).parameter
    → option_map_or (λ a. is_named (now a) name) o false ≡ true → first_named name (parameters_after (Some bs))
    ≡ Some value
piece-found None now name value bs e f = absurd (cc f)
piece-found (Some a) now name value bs e f = named-found name bs (parameter_of (now a) value) (sym e) f

-- after a piece fewer bytes are left
pub later-measure : {A : Type 0} (before : Option A) (now : A → List ℕ) (a : A) (o : Option (List ℕ)) → before ≡ Some a
    → (piece_of (now a)).later ≡ o
    → option_map_or (λ rest. suc (length rest)) o 0 < option_map_or (λ rest. suc (length rest)) (option_map now before)
    0
later-measure before now a o h h2 = grind (arith, later-shorter)

-- a piece that is a name, `=` and a value
pub piece-parameter : (text rest : List ℕ) (sign : ℕ) → (split_while is_parameter_name_byte text).1 ≡ sign ∷ rest
    → (sign == 0x3D) ≡ true
    → (piece_of text).parameter ≡ Some (record {
      name = without_outer_blanks (split_while is_parameter_name_byte text).0;
      value =
          (value_and_rest (after_blanks rest)).0;
    })
unfolding piece_of
piece-parameter text rest sign e f = rw (e, f, piece_of) refl

-- ---- a value is no longer than the bytes in which it is

size-front : (p : ℕ → Bool) (bs : List ℕ) → length (split_while p bs).0 ≤ length bs
size-front p bs = let joined = ap length (split_while-joined p bs)
    in omega (arith, joined, length-append (split_while p bs).0 (split_while p bs).1)

size-value : (bs : List ℕ) → length (value_and_rest bs).0 ≤ length bs
size-value bs = grind (arith, length-quoted, size-front)

-- the length of a parameter's value, 0 if there is no parameter
abbrev size_of : Option Parameter → ℕ
size_of None = 0
size_of (Some p) = length p.value

size-piece_after : (name after : List ℕ) → size_of (piece_after name after).parameter ≤ length after
unfolding piece_after
size-piece_after name after = grind (arith, size-value, length-after_blanks)

size-piece : (bs : List ℕ) → size_of (piece_of bs).parameter ≤ length bs
unfolding piece_of piece_after
size-piece bs = grind (
  arith,
  length-split_while is_parameter_name_byte bs,
  size-piece_after (without_outer_blanks (split_while is_parameter_name_byte bs).0)
      (split_while is_parameter_name_byte bs).1,
)

size-within : (n : ℕ) (name bs found : List ℕ) → first_named name (parameters_within n bs) ≡ Some found
    → length found ≤ length bs
size-within zero name bs found h = absurd (cc h)
size-within (suc n) name bs found h = by_piece (piece_of bs).parameter refl (λ rest. size-within n name rest found) h
  where
    others : Option (List ℕ) → List Parameter
    others o = option_map_or (λ rest. parameters_within n rest) o []

    by_later : (o : Option (List ℕ)) → (piece_of bs).later ≡ o
        → ((rest : List ℕ) → first_named name (parameters_within n rest) ≡ Some found → length found ≤ length rest)
        → first_named name (others o) ≡ Some found → length found ≤ length bs
    by_later o h h2 h3 = grind (arith, later-shorter)

    by_name : (p : Parameter) → (piece_of bs).parameter ≡ Some p → (t : Bool) → is_named p.name name ≡ t
        → ((rest : List ℕ) → first_named name (parameters_within n rest) ≡ Some found → length found ≤ length rest)
        → option_map (λ (q : Parameter). q.value)
        (cond t (Some p) (find (λ (q : Parameter). is_named q.name name) (others (piece_of bs).later))) ≡ Some found
        → length found ≤ length bs
    by_name p e true f same h =
        let here = size-piece bs in
        grind arith
    by_name p e false f same h = by_later (piece_of bs).later refl same h

    by_piece : (o : Option Parameter) → (piece_of bs).parameter ≡ o
        → ((rest : List ℕ) → first_named name (parameters_within n rest) ≡ Some found → length found ≤ length rest)
        → first_named name (option_to_list o ++ others (piece_of bs).later) ≡ Some found → length found ≤ length bs
    by_piece o h h2 h3 = grind (arith, by_later, by_name)

size-after : (name value found : List ℕ) (o : Option (List ℕ)) → after_semicolon value ≡ o
    → first_named name (parameters_after o) ≡ Some found → length found ≤ length value
size-after name value found o h h2 = grind (arith, length-after_semicolon, size-within)

pub parameter-size : (name value found : List ℕ) → parameter name value ≡ Some found → length found ≤ length value
unfolding parameter
parameter-size name value found h = grind (arith, size-after)
