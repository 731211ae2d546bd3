-- Reading the pieces of a text one after another finds a time and a later year.
use Rattle.mbox_cutter.proofs.Words.{◌≡◌, ℕ, ◌+◌, Bool, true, ◌&&◌, ◌||◌, ◌==◌, List, [], ◌∷◌, Some, None, take, drop, get_or, ap, sym, ◌∙◌, arith, list_any, get_or_default, drop-drop, IsFirstByte, is_byte, separator_tokens, has_time_then_year, is_year}
use Rattle.std.proofs.lemmas.List.Sums.{position_or_len_is}
use Rattle.std.proofs.lemmas.List.Splits.{slice_split_first, slice_split_none}
use Rattle.mbox_cutter.proofs.FirstLines.{not_true}

pub tokens-at : (rest : List ℕ) (k : ℕ) → IsFirstByte (is_byte 32) rest (Some k) → separator_tokens rest
    ≡ take k rest ∷ separator_tokens (drop (k + 1) rest)
tokens-at rest k f = grind (arith, position_or_len_is, not_true, slice_split_first)

pub tokens-none : (rest : List ℕ) → IsFirstByte (is_byte 32) rest None → separator_tokens rest ≡ rest ∷ []
tokens-none rest f = slice_split_none (λ (x : ℕ). x == 32) rest
    (λ k d l. not_true (get_or rest k d == 32)
    (λ e. f k (omega arith) l (rw (get_or_default rest k d 0 l) at e)))

pub found : (ts : List (List ℕ)) (token : List ℕ) (rest : List (List ℕ)) (timed : Bool) → ts ≡ token ∷ rest → timed
    ≡ true → is_year token ≡ true →
    true ≡ ((timed && list_any is_year ts) || has_time_then_year ts)
found ts token rest timed e t y = grind arith

pub tokens-split : (rest token more after : List ℕ) (k : ℕ) → IsFirstByte (is_byte 32) rest (Some k) → token
    ≡ take k rest → more ≡ drop k rest → after ≡ drop 1 more → separator_tokens rest ≡ token ∷ separator_tokens after
tokens-split rest token more after k f t m a =
    tokens-at rest k f ∙ cc (
      ap separator_tokens (sym (drop-drop 1 k rest)),
      ap (λ (x : List ℕ). separator_tokens (drop 1 x)) m,
      ap separator_tokens a,
    )
