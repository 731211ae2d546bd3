-- How a boolean query is cut into tokens.
use Rattle.std.specs.Prelude.{ℕ, ◌==◌, Bool, ◌||◌, List, [], ◌∷◌, codes, if◌then◌else◌}
use Rattle.std.specs.Str.{str_eq_ignore_ascii_case}

-- a parenthesis, an operator, or a term
pub data Token : Type 0 where
  Open Close AndSign OrSign NotSign : Token
  Term : List ℕ → Token

-- the token of a run of other bytes: an operator, in any case, or a term
abbrev pub token_of : List ℕ → Token
token_of run =
    if str_eq_ignore_ascii_case run (codes "and") then AndSign
    else (if str_eq_ignore_ascii_case run (codes "or") then OrSign
    else (if str_eq_ignore_ascii_case run (codes "not") then NotSign else Term run))

-- whether the byte is a space, a tab or a line feed
abbrev pub is_blank_or_feed : ℕ → Bool
is_blank_or_feed b = (b == 0x20) || ((b == 0x09) || (b == 0x0A))

-- these tokens, with that of the run before them, if it isn't empty
abbrev pub closed_run : List ℕ → List Token → List Token
closed_run [] ts = ts
closed_run (b ∷ bs) ts = token_of (b ∷ bs) ∷ ts

-- a text as it follows a run: the bytes at its front that belong to the run, and the tokens after them
pub record Cut : Type 0 where
  pub run : List ℕ
  pub after : List Token

-- the tokens of a text that follows no run
abbrev pub all_tokens : Cut → List Token
all_tokens cut = closed_run cut.run cut.after

-- a text cut into the run at its front and the tokens after it
abbrev pub cut_tokens : List ℕ → Cut
cut_tokens [] = record { run = []; after = [] }
cut_tokens (b ∷ bs) = let rest = cut_tokens bs in
    if is_blank_or_feed b then record { run = []; after = all_tokens rest }
    else (if b == 0x28 then record { run = []; after = Open ∷ all_tokens rest }
    else (if b == 0x29 then record { run = []; after = Close ∷ all_tokens rest }
    else record { run = b ∷ rest.run; after = rest.after }))

-- the tokens of a text: each parenthesis, and each longest run of other bytes that aren't blank
unfoldable pub query_tokens : List ℕ → List Token
query_tokens text = all_tokens (cut_tokens text)
