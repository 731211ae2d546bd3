-- The flags that a pattern `F:` names, read letter by letter.
use Rattle.std.specs.Prelude.{ℕ, ◌==◌, ◌||◌, Bool, true, not, List, [], ◌∷◌, Option, Some, None, if◌then◌else◌}
use Rattle.std.specs.Prelude.{option_map, option_and_then}
use Rattle.mail_words.specs.declared.flags.Flag.{Flag}
use Rattle.mail_words.specs.declared.flags.Flag.TheVariants.{Seen, Replied, Flagged}
use Rattle.mail_query.specs.Query.{Query, HasFlag, all_of}

-- the flag of a letter, in either case: `s` seen, `r` replied, `f` flagged
abbrev pub flag_of : ℕ → Option Flag
flag_of letter =
    if (letter == 0x73) || (letter == 0x53) then Some Seen
    else (if (letter == 0x72) || (letter == 0x52) then Some Replied
    else (if (letter == 0x66) || (letter == 0x46) then Some Flagged else None))

-- the letter's flag, wanted or not, before the flags that follow; None if any of them is none
abbrev pub with_flag : Bool → ℕ → Option (List Query) → Option (List Query)
with_flag wanted letter rest = option_and_then (λ flag. option_map (λ qs. HasFlag flag wanted ∷ qs) rest)
    (flag_of letter)

-- the flags of the letters; a dash before a letter negates it, and `wanted` is false right after a dash
abbrev pub flags_after : Bool → List ℕ → Option (List Query)
flags_after wanted [] = if wanted then Some [] else None
flags_after wanted (b ∷ bs) =
    let rest = flags_after (not (b == 0x2D)) bs in
    if b == 0x2D then (if wanted then rest else None) else with_flag wanted b rest

-- all of these queries, if there are any
abbrev pub some_of : List Query → Option Query
some_of [] = None
some_of (q ∷ qs) = Some (all_of (q ∷ qs))

-- all flags that the text names, one or more; None for any other text
unfoldable pub flags_of_text : List ℕ → Option Query
flags_of_text text = option_and_then some_of (flags_after true text)
