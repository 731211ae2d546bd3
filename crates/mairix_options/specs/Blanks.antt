-- A text without the spaces and tabs at its ends.
use Rattle.std.specs.Prelude.{ℕ, ◌-◌, List, length, take, drop}
use Rattle.std.specs.List.{prefix_len, suffix_len}
use Rattle.contract_words.specs.Blanks.{is_blank}

-- the text without the spaces and tabs at both ends
unfoldable pub text_without_blanks : List ℕ → List ℕ
text_without_blanks text =
    let rest = drop (prefix_len is_blank text) text in
    take (length rest - suffix_len is_blank rest) rest
