-- `day_token` passes the name of a day as the definition does: if the first token is letters alone, the next one comes
-- first.
use Rattle.mail_dates.proofs.Words.{◌≡◌, ℕ, List, [], ◌∷◌, true, sym, ◌∙◌, list_all, date_tokens, with_first, without_day_name, arith}
use Rattle.std.specs.Char.{is_ascii_alphabetic}
use Rattle.mail_dates.proofs.header_date.day_token.Goals as goal

named : (first rest day later : List ℕ) → (first ≡ [] → rest ≡ []) → list_all is_ascii_alphabetic first ≡ true
    → date_tokens rest ≡ with_first day later → without_day_name (with_first first rest) ≡ with_first day later
unfolding date_tokens
named first rest day later h h2 h3 = grind arith

pub returns-then-are_letters : goal.returns-then-are_letters
returns-then-are_letters c =
    cc (
      c.next_token.ensures.tokens,
      named c.next_token.result.0.now c.next_token.result.1.now _ _
          c.next_token.ensures.none (sym c.are_letters.ensures ∙ c.if-are_letters.true)
          c.next_token-then-are_letters.ensures.tokens,
    )
