-- `has_wildcard` is as defined also for a text without `*`, `?` and `[`, because then only three dots count.
use Rattle.mairix_options.proofs.Words.{codes, ◌≡◌, ◌==◌, ◌||◌, false, ◌∙◌, sym, list_any, contains_text}
use Rattle.mairix_options.proofs.Searches.{list_any-found, has_three_dots-found}
use Rattle.mairix_options.proofs.path.has_wildcard.Goals as goal

pub returns-else-is_some : goal.returns-else-is_some
returns-else-is_some c =
    let text = c.args.text.now in
    let none : list_any (λ b. b == 42 || b == 63 || b == 91) text ≡ false =
    list_any-found (λ b. b == 42 || b == 63 || b == 91) c.as_bytes.result.now text c.memchr3.result
    c.as_bytes.ensures.value c.memchr3.ensures ∙ sym c.is_some.ensures ∙ c.if-is_some.false in
    rw none (has_three_dots-found text c.contains.result
    (contains_text c.contains.result (codes "...") text c.contains.ensures.cases))
