-- `has_expansion` is as defined also for a text without `$`, because then only a `~` at the front counts.
use Rattle.mairix_options.proofs.Words.{codes, ◌≡◌, ◌==◌, false, ◌∙◌, sym, list_any, starts_text}
use Rattle.mairix_options.proofs.Searches.{list_any-found}
use Rattle.mairix_options.proofs.path.has_expansion.Goals as goal

pub returns-else-is_some : goal.returns-else-is_some
returns-else-is_some c =
    let text = c.args.text.now in
    let none : list_any (λ b. b == 36) text ≡ false =
    list_any-found (λ b. b == 36) c.as_bytes.result.now text c.memchr.result c.as_bytes.ensures.value
    c.memchr.ensures ∙ sym c.is_some.ensures ∙ c.if-is_some.false in
    rw none (starts_text c.starts_with.result (codes "~") text c.starts_with.ensures.cases)
