-- `split` divides a page in two with a head between them, which leaves the whole order the same.
use Rattle.mail_index.proofs.Words.{rules, set, arith, common_steps, ◌<◌, length, map-set, get_or-map, ◌≡◌, ◌∷◌, get_or, drop}
use Rattle.mail_index.specs.declared.build.key_front.Fronted.{Fronted}
use Rattle.mail_index.proofs.BuildLaws.PageLemmas.{parted, row-is}
use Rattle.mail_index.proofs.BuildLaws.SigningLemmas.{from-place}
use Rattle.mail_index.proofs.build.key_order.split.Goals as goal

abbrev none : Fronted
none = record { number = 0; front = 0 }

-- one page more: it comes after the page that was shortened
pub returns-then-is_ok-clause-same : goal.returns-then-is_ok-clause-same
returns-then-is_ok-clause-same c =
    let row = c.as_slice-row.result.now in
    let cut : get_or row c.args.half none ∷ c.in-Ok.rest.items ≡ drop c.args.half row =
    let inside : c.args.half < length row = grind (arith, row-is) in
    first_of (
      search (rules, from-place row c.args.half none inside),
      grind (arith, common_steps, from-place),
    ) in
    grind (arith, row-is, set, parted, map-set, get_or-map)
