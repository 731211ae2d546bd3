-- `KeyOrder::find` searches the heads and then one page, and its gap there is the gap of the whole order.
use Rattle.mail_index.proofs.Words.{◌≡◌, ◌∙◌, ◌<◌, ◌≤◌, [], length, ap, arith}
use Rattle.mail_index.specs.declared.build.key_front.Fronted.{Fronted}
use Rattle.mail_index.proofs.BuildLaws.PageLemmas.{heads-all, row-all, row-is}
use Rattle.mail_index.proofs.BuildLaws.KeyMapLemmas.{slots-long, gap-found, among-head, among-page}
use Rattle.mail_index.proofs.build.key_order.KeyOrder.find.Goals as goal

pub search-requires-clause-fronted : goal.search-requires-clause-fronted
search-requires-clause-fronted c = grind (arith, heads-all)

pub search-requires-2-clause-fronted : goal.search-requires-2-clause-fronted
search-requires-2-clause-fronted c = grind (arith, slots-long, row-is, row-all)

pub returns-in-Err-search-clause-place : goal.returns-in-Err-search-clause-place
returns-in-Err-search-clause-place c =
    let low : c.in-Err.page ≤ length c.as_slice.result.now =
    omega (arith, c.in-Err.ensures.place.within, slots-long c.args.entries.now c.as_slice.result.now) in
    let inside : c.in-Err.page < length c.args.self.now.pages.items =
    omega (arith, ap length c.as_slice.ensures.value) in
    let row = c.as_slice-2.ensures.value ∙ row-is _ _ _ inside c.index.ensures in
    let outer = rw c.as_slice.ensures.value at c.in-Err.ensures.place in
    record {
      inside = record {
        page = inside;
        at = omega (
          arith,
          c.in-Err-search.ensures.place.within,
          slots-long c.args.entries.now c.as_slice-2.result.now,
          ap length row,
        );
      };
      gap = gap-found _ _ _ _ _ _ _ _ c.requires.between inside row outer c.in-Err-search.ensures.place;
      front = c.front_of_key-front.ensures;
    }

pub returns-in-Ok-clause-among : goal.returns-in-Ok-clause-among
returns-in-Ok-clause-among c = among-head _ _ _ c.requires.between
    (rw (← c.as_slice.ensures.value) c.in-Ok.ensures.among)

pub returns-in-Ok-search-clause-among : goal.returns-in-Ok-search-clause-among
returns-in-Ok-search-clause-among c =
    let low : c.in-Err.page ≤ length c.as_slice.result.now =
    omega (arith, c.in-Err.ensures.place.within, slots-long c.args.entries.now c.as_slice.result.now) in
    let inside : c.in-Err.page < length c.args.self.now.pages.items =
    omega (arith, ap length c.as_slice.ensures.value) in
    let row = c.as_slice-2.ensures.value ∙ row-is _ _ _ inside c.index.ensures in
    among-page _ _ _ _ _ c.requires.between inside row c.in-Ok-search.ensures.among
