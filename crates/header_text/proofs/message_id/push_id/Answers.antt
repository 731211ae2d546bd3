-- `push_id` adds the id at the end of one text unless it is empty, because it keeps exactly the bytes of an id.
use Rattle.header_text.proofs.Words.{◌≡◌, ◌∙◌, filter, rules, arith, map-append, append-nil, is_id_byte}
use Rattle.std.proofs.lemmas.Fn.{filter_same}
use Rattle.header_text.proofs.message_id.push_id.Goals as goal

pub returns-in_ok-push : goal.returns-in_ok-push
returns-in_ok-push c =
    let id : c.retain.new.self.items ≡ filter is_id_byte c.in-Some.inner.now =
    cc (filter_same _ is_id_byte _ (λ x b f' k. search rules) _ _ c.retain.ensures.filtered, c.in_ok-id.ensures.items)
    in
    grind (arith, map-append)

pub returns-else-not-is_empty : goal.returns-else-not-is_empty
returns-else-not-is_empty c =
    let id : c.retain.new.self.items ≡ filter is_id_byte c.in-Some.inner.now =
    cc (filter_same _ is_id_byte _ (λ x b f' k. search rules) _ _ c.retain.ensures.filtered, c.in_ok-id.ensures.items)
    in
    grind (arith, append-nil)
