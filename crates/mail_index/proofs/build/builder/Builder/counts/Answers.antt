-- `Builder::counts` never overflows, because the limits keep each section small.
use Rattle.mail_index.proofs.Words.{◌≡◌, None, length, map, refl, sym, subst, rules, arith, common_steps, Draft}
use Rattle.mail_index.specs.Inside.Drafts.{draft_of_fields, kept_archive}
use Rattle.mail_index.proofs.BuildLaws.DraftLemmas.{message_count-within}
use Rattle.mail_index.proofs.BuildLaws.Sizes.{length-archives, length-texts, length-all_postings, counted_length-small}
use Rattle.mail_index.proofs.build.builder.Builder.counts.Goals as goal

pub archives_length-requires : goal.archives_length-requires
archives_length-requires c = rw c.as_slice.ensures.value (omega (arith, length-archives))

pub key_bytes-text_bytes-requires-clause-texts : goal.key_bytes-text_bytes-requires-clause-texts
key_bytes-text_bytes-requires-clause-texts c = rw c.in_order.ensures (omega (arith, length-texts))

pub key_bytes-text_bytes-requires-clause-postings : goal.key_bytes-text_bytes-requires-clause-postings
key_bytes-text_bytes-requires-clause-postings c = grind (arith, message_count-within, length-all_postings)

pub returns-clause-small : goal.returns-clause-small
returns-clause-small c =
    let d = draft_of_fields c.self.inside.most c.self.inside.path c.self.inside.in_message c.self.inside.archives.items
    c.self.inside.records.items c.self.inside.keys.keys c.self.inside.failed in
    let archive_count : c.len.result ≡ length (map kept_archive c.self.inside.archives.items) =
    first_of (search rules, grind (arith, common_steps)) in
    let message_count_is : c.len-2.result ≡ length c.self.inside.records.items =
    first_of (search rules, grind (arith, common_steps)) in
    counted_length-small _ _ _ (record {
      version = refl;
      archives = archive_count;
      messages = message_count_is;
      keys = c.len-3.ensures;
      archive_bytes = rw c.as_slice.ensures.value at c.archives_length.ensures;
      text_bytes = rw c.in_order.ensures at c.key_bytes-text_bytes.ensures.texts;
      posting_bytes = rw c.in_order.ensures at c.key_bytes-text_bytes.ensures.postings;
    }) (omega arith) (omega arith) (omega arith) (omega (arith, message_count-within)) c.self.invariant.0.named
    c.self.invariant.0.listed

pub in_order-requires : goal.in_order-requires
in_order-requires c = c.self.invariant.1 (subst (λ (d : Draft). d.path ≡ None) (sym c.self.view_is) c.requires)
