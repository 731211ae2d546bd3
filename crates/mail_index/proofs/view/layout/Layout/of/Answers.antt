-- `Layout::of` divides the file as its counts say, because no sum overflows if the sections fit.
use Rattle.mail_index.proofs.Words.{rules, ◌≡◌, ◌-◌, ◌^◌, ◌<◌, ◌∙◌, ap, ap₂, arith, slice_range, common_steps, records_start, directory_start, texts_start, postings_start, digest_start}
use Rattle.mail_index.proofs.view.layout.Layout.of.Goals as goal

pub returns : goal.returns
returns c =
    let bytes = c.args.bytes.now in
    let low : c.saturating_add-digest.result < 2 ^ 64 - 1 = grind arith in
    let records : c.saturating_add-records.result ≡ records_start bytes = grind arith in
    let directory : c.saturating_add-directory.result ≡ directory_start bytes = grind arith in
    let texts : c.saturating_add-texts.result ≡ texts_start bytes = grind arith in
    let postings : c.saturating_add-postings.result ≡ postings_start bytes = grind arith in
    let digest : c.saturating_add-digest.result ≡ digest_start bytes = grind arith in
    record {
      adds_up = first_of (search (rules, digest), grind (arith, common_steps));
      few = first_of (search rules, grind (arith, common_steps));
      version = c.requires.version;
      archive_count = c.u32_at.ensures;
      few_messages = first_of (search rules, grind (arith, common_steps));
      message_count = c.u32_at-message_count.ensures;
      key_count = c.u32_at-key_count.ensures;
      archives = c.part.ensures ∙ ap (λ n. slice_range bytes 48 n) records;
      records = c.part-2.ensures ∙ ap₂ (λ m n. slice_range bytes m n) records directory;
      directory = c.part-3.ensures ∙ ap₂ (λ m n. slice_range bytes m n) directory texts;
      texts = c.part-4.ensures ∙ ap₂ (λ m n. slice_range bytes m n) texts postings;
      postings = c.part-5.ensures ∙ ap₂ (λ m n. slice_range bytes m n) postings digest;
    }
