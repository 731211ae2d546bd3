-- `send_counts` writes the front of the file, because it has the bytes of each number in order.
use Rattle.mail_index.proofs.Words.{◌≡◌, ◌∙◌, ap, be32}
use Rattle.mail_index.proofs.build.sections.send_counts.Goals as goal

pub returns-clause-written : goal.returns-clause-written
returns-clause-written g c =
    let version = c.to_be_bytes.ensures ∙ ap be32 c.number.ensures in
    rw (
      c.as_slice.ensures,
      c.as_flattened.ensures.value,
      version,
      c.to_be_bytes-2.ensures,
      c.to_be_bytes-3.ensures,
      c.to_be_bytes-4.ensures,
      c.as_flattened-2.ensures.value,
      c.to_be_bytes-5.ensures,
      c.to_be_bytes-6.ensures,
      c.to_be_bytes-7.ensures,
    ) at c.send_parts.ensures.written
