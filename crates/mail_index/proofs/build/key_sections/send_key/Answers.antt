-- `send_key` writes one part of a key, by the cases of the part.
use Rattle.mail_index.proofs.Words.{arith}
use Rattle.mail_index.proofs.build.key_sections.send_key.Goals as goal

pub returns-in-Entry-clause-written : goal.returns-in-Entry-clause-written
returns-in-Entry-clause-written g c =
    rw c.in-Entry.is
    (rw (
      c.as_flattened.ensures.value,
      c.number_and_text-number.ensures.number,
      c.to_be_bytes.ensures,
      c.number_and_text-number.ensures.text,
      c.as_flattened-in-Entry.ensures.value,
      c.to_be_bytes-in-Entry.ensures,
      c.to_be_bytes-in-Entry-2.ensures,
    ) at c.send_parts.ensures.written)

pub returns-in-Text-clause-written : goal.returns-in-Text-clause-written
returns-in-Text-clause-written g c = grind arith
