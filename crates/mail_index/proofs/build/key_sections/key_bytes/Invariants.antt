-- The sums so far, with the bytes of the keys that still come, are those of all keys.
use Rattle.mail_index.proofs.Words.{◌≡◌, ◌+◌, length, map, entry_of_key, texts_of, postings_of}
use Rattle.mail_index.proofs.build.key_sections.key_bytes.Given as goal

abbrev pub invariant-loop-key : goal.invariant-loop-key
invariant-loop-key l = record {
  texts : l.texts + length (texts_of (map entry_of_key l.key-iterator))
      ≡ length (texts_of (map entry_of_key l.fn.keys));
  postings : l.postings + length (postings_of (map entry_of_key l.key-iterator))
      ≡ length (postings_of (map entry_of_key l.fn.keys));
}
