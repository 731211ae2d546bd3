-- The parts of the keys so far were written, and the places are those of the next key.
use Rattle.mail_index.proofs.Words.{◌≡◌, ◌+◌, length, map, entry_of_key, texts_of, postings_of}
use Rattle.mail_index.specs.Inside.KeyParts.{keys_from}
use Rattle.mail_index.specs.Inside.Signing.{IsSigning}
use Rattle.mail_index.proofs.build.key_sections.send_keys.Given as goal

abbrev pub invariant-loop-key : goal.invariant-loop-key
invariant-loop-key g l =
    IsSigning (g.O.Out.taken l.fn.out) (g.O.Out.taken l.out) l.fn.signer l.signer
    (keys_from l.part 0 0 (map entry_of_key l.fn.keys))
    (keys_from l.part l.text_place l.place (map entry_of_key l.key-iterator))
    × (g.O.Out.failures l.out ≡ g.O.Out.failures l.fn.out)
    × (l.text_place + length (texts_of (map entry_of_key l.key-iterator))
    ≡ length (texts_of (map entry_of_key l.fn.keys)))
    × (l.place + length (postings_of (map entry_of_key l.key-iterator))
    ≡ length (postings_of (map entry_of_key l.fn.keys)))
