-- `send_keys` writes one part of all keys as one text, key by key.
use Rattle.mail_index.proofs.Words.{◌≡◌, ◌∙◌, ℕ, ◌+◌, List, [], ◌∷◌, ◌++◌, length, map, refl, ap, arith, length-append, Key, DirectoryEntry, postings, entry_of_key, texts_of, postings_of}
use Rattle.mail_index.specs.declared.build.key_sections.KeyPart.{KeyPart}
use Rattle.mail_index.specs.declared.build.key_sections.KeyPart.TheVariants.{Entry as InEntry, Text as InText, Postings as InPostings}
use Rattle.mail_index.specs.Inside.KeyParts.{key_part, keys_from}
use Rattle.mail_index.proofs.BuildLaws.SigningLemmas.{signing-start, signing-next, signing-stop}
use Rattle.mail_index.proofs.build.key_sections.send_keys.Goals as goal

keys_from-next : (part : KeyPart) (text_place place : ℕ) (e : DirectoryEntry) (es : List DirectoryEntry)
    → keys_from part text_place place (e ∷ es)
    ≡ key_part part text_place place e ++ keys_from part (text_place + length e.text) (place + length e.postings) es
keys_from-next InEntry text_place place e es = refl
keys_from-next InText text_place place e es = refl
keys_from-next InPostings text_place place e es = refl

keys_from-none : (part : KeyPart) (text_place place : ℕ) → keys_from part text_place place [] ≡ []
keys_from-none InEntry text_place place = refl
keys_from-none InText text_place place = refl
keys_from-none InPostings text_place place = refl

pub loop-key-init : goal.loop-key-init
loop-key-init g c = grind (arith, texts_of, entry_of_key, postings_of, signing-start)

pub returns-in_err-send_key-clause-written : goal.returns-in_err-send_key-clause-written
returns-in_err-send_key-clause-written g c =
    signing-stop _ _ _ (key_part c.args.part c.loop-key.text_place c.loop-key.place (entry_of_key c.in-Some.key.now)) _
    c.from_residual.ensures.0 c.loop-key.invariant.0
    (ap (λ (keys : List Key). keys_from c.args.part c.loop-key.text_place c.loop-key.place (map entry_of_key keys))
    c.in-Some.ensures.steps ∙ keys_from-next c.args.part c.loop-key.text_place c.loop-key.place
    (entry_of_key c.in-Some.key.now) (map _ _)) c.in_err-send_key.ensures.written

pub loop-key-preserved : goal.loop-key-preserved
loop-key-preserved g c =
    let text : c.text.result.now ≡ c.in-Some.key.now.text = c.text.ensures.text in
    let numbers : c.postings_length.result ≡ length (postings c.in-Some.key.now.numbers) = c.postings_length.ensures in
    let texts : length (texts_of (map entry_of_key c.loop-key.key-iterator))
    ≡ length c.in-Some.key.now.text + length (texts_of (map entry_of_key c.next.new.self)) =
    ap (λ (keys : List Key). length (texts_of (map entry_of_key keys))) c.in-Some.ensures.steps
    ∙ length-append c.in-Some.key.now.text (texts_of (map entry_of_key c.next.new.self)) in
    let places : length (postings_of (map entry_of_key c.loop-key.key-iterator))
    ≡ length (postings c.in-Some.key.now.numbers) + length (postings_of (map entry_of_key c.next.new.self)) =
    ap (λ (keys : List Key). length (postings_of (map entry_of_key keys))) c.in-Some.ensures.steps
    ∙ length-append (postings c.in-Some.key.now.numbers) (postings_of (map entry_of_key c.next.new.self)) in
    rw (text, numbers) (
      signing-next (key_part c.args.part c.loop-key.text_place c.loop-key.place (entry_of_key c.in-Some.key.now)) _
          c.loop-key.invariant.0
          (ap (λ (keys : List Key). keys_from c.args.part c.loop-key.text_place c.loop-key.place
          (map entry_of_key keys))
          c.in-Some.ensures.steps
          ∙ keys_from-next c.args.part c.loop-key.text_place c.loop-key.place (entry_of_key c.in-Some.key.now)
          (map entry_of_key c.next.new.self)) c.in_ok-send_key.ensures.written,
      c.in_ok-send_key.ensures.count ∙ c.loop-key.invariant.1,
      omega (arith, texts, c.loop-key.invariant.2),
      omega (arith, places, c.loop-key.invariant.3),
    )
