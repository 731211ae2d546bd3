-- `KeyEntry::postings` returns the bytes after the front, wherever the front is kept.
use Rattle.mail_index.proofs.Words.{◌≡◌, ◌∙◌, ℕ, ◌+◌, ◌++◌, length, ap, sym, arith, length-append, Key, postings}
use Rattle.mail_index.specs.Inside.KeyMaps.{key_bytes}
use Rattle.mail_index.proofs.BuildLaws.EntryLemmas.{after-short, after-long}
use Rattle.mail_index.proofs.build.key_entry.KeyEntry.postings.Goals as goal
use Rattle.mail_index.proofs.build.key_entry.KeyEntry.postings.Goals.{then-length-lt-SHORT, else-length-lt-SHORT}

pub returns-clause-bytes : goal.returns-clause-bytes
returns-clause-bytes c = grind (arith, then-length-lt-SHORT, after-short, else-length-lt-SHORT, after-long, postings)

pub returns-clause-small : goal.returns-clause-small
returns-clause-small c =
    let front : ℕ = c.self.inside.text_length + 1 in
    let whole = key_bytes c.self.inside.front front c.self.inside.bytes.items c.self.inside.recent in
    let told = ap (λ (k : Key). postings k.numbers) (sym c.self.view_is) ∙ c.self.invariant.0.posted.spelled in
    let long = ap length (returns-clause-bytes c ∙ told) in
    omega (
      arith,
      long,
      length-append c.if-length-lt-SHORT.older.now c.as_slice.result.now,
      c.self.invariant.0.posted.short,
      c.self.invariant.0.posted.small,
    )
