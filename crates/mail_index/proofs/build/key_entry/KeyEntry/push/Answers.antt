-- `KeyEntry::push` adds a number by the bytes of its difference; a number below the end changes nothing.
use Rattle.mail_index.proofs.Words.{◌≡◌, ◌∙◌, ℕ, List, ◌+◌, ◌-◌, ◌++◌, take, drop, ap, sym, subst, arith, Key, leb128}
use Rattle.mail_index.specs.Inside.KeyMaps.{with_one, key_in, key_bytes, AreEntryBytes}
use Rattle.mail_index.proofs.BuildLaws.EntryLemmas.{entry-more, key-more, key-same, key_bytes-more, within-more}
use Rattle.mail_index.proofs.build.key_entry.KeyEntry.push.Goals as goal

pub returns-then-number-self-clause-ok : goal.returns-then-number-self-clause-ok
returns-then-number-self-clause-ok c = grind (arith, key-same)

pub invariant_of-self-2 : goal.invariant_of-self-2
invariant_of-self-2 c =
    let front : ℕ = c.self.inside.text_length + 1 in
    let whole = key_bytes c.self.inside.front front c.self.inside.bytes.items c.self.inside.recent in
    let difference = leb128 5 (c.args.number + 1 - c.self.inside.next) in
    let e =
    key_bytes-more c.self.inside.front front c.self.inside.bytes.items c.self.inside.recent c.append.new.bytes.items
    c.append.new.recent difference c.in_ok-append.ensures.ok in (
      subst (λ (l : List ℕ). AreEntryBytes l front (c.args.number + 1)) (sym e)
          (entry-more _ _ _ _ c.self.invariant.0 (omega arith) (omega arith)),
      within-more _ _ _ _ c.self.invariant.1 c.in_ok-append.ensures.kept,
    )

pub returns-clause-ok : goal.returns-clause-ok
returns-clause-ok c =
    let front : ℕ = c.self.inside.text_length + 1 in
    let whole = key_bytes c.self.inside.front front c.self.inside.bytes.items c.self.inside.recent in
    let difference = leb128 5 (c.args.number + 1 - c.self.inside.next) in
    let e =
    key_bytes-more c.self.inside.front front c.self.inside.bytes.items c.self.inside.recent c.append.new.bytes.items
    c.append.new.recent difference c.in_ok-append.ensures.ok in
    ap (λ (l : List ℕ). key_in (take front l) (drop front l)) e
    ∙ key-more _ _ _ _ c.self.invariant.0 (omega arith) (omega arith)
    ∙ ap (λ (k : Key). with_one k c.args.number) c.self.view_is
