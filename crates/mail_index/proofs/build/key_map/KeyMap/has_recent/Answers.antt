-- `KeyMap::has_recent` finds a pair only if adding it would change nothing, because the entry is that of the key.
use Rattle.std.proofs.Common.{arith}
use Rattle.mail_index.proofs.Words.{◌≡◌, ◌<◌, ◌∙◌, ℕ, List, length, ap, set, sym, Equal, Key, lies_to, key_at, no_key, set-get_or}
use Rattle.mail_index.specs.Inside.KeyMaps.{in_key_order, with_one}
use Rattle.mail_index.proofs.BuildLaws.TableLemmas.{keys-found}
use Rattle.mail_index.proofs.build.key_map.KeyMap.has_recent.Goals as goal

pub returns-in-Some : goal.returns-in-Some
returns-in-Some c has =
    let entries : List Key = c.self.inside.entries.items in
    let i : ℕ = c.recent.result in
    let low : i < length entries = grind arith in
    let here : lies_to c.args.kind c.args.text.now (key_at entries i) ≡ Equal = grind arith in
    let same : with_one (key_at entries i) c.args.number ≡ key_at entries i = grind arith in
    grind (
      arith,
      sym (keys-found c.args.kind c.args.text.now c.args.number entries i low here c.self.invariant.distinct)
          ∙ ap (λ k. in_key_order (set entries i k)) same ∙ ap in_key_order (set-get_or entries i no_key),
    )
