-- Keys that follow one another.
use Rattle.std.specs.Prelude.{ℕ, ◌-◌, List, length, take, drop}
use Rattle.std.specs.declared.cmp.Ordering.{Ordering}
use Rattle.mail_index.specs.declared.kind.Kind.{Kind}
use Rattle.mail_index.specs.Kinds.{kind_number}
use Rattle.mail_index.specs.OrderOfKeys.{key_cmp}
use Rattle.mail_index.specs.Tables.{Key}

-- how a key compares with a run, the keys of this kind whose texts begin with this one: only as much of its own text is
-- compared
abbrev pub lies_to_run : Kind → List ℕ → Key → Ordering
lies_to_run kind text k = key_cmp (kind_number k.kind) (take (length text) k.text) (kind_number kind) text

-- the keys from number `low` up to, but without, number `high`
abbrev pub keys_between : ℕ → ℕ → List Key → List Key
keys_between low high keys = take (high - low) (drop low keys)
