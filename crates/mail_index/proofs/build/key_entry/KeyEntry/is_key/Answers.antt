-- `KeyEntry::is_key` decides whether the key is the same, because it compares the kinds and the texts.
use Rattle.std.proofs.Common.{arith}
use Rattle.mail_index.proofs.Words.{nat_cmp, is_eq, ordering_then, nat_cmp_is, slice_cmp, bytes_eq, same_from_decides, is_eq-slice_cmp, bytes_eq-Decides, kind_number}
use Rattle.mail_index.proofs.build.key_entry.KeyEntry.is_key.Goals as goal

pub returns-then-own_number-number : goal.returns-then-own_number-number
returns-then-own_number-number c = grind (
  arith,
  kind_number,
  nat_cmp,
  nat_cmp_is,
  same_from_decides,
  bytes_eq,
  bytes_eq-Decides,
  is_eq-slice_cmp,
  is_eq,
  ordering_then,
  slice_cmp,
)
