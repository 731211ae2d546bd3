-- Bytes that fit in memory are the file of at most one table, because no section is too long for its count.
use Rattle.mail_index.proofs.Words.{◌≡◌, ◌∙◌, ◌^◌, ◌<◌, ℕ, List, length, sym, arith, Table, HasSmallSections, IsFileOfTable}
use Rattle.mail_index.proofs.BuildLaws.Sizes.{length-body, length-index_file}
use Rattle.mail_index.proofs.FileLaws.OneTable.{one_file}

-- no section is longer than the file
small-file : (bytes : List ℕ) (t : Table) → length bytes < 2 ^ 64 → IsFileOfTable bytes t → HasSmallSections t
small-file _ t few f = grind (arith, length-index_file, length-body)

pub same-table : (bytes : List ℕ) (t u : Table) → length bytes < 2 ^ 64 → IsFileOfTable bytes t → IsFileOfTable bytes u
    → u ≡ t
same-table bytes t u few f h = one_file u t h.0 f.0 (small-file _ u few h) (small-file _ t few f) (sym h.1 ∙ f.1)
