-- `have_same_ends` decides whether two lists are the same, because both ends together cover them.
use Rattle.mail_index.proofs.Words.{arith, Decides-eqb, slice_eq-Decides}
use Rattle.mail_index.proofs.BuildLaws.SameTexts.{same-by-ends}
use Rattle.mail_index.proofs.build.key_entry.have_same_ends.Goals as goal

pub returns-then-eq : goal.returns-then-eq
returns-then-eq g c = grind (arith, slice_eq-Decides, Decides-eqb, same-by-ends)
