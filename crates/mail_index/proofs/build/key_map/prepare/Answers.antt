-- `prepare` keeps all entries, whether or not the table grows.
use Rattle.mail_index.proofs.Words.{◌≡◌, sym, subst, length}
use Rattle.mail_index.specs.Inside.KeyMaps.{numbers_in, IsAmong}
use Rattle.mail_index.specs.Inside.KeyTables.{AreReachable}
use Rattle.mail_index.proofs.BuildLaws.TableLemmas.{kept-part, part-same}
use Rattle.mail_index.proofs.build.key_map.prepare.Goals as goal
use Rattle.mail_index.proofs.build.key_map.prepare.Goals.{then-is_small_for+in_ok-grow, else-is_small_for}

pub returns-clause-part : goal.returns-clause-part
returns-clause-part c i a = part-same c.if-is_small_for.order c.begin.new.self c.begin.ensures.same i
    (elim c.if-is_small_for.branch [
      | then-is_small_for+in_ok-grow w ↦ subst (λ order. IsAmong i (numbers_in order)) (sym w.order-is)
          (w.grow.ensures.part i a)
      | else-is_small_for w ↦ rw w.order-is a
    ])

pub returns-clause-kept : goal.returns-clause-kept
returns-clause-kept c = kept-part c.args.entries.now c.if-is_small_for.table c.if-is_small_for.order c.begin.new.self
    (length c.args.entries.now) (part-same c.if-is_small_for.order c.begin.new.self c.begin.ensures.same)
    (elim c.if-is_small_for.branch [
      | then-is_small_for+in_ok-grow w ↦
          subst (λ order. AreReachable c.args.entries.now c.if-is_small_for.table order (length c.args.entries.now))
          (sym w.order-is) (rw w.table-is w.grow.ensures.kept)
      | else-is_small_for w ↦ rw w.order-is (rw w.table-is c.requires.kept)
    ])
