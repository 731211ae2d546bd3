-- Each path that `read_rc` returns can name a file, because every rcfile that the definition accepts has only such
-- paths.
use Rattle.mairix_options.proofs.Words.{[], refl}
use Rattle.mairix_options.proofs.RcPaths.{read-base, read-paths, read-database, read-mfolder}
use Rattle.mairix_options.proofs.rcfile.read_rc.Goals as goal

pub returns-clause-paths : goal.returns-clause-paths
returns-clause-paths c = read-paths c.args.rc.now c.rc_after.result
    (c.rc_after.ensures [] (refl, c.new.ensures.items, refl, refl, refl))

pub returns-clause-database : goal.returns-clause-database
returns-clause-database c = read-database c.args.rc.now c.rc_after.result
    (c.rc_after.ensures [] (refl, c.new.ensures.items, refl, refl, refl))

pub returns-clause-mfolder : goal.returns-clause-mfolder
returns-clause-mfolder c = read-mfolder c.args.rc.now c.rc_after.result
    (c.rc_after.ensures [] (refl, c.new.ensures.items, refl, refl, refl))

pub returns-clause-base : goal.returns-clause-base
returns-clause-base c = read-base c.args.rc.now c.rc_after.result
    (c.rc_after.ensures [] (refl, c.new.ensures.items, refl, refl, refl))
