-- `Said::add` has one more setting afterwards, by its kind; only `Archives` adds to the list of lines.
use Rattle.mairix_options.proofs.Words.{append-nil, sym, Base, Archives, Database, Mfolder, Format}
use Rattle.mairix_options.proofs.Settings.{says-next}
use Rattle.mairix_options.proofs.rcfile.Said.add.Goals as goal

pub returns-in-Base : goal.returns-in-Base
returns-in-Base c before says = says-next before c.args.setting (Base c.in-Base.path) says c.in-Base.is
    (sym (append-nil c.args.self.now.archives.items))

pub returns-in_ok-push-in-Archives : goal.returns-in_ok-push-in-Archives
returns-in_ok-push-in-Archives c before says =
    says-next before c.args.setting (Archives c.in-Archives.line) says c.in-Archives.is
    c.in_ok-push-in-Archives.ensures.items

pub returns-in-Database : goal.returns-in-Database
returns-in-Database c before says = says-next before c.args.setting (Database c.in-Database.path) says c.in-Database.is
    (sym (append-nil c.args.self.now.archives.items))

pub returns-in-Mfolder : goal.returns-in-Mfolder
returns-in-Mfolder c before says = says-next before c.args.setting (Mfolder c.in-Mfolder.line) says c.in-Mfolder.is
    (sym (append-nil c.args.self.now.archives.items))

pub returns-in-Format : goal.returns-in-Format
returns-in-Format c before says = says-next before c.args.setting (Format c.in-Format.named) says c.in-Format.is
    (sym (append-nil c.args.self.now.archives.items))
