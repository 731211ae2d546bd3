-- What a noted read at an offset says of the file.
use Rattle.mairix_files.proofs.KitFiles.{only_read}
use Rattle.mairix_files.proofs.kit_file.KitFileKeptFile.read_at.Goals as goal

pub returns-in-Ok-clause-bytes : goal.returns-in-Ok-clause-bytes
returns-in-Ok-clause-bytes g c =
    only_read c.args.self.now.record c.read_at_noted.new.record c.args.offset c.in-Ok.n c.read_at_noted.new.into
    c.in-Ok.ensures.noted
