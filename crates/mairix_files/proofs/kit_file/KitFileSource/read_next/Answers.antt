-- What a noted read says of its bytes, if a file is supposed.
use Rattle.mairix_files.proofs.KitFiles.{only_read_next}
use Rattle.mairix_files.proofs.kit_file.KitFileSource.read_next.Goals as goal

pub returns-in-Ok-clause-bytes : goal.returns-in-Ok-clause-bytes
returns-in-Ok-clause-bytes g c =
    only_read_next c.args.self.now.record c.read_noted.new.record c.in-Ok.n c.read_noted.new.into
    c.in-Ok.ensures.bound c.in-Ok.ensures.noted
