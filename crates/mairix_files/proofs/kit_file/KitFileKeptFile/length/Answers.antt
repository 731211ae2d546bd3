-- What a noted length says of the file.
use Rattle.mairix_files.proofs.KitFiles.{only_length}
use Rattle.mairix_files.proofs.kit_file.KitFileKeptFile.length.Goals as goal

pub returns-in-Ok-clause-length : goal.returns-in-Ok-clause-length
returns-in-Ok-clause-length g c =
    only_length c.args.self.now.record c.length_noted.new.record c.in-Ok.n c.in-Ok.ensures.noted
