-- `read_after` changes only the bytes after the first `held`, because only these are passed to the source.
use Rattle.mbox_cutter.proofs.Words.{◌∙◌, arith}
use Rattle.mbox_cutter.proofs.LineReaders.{reads_after}
use Rattle.mbox_cutter.proofs.line_reader.read_after.Goals as goal

pub returns-clause-bytes : goal.returns-clause-bytes
returns-clause-bytes g c = grind (arith, reads_after)
