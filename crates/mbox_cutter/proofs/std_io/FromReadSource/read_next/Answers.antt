-- What a noted read says of its bytes, by call_record's lemmas.
use Rattle.std.proofs.Common.{◌<◌, length, Ok, arith}
use Rattle.call_record.proofs.Reading.{noted-read, honest-read}
use Rattle.mbox_cutter.proofs.std_io.FromReadSource.read_next.Goals as goal

pub returns-in-Ok-clause-bytes : goal.returns-in-Ok-clause-bytes
returns-in-Ok-clause-bytes g c =
    (noted-read {E = Unit {0}} 0 c.args.self.now.record c.read_noted.new.record (Ok c.in-Ok.n) c.read_noted.new.into
    c.in-Ok.ensures.bound c.in-Ok.ensures.noted).0

pub returns-in-Ok-clause-stays_known : goal.returns-in-Ok-clause-stays_known
returns-in-Ok-clause-stays_known g c = λ bytes e known.
    let room : 0 < length c.read_noted.new.into = omega (arith, c.requires.room, c.read_noted.auto.into) in
    honest-read {E = Unit {0}} 0 c.args.self.now.record c.read_noted.new.record
    (g.R.Read.remaining c.args.self.now.reader)
    (g.R.Read.remaining c.read_noted.new.reader) bytes (Ok c.in-Ok.n) c.read_noted.new.into room c.in-Ok.ensures.bound e
    known c.in-Ok.ensures.bytes c.in-Ok.ensures.noted
