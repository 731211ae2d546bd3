-- The first bytes are refused as the whole file, or the rest comes after them.
use Rattle.std.proofs.Common.{rules}
use Rattle.mairix_run.specs.IndexReads.{IsRefusedEarly}
use Rattle.mairix_run.proofs.IndexReads.{ends_read, reads_front}
use Rattle.mairix_run.proofs.named_file.read_index.Goals as goal

pub returns-then-is_refused_early-clause-read : goal.returns-then-is_refused_early-clause-read
returns-then-is_refused_early-clause-read g c =
    let rest = g.K.Source.rest in
    let early : IsRefusedEarly c.read_front.new.bytes.items = search rules in
    reads_front (rest c.args.file.now) (rest c.read_front.new.source) c.args.bytes.now.items
    c.read_front.new.bytes.items c.in_default.ensures.front c.requires.empty early

pub returns-clause-read : goal.returns-clause-read
returns-clause-read g c =
    let rest = g.K.Source.rest in
    let never : ¬ IsRefusedEarly c.read_front.new.bytes.items = search rules in
    ends_read (rest c.args.file.now) (rest c.read_front.new.source) (rest c.read_all.new.file)
    c.args.bytes.now.items c.read_front.new.bytes.items c.read_all.new.bytes.items c.read_all.result
    c.in_default.ensures.front c.requires.empty never c.read_all.ensures.rest
