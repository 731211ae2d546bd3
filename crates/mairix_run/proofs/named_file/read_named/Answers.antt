-- If all reports agree, something is known of the file at its end.
use Rattle.std.proofs.Common.{rules, ◌≡◌, true, IsSome}
use Rattle.named_files.proofs.FoundStates.{adds-more}
use Rattle.mairix_run.proofs.IndexReads.{reads_file}
use Rattle.mairix_run.proofs.named_file.read_named.Goals as goal

pub returns-in-Ok-read-clause-bytes : goal.returns-in-Ok-read-clause-bytes
returns-in-Ok-read-clause-bytes g c = λ agrees.
    let rest = g.F.File.Source.rest in
    let known : IsSome (rest c.read_bytes-read.new.file) = search rules in
    let holds = g.F.Folder.holds in
    reads_file c.args.reading (holds c.args.folder.now (g.F.Name.FileName.text c.args.name.now)) (rest c.in-Ok.file)
    (rest c.read_bytes-read.new.file)
    c.read_bytes-read.new.bytes.items c.in-Ok.ensures.rest c.in-Ok-read.ensures.read known

pub returns-in-Ok-read-clause-reports : goal.returns-in-Ok-read-clause-reports
returns-in-Ok-read-clause-reports g c =
    let F = g.F.Folder in
    let old = c.args.reports.now in
    let new = c.take_back.new.reports in
    let earlier : F.agree new ≡ true → F.agree old ≡ true = search rules in
    let right : F.reports_are_right → F.agree new ≡ F.agree old = search rules in
    record {
      earlier = earlier;
      right = right;
      found = λ first h. adds-more first (F.found old) (F.found new)
          (g.F.File.KeptFile.state_found c.read_bytes-read.new.file) c.take_back.ensures.found h;
    }

pub returns-in-Err-read-clause-reports : goal.returns-in-Err-read-clause-reports
returns-in-Err-read-clause-reports g c =
    let F = g.F.Folder in
    let old = c.args.reports.now in
    let new = c.take_back.new.reports in
    let earlier : F.agree new ≡ true → F.agree old ≡ true = search rules in
    let right : F.reports_are_right → F.agree new ≡ F.agree old = search rules in
    record {
      earlier = earlier;
      right = right;
      found = λ first h. adds-more first (F.found old) (F.found new)
          (g.F.File.KeptFile.state_found c.read_bytes-read.new.file) c.take_back.ensures.found h;
    }
