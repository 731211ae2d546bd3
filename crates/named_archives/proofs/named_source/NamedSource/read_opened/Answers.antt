-- What is known of the file after the read is what `read_on` says of it.
use Rattle.std.proofs.Common.{◌≡◌, ◌≤◌, ◌+◌, false, Result, Ok, Err, OnOk, is_err, inr, subst, sym, ◌∙◌, arith}
use Rattle.named_archives.proofs.Failures.{on-err}
use Rattle.named_archives.specs.Progress.{HasReached, IsFoundInState}
use Rattle.named_archives.proofs.named_source.NamedSource.read_opened.Goals as goal

on-ok : {T E : Type 0} (r : Result T E) (P : Type 0) → is_err r ≡ false → OnOk r P → P
on-ok (Ok x) P fine h = h
on-ok (Err e) P fine h = absurd cc

pub invariant_of-self-then-is_err : goal.invariant_of-self-then-is_err
invariant_of-self-then-is_err g c =
    let most : g.F.File.Source.failures c.read_on-read.new.file ≤ c.args.self.now.failures + 1 =
    omega (arith, c.read_on-read.ensures.most, c.args.self.now.counted _ c.in-Some.is) in
    record {
      counted = λ file e. let same : c.read_on-read.new.file ≡ file = cc in
          subst (λ (f : g.row.F-File.Denot). g.F.File.Source.failures f ≤ c.args.self.now.failures + 1) same most;
      reached = λ file e. let same : c.read_on-read.new.file ≡ file = cc in
          subst (λ (f : g.row.F-File.Denot). HasReached g.F.File.KeptFile.state_found g.F.File.Source.rest
          c.args.self.now.state f (g.F.File.Source.failures f) c.read_on-read.new.progress) same
          c.read_on-read.ensures.reached;
      cause = c.args.self.now.cause;
      failed = λ some not there. ∣ inr (g.met.F.Folder.reads_fail c.read_on-read.new.file
          (on-err c.read_on-read.result _ (sym c.is_err.ensures.value ∙ c.if-is_err.true)
          c.read_on-read.ensures.failed)) ∣₁;
      in_state = λ none. absurd (omega (arith, none));
    }

pub invariant_of-self-else-is_err : goal.invariant_of-self-else-is_err
invariant_of-self-else-is_err g c =
    let stays = on-ok c.read_on-read.result _ (sym c.is_err.ensures.value ∙ c.if-is_err.false)
    c.read_on-read.ensures.stays in
    let most : g.F.File.Source.failures c.read_on-read.new.file ≤ c.args.self.now.failures =
    omega (arith, stays, c.args.self.now.counted _ c.in-Some.is) in
    record {
      counted = λ file e. let same : c.read_on-read.new.file ≡ file = cc in
          subst (λ (f : g.row.F-File.Denot). g.F.File.Source.failures f ≤ c.args.self.now.failures) same most;
      reached = λ file e. let same : c.read_on-read.new.file ≡ file = cc in
          subst (λ (f : g.row.F-File.Denot). HasReached g.F.File.KeptFile.state_found g.F.File.Source.rest
          c.args.self.now.state f (g.F.File.Source.failures f) c.read_on-read.new.progress) same
          c.read_on-read.ensures.reached;
      cause = c.args.self.now.cause;
      failed = c.args.self.now.failed;
      in_state = λ none file e. let same : c.read_on-read.new.file ≡ file = cc in
          subst (λ (f : g.row.F-File.Denot). IsFoundInState g.F.File.KeptFile.state_found c.args.self.now.state f) same
          (on-ok c.read_on-read.result _ (sym c.is_err.ensures.value ∙ c.if-is_err.false)
          c.read_on-read.ensures.in_state);
    }
