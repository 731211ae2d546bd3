-- A run of the words at the second of the clock is what `run_program` makes.
use Rattle.std.proofs.Common.{◌≡◌, inl, true, drop, map, string_bytes, subst, List, String, Global, ℕ, Result, Ok, Err, IfOk}
use Rattle.std.specs.Vec.Iter.{into_iter_items}
use Rattle.mairix_run.specs.Commands.{RunsProgram}
use Rattle.named_files.specs.FoundStates.{AreReadInFirstStates}
use Rattle.mairix_run.proofs.command.run_command.Goals as goal

-- what follows for each value
ok-weaker : {A E : Type 0} (r : Result A E) (P Q : A → Type 0) → ((a : A) → P a → Q a) → IfOk r P → IfOk r Q
ok-weaker (Ok a) P Q f h = f a h
ok-weaker (Err e) P Q f h = cc

pub returns-in-Ok-clause-ran : goal.returns-in-Ok-clause-ran
returns-in-Ok-clause-ran g c =
    let F = g.F.Folder in
    let texts = c.args.texts.now in
    let run = c.run_program in
    let says = run.ensures in
    let Made = λ (words : List (String Global)) (second : ℕ). RunsProgram F g.O.Out g.O.Stream.handed_on g.E.Out
    (g.T.Texts.is_usage_text texts (map string_bytes words)) g.T.Texts.memory_can_run_out (map string_bytes words)
    second (F.agree run.new.files.reports ≡ true) (F.agree run.new.files.reads ≡ true)
    (AreReadInFirstStates (F.found c.args.files.now.reports) (F.found run.new.files.reports)
    (F.found c.args.files.now.reads) (F.found run.new.files.reads)) c.args.files.now.folder
    run.new.files.folder
    (F.made c.args.names.now)
    (F.made run.new.names) c.args.streams.now.out run.new.streams.out c.args.streams.now.err run.new.streams.err
    run.result in
    let made : Made c.as_slice.result.now c.moment_of.result = record {
      run = says.run;
      read = says.read;
      alone = says.alone;
      any_moment = says.any_moment;
      named = says.named;
    } in
    let of-items = subst (λ words. Made words c.moment_of.result) c.as_slice.ensures.value made in
    ok-weaker c.args.given.args _ _ (λ args same.
    inl (subst (λ second. Made (drop 1 (into_iter_items args)) second) c.moment_of.ensures
    (subst (λ words. Made words c.moment_of.result) same of-items))) c.in-Ok.ensures.words
