-- What a search of archives that it indexes itself answers, by the clauses of `once_run` and of its sources.
use Rattle.std.proofs.Common.{◌≡◌, ◌∙◌, ◌⊎◌, ◌<◌, ◌≤◌, ◌^◌, ◌++◌, List, length, map, take, drop, None, Some, OnOk, slice_index, refl, sym, ap, inl, inr, arith, subst}
use Rattle.std.proofs.lemmas.Grind.{common_steps}
use Rattle.std.proofs.lemmas.List.Elements.{All-same}
use Rattle.std.specs.Bool.{⊤}
use Rattle.std.specs.List.{Contains, list_any}
use Rattle.std.specs.Result.{MatchResult}
use Rattle.contract_words.specs.Devices.{Counted}
use Rattle.mairix_tool.specs.Asked.{asks}
use Rattle.named_archives.specs.Progress.{CannotRead, is_for_memory}
use Rattle.mairix_tool.specs.Runs.{IsReply, IsThisOrMemory}
use Rattle.named_files.specs.Entries.{bytes_of}
use Rattle.run_faults.specs.Faults.{IsOnceFault, fault_in, is_early, is_failed_archives, is_failed_out, is_failed_source}
use Rattle.named_archives.proofs.Noted.{noted-passing}
use Rattle.named_archives.specs.States.{IsInOneOf, noted_files}
use Rattle.named_files.specs.FoundStates.{AreFoundOnly}
use Rattle.mairix_run.proofs.NamedSources.{counted-new, has-cause, known-now}
use Rattle.mairix_run.proofs.Replies.{fault-of, indexed-answers-by, once-ended, once-silent, plain-reply, refuses-as, uses-none}
use Rattle.mairix_run.proofs.SearchedArchives.{ended-if}
use Rattle.mairix_run.proofs.UnreadArchives.{archives-counted, on-any, searched-memory, source-counted, unread-cause}
use Rattle.mairix_run.specs.Answered.{LeavesUnsent, result_by, result_with_memory}
use Rattle.mairix_run.proofs.FirstStates.{all-asked, all-found-in, ok-memory, ok-without-fault}
use Rattle.mairix_run.proofs.names_answer.answer_once.Goals as goal

pub returns-clause-searched : goal.returns-clause-searched
returns-clause-searched g c =
    let F = g.F.Folder in
    let rest = g.F.File.Source.rest in
    let text = g.F.Name.FileName.text in
    let search = c.args.search.now in
    let asked = asks search.words.now search.text.now search.moment in
    let AreFew = length search.names.now < 2 ^ 32 in
    let sources = c.in-Ok.sources in
    let run = c.once_run-reply in
    let reply = run.result in
    let result = c.result_of.result in
    let news = run.new.sources in
    let old = c.args.out.now in
    let new = run.new.out in
    let long : length news ≡ sources.len = grind arith in
    let given : take sources.len (news ++ drop (length news) sources.items) ≡ news =
    grind (arith, long, common_steps) in
    let fresh = All-same (λ s. (s.failures ≡ 0) × (s.file ≡ None)) _ _ c.as_mut_slice-unread.ensures.value
    c.in-Ok.ensures.fresh in
    let counted = counted-new rest (λ s. bytes_of (F.holds s.folder.now (text s.name.now))) (λ s. s.file)
    (λ s. s.progress) (λ s. s.failures) _ fresh (λ n. is_failed_source n reply.fault) _
    run.ensures.counts.sources in
    let same = ap fault_in c.result_of.ensures ∙ fault-of reply.status reply.fault in
    let lacks = rw given at (c.lack_memory-lacks_memory.ensures ∙ ap (list_any (λ s. is_for_memory s.refused))
    c.as_slice.ensures.value) in
    searched-memory g.O.Out asked None AreFew _ _ _ ⊤ _ old new c.lack_memory-lacks_memory.result result
    c.report_lack_of_memory.result c.report_lack_of_memory.ensures (λ bytes held. held)
    (λ bytes files. unread-cause ((g.A.Archives.failures c.args.archives.now < g.A.Archives.failures run.new.archives)
    ⊎ CannotRead F.can_refuse F.reads_can_fail) c.lack_memory-lacks_memory.result result
    (λ n is not. inr (has-cause rest (λ s. bytes_of (F.holds s.folder.now (text s.name.now))) (λ s. s.file)
    (λ s. s.progress) (λ s. s.failures) _ (λ old new stays. stays.whole) (λ s. is_for_memory s.refused)
    (CannotRead F.can_refuse F.reads_can_fail) (λ s. s.failed) _ news bytes run.ensures.keeps.sources.each fresh
    (ap (map _) c.as_mut_slice-unread.ensures.value ∙ c.in-Ok.ensures.rest ∙ files)
    (sym lacks ∙ not) n (source-counted (map (λ s. s.failures) news) n reply.fault (sym same ∙ ap fault_in is)
    counted)))
    (λ is not. inl (archives-counted reply.fault _ _ (sym same ∙ ap fault_in is) run.ensures.counts.others.archives))
    c.report_lack_of_memory.result c.report_lack_of_memory.ensures)
    (record {
      answers = λ few bytes held. indexed-answers-by (IsReply asked bytes) (plain-reply asked bytes) _ _ reply
          (map (λ s. s.failures) news) result _ c.result_of.ensures counted run.ensures.unsent.silent
          (λ is. ap g.O.Out.taken is.1) (λ zeros. run.ensures.reply bytes (
            ap (map _) c.as_mut_slice-unread.ensures.value ∙ c.in-Ok.ensures.rest ∙ held.0,
            known-now rest (λ s. bytes_of (F.holds s.folder.now (text s.name.now))) (λ s. s.file) (λ s. s.progress)
                (λ s. s.failures) _ (λ old new stays. stays.whole) _ news bytes run.ensures.keeps.sources.each fresh
                (ap (map _) c.as_mut_slice-unread.ensures.value ∙ c.in-Ok.ensures.rest ∙ held.0) zeros
                (rw given at (c.report_all.ensures.known held.1)),
          ) held.2);
      by_messages = tt;
      refused = λ fault few is. (
        subst (IsThisOrMemory fault) (sym same) (refuses-as asked fault reply.fault is run.ensures.cause.refused),
        uses-none _ _ _ (is_early reply.fault) asked fault is run.ensures.unsent.refused,
      );
      ending = subst (λ r. MatchResult r (λ status. status ≤ 1) (λ fault. AreFew → IsOnceFault fault))
          (sym c.result_of.ensures) (ended-if AreFew _ (λ status. status ≤ 1) IsOnceFault
          (once-ended reply reply.fault run.ensures.cause.status));
      unsent = subst (λ f. LeavesUnsent asked f old new) (sym same) (record {
        silent = once-silent _ _ _ reply _ reply.fault run.ensures.cause.status run.ensures.unsent.refused
            run.ensures.unsent.silent;
        raw = run.ensures.unsent.raw;
      });
      causes = record {
        unread = λ bytes files. on-any _;
        out_failed = subst (λ f. Counted (is_failed_out f) (g.O.Out.failures old) (g.O.Out.failures new)) (sym same)
            run.ensures.counts.others.out;
      };
    })

-- without a fault each source was found in its state when it was given back
pub returns-clause-in_state : goal.returns-clause-in_state
returns-clause-in_state g c =
    let F = g.F.Folder in
    let found = g.F.File.KeptFile.state_found in
    let search = c.args.search.now in
    let states : List g.row.F-File-State.Denot = search.states.now in
    let sources = c.in-Ok.sources in
    let run = c.once_run-reply in
    let reply = run.result in
    let news = run.new.sources in
    let long : length news ≡ sources.len = grind arith in
    let given : take sources.len (news ++ drop (length news) sources.items) ≡ news =
    grind (arith, long, common_steps) in
    let fresh = All-same (λ s. (s.failures ≡ 0) × (s.file ≡ None)) _ _ c.as_mut_slice-unread.ensures.value
    c.in-Ok.ensures.fresh in
    let counted = counted-new g.F.File.Source.rest
    (λ s. bytes_of (F.holds s.folder.now (g.F.Name.FileName.text s.name.now)))
    (λ s. s.file) (λ s. s.progress) (λ s. s.failures) _ fresh (λ n. is_failed_source n reply.fault) _
    run.ensures.counts.sources in
    let asked = All-same (λ s. (asked : g.row.F-File-State.Denot) × (s.state ≡ Some asked) × Contains states asked) _ _
    c.as_mut_slice-unread.ensures.value
    (all-asked (λ s. s.state) states sources.items (length search.names.now) search.each c.in-Ok.ensures.states) in
    let noted : F.found c.report_all.new.reports
    ≡ noted_files found (map (λ s. s.file) news) ++ F.found c.args.reports.now = rw given at c.report_all.ensures.found
    in
    let AreFound = AreFoundOnly (IsInOneOf states) (F.found c.args.reports.now) (F.found c.report_all.new.reports) in
    subst (λ r. OnOk r AreFound)
    (sym (c.report_lack_of_memory.ensures ∙ ap (result_with_memory c.lack_memory-lacks_memory.result)
    c.result_of.ensures))
    (ok-memory AreFound c.lack_memory-lacks_memory.result (result_by reply.status reply.fault)
    (ok-without-fault AreFound reply.status reply.fault (λ none. record {
      more = noted_files found (map (λ s. s.file) news);
      added = noted;
      passing = noted-passing found (IsInOneOf states) (map (λ s. s.file) news)
          (all-found-in _ (λ s. s.state) (λ s. s.file) found (λ s. s.failures) states
          (λ old new stays. stays.was old refl) (λ s. s.in_state) _ news run.ensures.keeps.sources.each asked
          (λ n. subst (λ f. Counted (is_failed_source n f) 0 (slice_index (map (λ s. s.failures) news) n)) none
          (counted n)));
    })))

-- without a fault no call of the archives has failed
pub returns-clause-counts : goal.returns-clause-counts
returns-clause-counts g c =
    let run = c.once_run-reply in
    let reply = run.result in
    let failures = g.A.Archives.failures in
    let Same = failures run.new.archives ≡ failures c.args.archives.now in
    subst (λ r. OnOk r Same)
    (sym (c.report_lack_of_memory.ensures ∙ ap (result_with_memory c.lack_memory-lacks_memory.result)
    c.result_of.ensures))
    (ok-memory Same c.lack_memory-lacks_memory.result (result_by reply.status reply.fault)
    (ok-without-fault Same reply.status reply.fault
    (λ none. subst (λ f. Counted (is_failed_archives f) (failures c.args.archives.now) (failures run.new.archives)) none
    run.ensures.counts.others.archives)))
