-- What an index run over names sends, by the clauses of `send_index` and of its sources.
use Rattle.std.proofs.Common.{◌≡◌, ◌∙◌, ◌++◌, length, map, take, drop, None, Some, sym, ap, arith, string_bytes}
use Rattle.std.proofs.lemmas.Grind.{common_steps}
use Rattle.std.proofs.lemmas.List.{length-map}
use Rattle.std.proofs.lemmas.List.Elements.{All-same, length_all_zip}
use Rattle.std.specs.List.{list_any}
use Rattle.index_run.specs.ArchivesIndexed.{mboxes}
use Rattle.named_archives.specs.Progress.{CannotRead, is_for_memory}
use Rattle.named_files.specs.Entries.{bytes_of}
use Rattle.run_faults.specs.Faults.{fault_in, is_failed_source}
use Rattle.run_faults.specs.declared.fault.Fault.{Fault}
use Rattle.mairix_run.proofs.IndexedFiles.{indexed-by, indexed-memory, mboxes-length, same-length, with-status}
use Rattle.mairix_run.proofs.NamedSources.{counted-new, has-cause, known-now}
use Rattle.mairix_run.proofs.UnreadArchives.{indexing-reads, sent-fault, source-counted, unread-cause}
use Rattle.mairix_run.proofs.names_index.index_names.Goals as goal

pub send_index-sent-requires-clause-many : goal.send_index-sent-requires-clause-many
send_index-sent-requires-clause-many g c =
    let text = g.F.Name.FileName.text in
    let index = c.args.index.now in
    let of_items = same-length (λ s. text s.name.now) text c.in-Ok.sources.items index.names.now c.in-Ok.ensures.names
    in
    sym (ap length c.as_mut_slice.ensures.value ∙ of_items
    ∙ same-length text string_bytes index.names.now index.paths.now index.same)

pub send_index-sent-requires-clause-count : goal.send_index-sent-requires-clause-count
send_index-sent-requires-clause-count g c = λ k d below.
    let fresh = All-same (λ s. (s.failures ≡ 0) × (s.file ≡ None)) _ _ c.as_mut_slice.ensures.value
    c.in-Ok.ensures.fresh in
    let none = (fresh k d below).0 in
    omega (arith, none)

pub returns-clause-indexed : goal.returns-clause-indexed
returns-clause-indexed g c =
    let F = g.F.Folder in
    let rest = g.F.File.Source.rest in
    let sources = c.in-Ok.sources in
    let sent = c.send_index-sent in
    let news = sent.new.sources in
    let text = g.F.Name.FileName.text in
    let index = c.args.index.now in
    let names = index.names.now in
    let paths = map string_bytes index.paths.now in
    let out = c.args.out.now in
    let long : length news ≡ sources.len = grind arith in
    let given : take sources.len (news ++ drop (length news) sources.items) ≡ news =
    grind (arith, long, common_steps) in
    let fresh = All-same (λ s. (s.failures ≡ 0) × (s.file ≡ None)) _ _ c.as_mut_slice.ensures.value
    c.in-Ok.ensures.fresh in
    let counted = counted-new rest (λ s. bytes_of (F.holds s.folder.now (text s.name.now))) (λ s. s.file)
    (λ s. s.progress) (λ s. s.failures) _ fresh (λ n. is_failed_source n (fault_in sent.result)) _
    sent.ensures.source_failed in
    let of_items = same-length (λ s. text s.name.now) text sources.items names c.in-Ok.ensures.names in
    let of_news = sym (length_all_zip _ _ news sent.ensures.stays.each) ∙ ap length c.as_mut_slice.ensures.value in
    let many = sym (length-map names text) ∙ ap length index.same in
    let same = sym (sent-fault sent.result) ∙ sym (ap fault_in c.and.ensures) in
    let lacks = rw given at (c.lack_memory-lacks_memory.ensures ∙ ap (list_any (λ s. is_for_memory s.refused))
    c.as_slice.ensures.value) in
    indexed-memory g.O.Out paths _ _ out sent.new.out (CannotRead F.can_refuse F.reads_can_fail)
    c.lack_memory-lacks_memory.result c.and.result c.report_lack_of_memory.result c.report_lack_of_memory.ensures
    (λ bytes files. unread-cause (CannotRead F.can_refuse F.reads_can_fail) c.lack_memory-lacks_memory.result
    c.and.result
    (λ n is not. has-cause rest (λ s. bytes_of (F.holds s.folder.now (text s.name.now))) (λ s. s.file)
    (λ s. s.progress) (λ s. s.failures) _ (λ old new stays. stays.whole) (λ s. is_for_memory s.refused)
    (CannotRead F.can_refuse F.reads_can_fail) (λ s. s.failed) _ news bytes sent.ensures.stays.each fresh
    (ap (map _) c.as_mut_slice.ensures.value ∙ c.in-Ok.ensures.rest ∙ files)
    (sym lacks ∙ not) n (source-counted (map (λ s. s.failures) news) n (fault_in sent.result) (same ∙ ap fault_in is)
    counted))
    (λ is not. indexing-reads (CannotRead F.can_refuse F.reads_can_fail) sent.result sent.ensures.kinds
    (same ∙ ap fault_in is))
    c.report_lack_of_memory.result c.report_lack_of_memory.ensures)
    (rw c.and.ensures (with-status g.O.Out paths _ _ out sent.new.out sent.result
    (λ bytes files agrees.
    let are = ap (map _) c.as_mut_slice.ensures.value ∙ c.in-Ok.ensures.rest ∙ files in
    let of_bytes = same-length (λ name. bytes_of (F.holds c.args.folder.now (text name))) Some names
    bytes files in
    let lengths = length-map news (λ s. s.failures) ∙ of_news ∙ of_items ∙ many
    ∙ sym (mboxes-length paths bytes (sym of_bytes ∙ many)) in
    indexed-by (mboxes paths bytes) _ _ (map (λ s. s.failures) news) sent.result lengths counted
    (λ zeros. sent.ensures.known bytes (
      are,
      known-now rest (λ s. bytes_of (F.holds s.folder.now (text s.name.now))) (λ s. s.file) (λ s. s.progress)
          (λ s. s.failures) _ (λ old new stays. stays.whole) _ news bytes sent.ensures.stays.each fresh are zeros
          (rw given at (c.report_all.ensures.known agrees)),
    )))
    sent.ensures.formed sent.ensures.front sent.ensures.kinds sent.ensures.silent sent.ensures.out_failed))
