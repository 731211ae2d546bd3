-- `job_of_archives` indexes archive by archive up to the first faulty one, whatever the bytes are that agree with its
-- reads.
use Rattle.index_run.proofs.Words.{arith, ◌≡◌, ◌∙◌, ◌<◌, ◌≤◌, ℕ, List, [], length, map, take, get_or, Some, Ok, sym, ap, subst, string_bytes, get_or-map, length-map, take_all, All-get_or, map-set_same, IsPath, Mbox, AreSound, mboxes, run_fault_of_job, is_failed_source, IsIndexOf, IsAdded, IsAddFault}
use Rattle.std.proofs.Common.{rules}
use Rattle.contract_words.proofs.StillKnown.{all-before, known-called, known-still}
use Rattle.contract_words.proofs.DeviceLists.{same_at, same_after, known_at, known_length, counted_at}
use Rattle.index_run.proofs.ArchiveLists.{mboxes-length, next-taken, parted-here, taken-so-far, sound-more, archive-fault, others-run, here-counts}
use Rattle.index_run.proofs.KeptSources.{stay-self, none-read, next-stays, next-ends, stopped, all-read}
use Rattle.index_run.proofs.archives_job.job_of_archives.Goals as goal

pub returns-in_err-job-clause-stays : goal.returns-in_err-job-clause-stays
returns-in_err-job-clause-stays g c = let read = none-read g.S.Source c.args.sources.now in grind arith

pub loop-number-init : goal.loop-number-init
loop-number-init g c = let stays = stay-self g.S.Source c.args.sources.now in search rules

pub archive-requires-clause-path : goal.archive-requires-clause-path
archive-requires-clause-path g c =
    let i = c.loop-number.number in
    let below : i < length c.args.paths.now = omega (arith, c.requires.many) in
    let text : c.as_str.result.now ≡ get_or (map string_bytes c.args.paths.now) i [] =
    c.as_str.ensures.value ∙ ap string_bytes c.index-paths-number.is
    ∙ sym (get_or-map string_bytes c.args.paths.now i c.index-paths-number.result [] below) in
    let within : i < length (map string_bytes c.args.paths.now) =
    omega (arith, length-map c.args.paths.now string_bytes) in
    rw text (All-get_or IsPath (map string_bytes c.args.paths.now) i [] within c.requires.paths)

pub archive-requires-clause-count : goal.archive-requires-clause-count
archive-requires-clause-count g c =
    rw (same_at _ _ c.loop-number.number c.index-sources-number.result c.loop-number.invariant.unread)
    (All-get_or (λ s. g.S.Source.failures s < 18446744073709551615) c.args.sources.now c.loop-number.number
    c.index-sources-number.result (omega arith) c.requires.count)

pub returns-in-Err-clause-known : goal.returns-in-Err-clause-known
returns-in-Err-clause-known g c = λ archives known.
    let i = c.loop-number.number in
    let paths = map string_bytes c.args.paths.now in
    let below : i < length c.args.paths.now = omega (arith, c.requires.many) in
    let text : c.as_str.result.now ≡ get_or paths i [] =
    c.as_str.ensures.value ∙ ap string_bytes c.index-paths-number.is
    ∙ sym (get_or-map string_bytes c.args.paths.now i c.index-paths-number.result [] below) in
    let within : i < length paths = omega (arith, length-map c.args.paths.now string_bytes) in
    let many : length paths ≡ length archives =
    omega (
      arith,
      length-map c.args.paths.now string_bytes,
      c.requires.many,
      known_length g.S.Source.rest c.args.sources.now archives known.0,
    ) in
    let rest : g.S.Source.rest (get_or c.loop-number.sources i c.index-sources-number.result)
    ≡ Some (get_or archives i []) =
    ap g.S.Source.rest (same_at c.loop-number.sources c.args.sources.now i c.index-sources-number.result
    c.loop-number.invariant.unread) ∙ known_at g.S.Source.rest c.args.sources.now archives i
    c.index-sources-number.result known.0 (omega arith) in
    let all = all-before g.S.Source.rest c.archive.new.source c.index-sources-number.result c.loop-number.sources i
    c.archive.ensures.stays.known known.1 in
    let found = c.loop-number.invariant.found archives (known.0, all) in
    let fault = c.in-Err.fault in
    let fails : IsAddFault (take i (mboxes paths archives))
    (record { path = get_or paths i []; bytes = get_or archives i [] }) fault =
    subst (λ (t : List ℕ). IsAddFault (take i (mboxes paths archives))
    (record { path = t; bytes = get_or archives i [] }) fault) text
    ((rw c.in-Err.is at c.archive.ensures.err) (take i (mboxes paths archives)) (get_or archives i []) found.0
    (known-still _ _ _ rest (known-called g.S.Source.rest c.archive.new.source c.index-sources-number.result
    c.loop-number.sources i (omega arith) known.1))) in
    rw c.run_fault_of_job.ensures (archive-fault (mboxes paths archives) (take i (mboxes paths archives))
    (record { path = get_or paths i []; bytes = get_or archives i [] }) i fault
    (parted-here paths archives i many within) (sym (taken-so-far paths archives i many within)) found.1 fails)

pub returns-in-Err-clause-count : goal.returns-in-Err-clause-count
returns-in-Err-clause-count g c =
    let i = c.loop-number.number in
    let fault = c.in-Err.fault in
    rw c.run_fault_of_job.ensures (counted_at g.S.Source.failures
    (λ n. is_failed_source n (Some (run_fault_of_job i fault)))
    c.loop-number.sources c.args.sources.now i c.archive.new.source c.index-sources-number.result (omega arith)
    c.loop-number.invariant.counts
    (others-run i fault) (here-counts i fault _ _ (rw c.in-Err.is at c.archive.ensures.count)))

pub returns-in-Err-clause-stays : goal.returns-in-Err-clause-stays
returns-in-Err-clause-stays g c =
    let so_far = c.loop-number.invariant in
    rw c.run_fault_of_job.ensures (stopped g.S.Source c.args.sources.now c.loop-number.sources c.loop-number.number
    c.archive.new.source c.index-sources-number.result c.in-Err.fault
    so_far.stays c.archive.ensures.stays so_far.ends so_far.unread)

pub loop-number-preserved : goal.loop-number-preserved
loop-number-preserved g c =
    let i = c.loop-number.number in
    let is : c.archive.result ≡ Ok c.in_default.field-0 = grind arith in
    record {
      unread = same_after c.loop-number.sources c.args.sources.now i c.archive.new.source
          c.loop-number.invariant.unread;
      counts = map-set_same g.S.Source.failures c.loop-number.sources i c.archive.new.source
          c.index-sources-number.result (rw is at c.archive.ensures.count) ∙ c.loop-number.invariant.counts;
      stays = next-stays g.S.Source c.args.sources.now c.loop-number.sources i c.archive.new.source
          c.index-sources-number.result c.loop-number.invariant.stays c.archive.ensures.stays;
      ends = next-ends g.S.Source c.loop-number.sources i c.archive.new.source (omega arith)
          c.loop-number.invariant.ends
          (rw is at c.archive.ensures.end);
      digests = c.archive.ensures.goes_on.digests ∙ c.loop-number.invariant.digests;
      kept = rw is at c.archive.ensures.goes_on.kept;
      found = λ archives known.
          let paths = map string_bytes c.args.paths.now in
          let below : i < length c.args.paths.now = omega (arith, c.requires.many) in
          let text : c.as_str.result.now ≡ get_or paths i [] =
          c.as_str.ensures.value ∙ ap string_bytes c.index-paths-number.is
          ∙ sym (get_or-map string_bytes c.args.paths.now i c.index-paths-number.result [] below) in
          let within : i < length paths = omega (arith, length-map c.args.paths.now string_bytes) in
          let many : length paths ≡ length archives =
          omega (
            arith,
            length-map c.args.paths.now string_bytes,
            c.requires.many,
            known_length g.S.Source.rest c.args.sources.now archives known.0,
          ) in
          let rest : g.S.Source.rest (get_or c.loop-number.sources i c.index-sources-number.result)
          ≡ Some (get_or archives i []) =
          ap g.S.Source.rest (same_at c.loop-number.sources c.args.sources.now i c.index-sources-number.result
          c.loop-number.invariant.unread) ∙ known_at g.S.Source.rest c.args.sources.now archives i
          c.index-sources-number.result known.0 (omega arith) in
          let all = all-before g.S.Source.rest c.archive.new.source c.index-sources-number.result c.loop-number.sources
          i c.archive.ensures.stays.known known.1 in
          let before = c.loop-number.invariant.found archives (known.0, all) in
          let a : Mbox = record { path = get_or paths i []; bytes = get_or archives i [] } in
          let added : IsAdded (take i (mboxes paths archives)) a c.in_default.field-0 c.archive.new.self =
          subst (λ (t : List ℕ). IsAdded (take i (mboxes paths archives))
          (record { path = t; bytes = get_or archives i [] }) c.in_default.field-0 c.archive.new.self) text
          ((rw is at c.archive.ensures.ok) (take i (mboxes paths archives)) (get_or archives i []) before.0
          (known-still _ _ _ rest (known-called g.S.Source.rest c.archive.new.source c.index-sources-number.result
          c.loop-number.sources i (omega arith) known.1))) in
          let next = sym (next-taken paths archives i many within) in (
            subst (λ l. IsIndexOf c.archive.new.self l) next added.whole,
            subst AreSound next (sound-more (take i (mboxes paths archives)) a c.in_default.field-0
                c.archive.new.self before.1 added),
          );
    }

pub returns-clause-known : goal.returns-clause-known
returns-clause-known g c = λ archives known.
    let paths = map string_bytes c.args.paths.now in
    let many : length paths ≡ length archives =
    omega (
      arith,
      length-map c.args.paths.now string_bytes,
      c.requires.many,
      known_length g.S.Source.rest c.args.sources.now archives known.0,
    ) in
    let whole : length (mboxes paths archives) ≤ c.loop-number.number =
    omega (arith, mboxes-length paths archives many, length-map c.args.paths.now string_bytes, c.requires.many) in
    let all : take c.loop-number.number (mboxes paths archives) ≡ mboxes paths archives =
    take_all c.loop-number.number (mboxes paths archives) whole in
    let found = c.loop-number.invariant.found archives known in
    (subst AreSound all found.1, subst (λ l. IsIndexOf c.loop-number.job l) all found.0)

pub returns-clause-stays : goal.returns-clause-stays
returns-clause-stays g c =
    let so_far = c.loop-number.invariant in
    all-read g.S.Source c.args.sources.now c.loop-number.sources c.loop-number.number so_far.stays so_far.ends
    so_far.unread
    (omega arith)
