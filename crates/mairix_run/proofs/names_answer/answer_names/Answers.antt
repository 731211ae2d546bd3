-- If all reports agree, the archives have the bytes of the files, so the answer is that of these bytes. What is so of
-- what was written is so of the result, which has lack of memory in place of a failed read.
use Rattle.std.proofs.Common.{Ok, OnOk, ◌≡◌, ◌∙◌, ◌⊎◌, ◌&&◌, Option, ◌≤◌, ◌<◌, ◌^◌, List, ℕ, true, Some, ap, arith, length, map, refl, rules, subst, sym}
use Rattle.std.specs.Bool.{OnTrue}
use Rattle.std.specs.Result.{MatchResult}
use Rattle.mairix_tool.specs.Altered.{altered_archive}
use Rattle.mairix_tool.specs.Asked.{asks}
use Rattle.mairix_tool.specs.Runs.{IsReply, IsStaleOr, IsStoredReply}
use Rattle.named_archives.specs.Names.{files_of, held_while}
use Rattle.named_archives.specs.Progress.{CannotRead, has_agreed}
use Rattle.run_faults.specs.Faults.{fault_in, is_failed_archives, IsSearchFault}
use Rattle.contract_words.specs.Devices.{Counted}
use Rattle.named_archives.specs.States.{IsInOneOf}
use Rattle.named_files.proofs.FoundStates.{only-none, only-then}
use Rattle.named_files.specs.AddedReports.{AddsReports}
use Rattle.named_files.specs.FoundStates.{AreFoundOnly}
use Rattle.mairix_run.proofs.FirstStates.{ok-both, ok-memory, ok-then, ok-without-fault}
use Rattle.mairix_run.proofs.Replies.{answers-by, fault-of, plain-reply, plain-stale, plain-stored}
use Rattle.mairix_run.proofs.SearchedArchives.{are-some, ended-if, first-agree, held-at-end, if-some}
use Rattle.mairix_run.proofs.UnreadArchives.{or-other, reads-fail, searched-memory, stored-reads}
use Rattle.mairix_run.specs.Answered.{SearchesFiles, is_unread}
use Rattle.mairix_run.proofs.names_answer.answer_names.Given.{Over}
use Rattle.mairix_run.proofs.names_answer.answer_names.Goals.{After-report_lack_of_memory, in-Some-index, in-None}
use Rattle.mairix_run.proofs.names_answer.answer_names.Goals as goal

-- what is held of the archives, if all that was returned of them agrees with what the files hold
abbrev held : (g : Over) (c : After-report_lack_of_memory g) → Option (List (List ℕ))
held g c =
    let F = g.F.Folder in
    let read = c.match-search.archives in
    held_while (F.agree read.closed && has_agreed (λ a. g.F.File.Source.rest a.file)
    (λ a. g.F.File.KeptFile.bytes a.file) read.current)
    (files_of g.F.Name.FileName.text (F.holds read.folder.now) read.names.now)

-- what a search over these archives does, before lack of memory is looked for
answered : (g : Over) (c : After-report_lack_of_memory g) → let search = c.args.search.now in
    SearchesFiles g.O.Out (asks search.words.now search.text.now search.moment) search.index
    (length search.names.now < 2 ^ 32)
    (λ bytes. (files_of g.F.Name.FileName.text (g.F.Folder.holds c.args.folder.now) search.names.now ≡ map Some bytes)
    × (g.F.Folder.agree c.match-search.reports ≡ true) × (held g c ≡ Some bytes))
    (files_of g.F.Name.FileName.text (g.F.Folder.holds c.args.folder.now) search.names.now)
    ((c.in-Some.archives.failures < c.match-search.archives.failures)
    ⊎ CannotRead g.F.Folder.can_refuse g.F.Folder.reads_can_fail) c.match-search.answered c.args.out.now
    c.match-search.out
answered g c = elim c.match-search.branch [
  | in-Some-index w ↦
      let it = c.args.search.now in
      let asked = asks it.words.now it.text.now it.moment in
      let index = w.in-Some-index.index.now in
      let run = w.search_run in
      let result = w.result_of-answered.result in
      let made = w.result_of-answered.ensures in
      let same = ap fault_in made ∙ fault-of run.result.status run.result.fault in
      let ended : MatchResult result (λ status. status ≤ 1) IsSearchFault = search rules in
      rw w.in-Some-index.is (rw w.answered-is (rw w.out-is (rw w.archives-is (record {
        answers = λ few bytes held. answers-by (IsStoredReply asked index bytes) (plain-stored asked index bytes) _ _
            run.result result made (run.ensures.reply bytes held.2);
        by_messages = λ few bytes held. let by = run.ensures.by_messages bytes held.2 in record {
          indexed = λ w is many sound serves. answers-by (IsReply (Ok w) bytes) (plain-reply (Ok w) bytes) _ _
              run.result result made (by.indexed w is many sound serves);
          verified = λ w before is verify paths sound file apart.
              let altered = altered_archive before w.paths bytes in
              answers-by (IsStaleOr altered (IsReply (Ok w) bytes))
              (plain-stale altered (IsReply (Ok w) bytes) (plain-reply (Ok w) bytes)) _ _ run.result result made
              (by.verified w before is verify paths sound file apart);
        };
        refused = search rules;
        ending = ended-if (length it.names.now < 2 ^ 32) result (λ status. status ≤ 1) IsSearchFault ended;
        unsent = search rules;
        causes = record {
          unread = λ bytes files. or-other (is_unread (fault_in result)) _ _ (subst (λ f. OnTrue (is_unread f)
              (c.in-Some.archives.failures < run.new.archives.failures)) (sym same) (stored-reads run.result
              c.in-Some.archives.failures run.new.archives.failures run.result.fault run.ensures.cause.status
              run.ensures.counts.archives));
          out_failed = search rules;
        };
      }))))
  | in-None w ↦ rw w.in-None.is (rw w.answered-is
      (rw w.out-is (rw w.reports-is (rw w.archives-is w.answer_once-answered.ensures.searched))))
]

-- the archives' files have the bytes that they had
still : (g : Over) (c : After-report_lack_of_memory g) (bytes : List (List ℕ))
    → files_of g.F.Name.FileName.text (g.F.Folder.holds c.in-Some.archives.folder.now) c.in-Some.archives.names.now
    ≡ map Some bytes
    → files_of g.F.Name.FileName.text (g.F.Folder.holds c.match-search.archives.folder.now)
    c.match-search.archives.names.now ≡ map Some bytes
still g c bytes = elim c.match-search.branch [
  | in-Some-index w ↦ rw w.archives-is
      (λ is. (w.search_run.ensures.keeps.was c.in-Some.archives (refl, refl)).0 ∙ is)
  | in-None w ↦ rw w.archives-is
      (λ is. (w.answer_once-answered.ensures.held.was c.in-Some.archives (refl, refl)).0 ∙ is)
]

-- they still have to be in the states of the first look
still-in : (g : Over) (c : After-report_lack_of_memory g)
    → c.match-search.archives.states.now ≡ c.in-Some.archives.states.now
still-in g c = elim c.match-search.branch [
  | in-Some-index w ↦ rw w.archives-is (w.search_run.ensures.keeps.was c.in-Some.archives (refl, refl)).1
  | in-None w ↦ rw w.archives-is (w.answer_once-answered.ensures.held.was c.in-Some.archives (refl, refl)).1
]

-- with an answer no call of the archives has failed, and each source was found in its state
abbrev AreRead : (g : Over) (c : After-report_lack_of_memory g) → Type 0
AreRead g c = (c.match-search.archives.failures ≡ 0) × AreFoundOnly (IsInOneOf c.args.search.now.states.now)
    (g.F.Folder.found c.args.reports.now) (g.F.Folder.found c.match-search.reports)

are-read : (g : Over) (c : After-report_lack_of_memory g) → OnOk c.match-search.answered (AreRead g c)
are-read g c = elim c.match-search.branch [
  | in-Some-index w ↦
      let run = w.search_run in
      let P = IsInOneOf c.args.search.now.states.now in
      let old = g.F.Folder.found c.args.reports.now in
      let Read = (run.new.archives.failures ≡ 0) × AreFoundOnly P old old in
      rw w.answered-is (rw w.archives-is (rw w.reports-is (subst (λ r. OnOk r Read) (sym w.result_of-answered.ensures)
      (ok-without-fault Read run.result.status run.result.fault (λ none. (
        subst (λ f. Counted (is_failed_archives f) c.in-Some.archives.failures run.new.archives.failures) none
            run.ensures.counts.archives ∙ c.in-Some.ensures.fresh,
        only-none P old,
      ))))))
  | in-None w ↦
      let once = w.answer_once-answered in
      let P = IsInOneOf c.args.search.now.states.now in
      rw w.answered-is (rw w.archives-is (rw w.reports-is (ok-both (once.new.archives.failures ≡ 0)
      (AreFoundOnly P (g.F.Folder.found c.args.reports.now) (g.F.Folder.found once.new.reports)) once.result
      (ok-then (once.new.archives.failures ≡ c.in-Some.archives.failures) (once.new.archives.failures ≡ 0) once.result
      once.ensures.counts (λ same. same ∙ c.in-Some.ensures.fresh)) once.ensures.in_state)))
]

searched : (g : Over) (c : After-report_lack_of_memory g) → let search = c.args.search.now in
    SearchesFiles g.O.Out (asks search.words.now search.text.now search.moment) search.index
    (length search.names.now < 2 ^ 32)
    (λ bytes. (files_of g.F.Name.FileName.text (g.F.Folder.holds c.args.folder.now) search.names.now ≡ map Some bytes)
    × (g.F.Folder.agree c.report.new.reports ≡ true))
    (files_of g.F.Name.FileName.text (g.F.Folder.holds c.args.folder.now) search.names.now)
    (CannotRead g.F.Folder.can_refuse g.F.Folder.reads_can_fail) c.report_lack_of_memory.result c.args.out.now
    c.match-search.out
searched g c =
    let archives = c.match-search.archives in
    let made = c.report_lack_of_memory.ensures in
    searched-memory g.O.Out _ c.args.search.now.index _ _ _ _ _ _ _ _ _ c.match-search.answered
    c.report_lack_of_memory.result made
    (λ bytes known. (
      known.0,
      first-agree _ _ _ c.report.ensures.noted.noted known.1,
      held-at-end _ _ _ bytes (still g c bytes) (c.report.ensures.known known.1) (c.in-Some.ensures.files ∙ known.0),
    ))
    (λ bytes files. reads-fail _ archives.failures _ _ c.match-search.answered c.report_lack_of_memory.result made
    ((answered g c).causes.unread bytes files)
    (λ rose not. archives.failed rose (sym c.lacks_memory-lacks_memory.ensures ∙ not)
    (are-some _ bytes (still g c bytes (c.in-Some.ensures.files ∙ files)))))
    (answered g c)

pub returns-clause-answers : goal.returns-clause-answers
returns-clause-answers g c = λ few bytes files agrees.
    (searched g (goal.at.returns-clause-answers g c).After-report_lack_of_memory).answers few bytes (files, agrees)

pub returns-clause-by_messages : goal.returns-clause-by_messages
returns-clause-by_messages g c = if-some c.args.search.now.index _ _
    (λ index is few bytes files agrees. is few bytes (files, agrees))
    (searched g (goal.at.returns-clause-by_messages g c).After-report_lack_of_memory).by_messages

pub returns-clause-refused : goal.returns-clause-refused
returns-clause-refused g c =
    let below : length c.args.search.now.names.now < 2 ^ 32 = c.in-Some.ensures.few.0 refl in record {
      first = (searched g (goal.at.returns-clause-refused g c).After-report_lack_of_memory).refused;
      too_many = λ many. absurd (omega (arith, many, below));
    }

pub returns-clause-ending : goal.returns-clause-ending
returns-clause-ending g c = (searched g (goal.at.returns-clause-ending g c).After-report_lack_of_memory).ending

pub returns-clause-unsent : goal.returns-clause-unsent
returns-clause-unsent g c = (searched g (goal.at.returns-clause-unsent g c).After-report_lack_of_memory).unsent

pub returns-clause-causes : goal.returns-clause-causes
returns-clause-causes g c = (searched g (goal.at.returns-clause-causes g c).After-report_lack_of_memory).causes

pub returns-clause-in_state : goal.returns-clause-in_state
returns-clause-in_state g c =
    let at = (goal.at.returns-clause-in_state g c).After-report_lack_of_memory in
    let found = g.F.Folder.found in
    let states : List g.row.F-File-State.Denot = c.args.search.now.states.now in
    let P = IsInOneOf states in
    let archives = c.match-search.archives in
    let same : archives.states.now ≡ states = still-in g at ∙ c.in-Some.ensures.states in
    let AreFound = AreFoundOnly P (found c.args.reports.now) (found c.report.new.reports) in
    subst (λ r. OnOk r AreFound) (sym c.report_lack_of_memory.ensures)
    (ok-memory AreFound c.lacks_memory-lacks_memory.result c.match-search.answered
    (ok-then (AreRead g at) AreFound c.match-search.answered (are-read g at) (λ read.
    only-then P (found c.args.reports.now) (found c.match-search.reports) (found c.report.new.reports) read.1
    (subst (λ (s : List g.row.F-File-State.Denot). AreFoundOnly (IsInOneOf s) (found c.match-search.reports)
    (found c.report.new.reports)) same (c.report.ensures.in_state read.0)))))

-- ---- the reports

searching : (g : Over) (c : After-report_lack_of_memory g)
    → AddsReports {R = g.row.F-Reports.Denot} g.F.Folder c.args.reports.now c.match-search.reports
searching g c = elim c.match-search.branch [
  | in-Some-index w ↦ rw w.reports-is
      (record { earlier = λ agrees. agrees; right = λ right. refl; found = λ first is. is })
  | in-None w ↦ rw w.reports-is w.answer_once-answered.ensures.reports
]

pub returns-clause-reports : goal.returns-clause-reports
returns-clause-reports g c =
    let mid = searching g (goal.at.returns-clause-reports g c).After-report_lack_of_memory in
    let end = c.report.ensures.reports in
    record {
      earlier = λ agrees. mid.earlier (end.earlier agrees);
      right = λ right. end.right right ∙ mid.right right;
      found = λ first is. end.found first (mid.found first is);
    }
