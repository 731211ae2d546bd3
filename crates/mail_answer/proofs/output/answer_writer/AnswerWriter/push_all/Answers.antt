-- `AnswerWriter::push_all` adds the messages to the answer, message by message.
use Rattle.mail_answer.proofs.Words.{◌≡◌, ℕ, List, [], ◌∷◌, ◌++◌, length, Option, Some, Result, Ok, refl, ap, subst, sym, ◌∙◌, append_assoc, append-nil, arith, err_from_is_err_and, AreNumbers, known_answer, known_message, joined_texts, IsIfKnown}
use Rattle.mail_answer.proofs.ThreadLaws.NumberLists.{numbers_next, few_numbers, known_first, known_none}
use Rattle.mail_answer.proofs.OutputLaws.SheetLemmas.{joins_gathered, writes_next, writes_stop, writes_less, writes_err, tells-joined, joins_more, unsent_before, joined-nothing, joined-assoc}
use Rattle.mail_answer.proofs.OutputLaws.ChosenBelow.{is_among_after}
use Rattle.mail_answer.proofs.OutputLaws.PartReads.{each_more}
use Rattle.mail_answer.proofs.OutputLaws.SpanWrites.{spans_more, spans_stop, spans_end}
use Rattle.mail_answer.proofs.OutputLaws.SentLemmas.{still_ready}
use Rattle.mail_answer.proofs.ArchiveLaws.CallLemmas.{keeps_self, keeps_join}
use Rattle.mail_answer.proofs.ArchiveLaws.KnowledgeLemmas.{answer_later}
use Rattle.mail_answer.proofs.output.answer_writer.AnswerWriter.push_all.Goals as goal

pub loop-n-init : goal.loop-n-init
loop-n-init g c = record {
  same = record { table = refl; format = refl };
  keeps = keeps_self _ _;
  numbers = c.requires.numbers;
  counted = omega arith;
  joins = (
    Some [],
    [],
    joined-nothing _,
    refl,
    joins_gathered _ _ _ _
        (sym (append-nil c.args.self.now.sheet.text)) refl,
  );
  kept = λ unsent. refl;
  out_count = refl;
  passed = (
    [],
    refl,
    λ mbox. (
      [],
      refl,
      joins_gathered _ _
          _ _ (sym (append-nil c.args.self.now.sheet.text)) refl,
    ),
    refl,
  );
  unasked = λ raw. refl;
  archives_count = refl;
}

pub push-requires-clause-ready : goal.push-requires-clause-ready
push-requires-clause-ready = grind (arith, still_ready)

pub returns-in_err-push-clause-messages : goal.returns-in_err-push-clause-messages
returns-in_err-push-clause-messages g c =
    let f = c.args.self.now.format in
    let t = c.args.self.now.places.table in
    let i = c.loop-n.invariant in
    let j = i.joins in
    let held = g.A.Archives.held c.push.new.archives in
    let so_far =
    answer_later f t _ _ _ _ _
    c.in_err-push.ensures.archives.keeps.held j.2 in
    let next = known_message f t held c.in-Some.n in
    let rest = known_answer f t held c.next.new.self in
    let took = c.in-Some.ensures in
    let all = i.passed.1
    ∙ ap (λ ns. i.passed.0 ++ ns) took in
    record {
      text = rw (so_far, ap (known_answer f t held) took ∙ known_first f t _ _ _)
          (writes_next _ _ _
          _ _ _ _ _
          _ (j.1, j.3, j.4)
          (writes_stop _ _ _
          _ _ _ _ c.from_residual.ensures.0
          (rw (i.same.table, i.same.format) at c.in_err-push.ensures.message.text)));
      spans = λ mbox. rw all
          (spans_stop _ _ _
          _ _ _ t _ _ _
          _
          c.from_residual.ensures.0 (i.passed.2 mbox)
          (rw i.same.table at (c.in_err-push.ensures.message.span (i.same.format ∙ mbox))));
    }

pub returns-in_err-push-clause-stale : goal.returns-in_err-push-clause-stale
returns-in_err-push-clause-stale = grind (arith, err_from_is_err_and, is_among_after)

pub overflow_add-count : goal.overflow_add-count
overflow_add-count = grind (arith, few_numbers)

pub loop-n-preserved : goal.loop-n-preserved
loop-n-preserved g c =
    let t = c.args.self.now.places.table in
    let i = c.loop-n.invariant in
    let j = i.joins in
    let held = g.A.Archives.held c.push.new.archives in
    let so_far =
    answer_later _ t _ _ _
    _ _ c.in_ok-push.ensures.archives.keeps.held j.2 in
    let next = known_message c.args.self.now.format t held c.in-Some.n in
    let rest = known_answer c.args.self.now.format t held c.next.new.self in
    let took = c.in-Some.ensures in
    let w = rw (i.same.table, i.same.format) at c.in_ok-push.ensures.message.text in
    record {
      same = record {
        table = c.in_ok-push.ensures.same.table ∙ i.same.table;
        format = c.in_ok-push.ensures.same.format ∙ i.same.format;
      };
      keeps = keeps_join _ _ _ _ i.keeps c.in_ok-push.ensures.archives.keeps;
      numbers = numbers_next _ _ _
          (subst (AreNumbers (length t.messages)) took i.numbers);
      counted = omega (arith, i.counted, ap length took);
      joins = (
        joined_texts j.0 next,
        j.1 ++ w.0,
        so_far ∙ ap (λ k. joined_texts j.0 k)
            (ap (known_answer c.args.self.now.format t held) took
            ∙ known_first _ t _ _ _) ∙ joined-assoc _ _ _,
        tells-joined _ _ _ _ j.3 w.1,
        joins_more j.4 w.2,
      );
      kept = λ unsent. c.in_ok-push.ensures.out.kept unsent refl ∙ i.kept (unsent_before w.2 unsent);
      out_count = c.in_ok-push.ensures.out.count ∙ i.out_count;
      passed = (
        i.passed.0 ++ c.in-Some.n ∷ [],
        i.passed.1 ∙ ap (λ ns. i.passed.0 ++ ns) took
            ∙ sym (append_assoc i.passed.0 (c.in-Some.n ∷ []) c.next.new.self),
        λ mbox. spans_more t _ _ (i.passed.2 mbox)
            (rw i.same.table at (c.in_ok-push.ensures.message.span (i.same.format ∙ mbox))),
        each_more _ _ _ _ _ _
            _ _ i.passed.3
            (rw (i.same.table, i.same.format) at c.in_ok-push.ensures.read),
      );
      unasked = λ raw. (c.in_ok-push.ensures.raw (i.same.format ∙ raw)).2 ∙ i.unasked raw;
      archives_count = c.in_ok-push.ensures.archives.count ∙ i.archives_count;
    }

pub returns-in_err-send-clause-messages : goal.returns-in_err-send-clause-messages
returns-in_err-send-clause-messages g c =
    let f = c.args.self.now.format in
    let t = c.args.self.now.places.table in
    let i = c.loop-n.invariant in
    let j = i.joins in
    let held = g.A.Archives.held c.loop-n.archives in
    let rest = known_answer f t held c.loop-n.numbers in
    let ended = c.in_default.ensures.0 in
    let nothing : IsIfKnown rest [] = rw ended (known_none f t _) in
    let all =
    sym (i.passed.1 ∙ ap (λ ns. i.passed.0 ++ ns) ended ∙ append-nil i.passed.0) in
    let last =
    writes_err _ _ _ _ (Some [])
    _ c.from_residual-in_err-send.ensures.0 c.in_err-send.ensures.writes in
    record {
      text = rw j.2
          (writes_next _ _ _
          _ _ _ _ _ _
          (j.1, j.3, j.4)
          (writes_less _ _ _ _
          _ _ _ nothing last));
      spans = λ mbox.
          spans_end _ _ _
          _ _ _ t _
          _
          (rw all at (i.passed.2 mbox)) last;
    }

pub returns-clause-messages : goal.returns-clause-messages
returns-clause-messages g c =
    let f = c.args.self.now.format in
    let t = c.args.self.now.places.table in
    let i = c.loop-n.invariant in
    let j = i.joins in
    let held : Option (List (List ℕ)) = g.A.Archives.held c.loop-n.archives in
    let rest : Option (List ℕ) = known_answer f t held c.loop-n.numbers in
    let ended : c.loop-n.numbers ≡ [] = c.in_default.ensures.0 in
    let nothing : IsIfKnown rest [] = rw ended (known_none f t held) in
    let all : i.passed.0 ≡ c.args.numbers.now =
    sym (i.passed.1 ∙ ap (λ (ns : List ℕ). i.passed.0 ++ ns) ended ∙ append-nil i.passed.0) in
    let done : Result ℕ ℕ = Ok 0 in
    record {
      text = rw j.2
          (writes_next (g.O.Out.taken c.args.out.now) (g.O.Out.taken c.loop-n.out) (g.O.Out.taken c.send.new.out)
          c.args.self.now.sheet c.loop-n.self.sheet c.send.new.self j.0 rest done (j.1, j.3, j.4)
          (writes_less (g.O.Out.taken c.loop-n.out) (g.O.Out.taken c.send.new.out) c.loop-n.self.sheet c.send.new.self
          rest [] done nothing c.in_ok-send.ensures.writes));
      spans = λ mbox.
          spans_end (g.O.Out.taken c.args.out.now) (g.O.Out.taken c.loop-n.out) (g.O.Out.taken c.send.new.out)
          c.args.self.now.sheet c.loop-n.self.sheet c.send.new.self t c.args.numbers.now done
          (rw all at (i.passed.2 mbox)) c.in_ok-send.ensures.writes;
    }

pub returns-clause-count : goal.returns-clause-count
returns-clause-count = grind arith
