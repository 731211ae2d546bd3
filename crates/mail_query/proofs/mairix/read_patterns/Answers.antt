-- `read_patterns` reads pattern by pattern and stops at the first fault; the grammar bounds how deep the query is.
use Rattle.mail_query.proofs.Words.{◌≡◌, ◌≤◌, ◌<◌, length, map, string_bytes, Ok, OrMemory, QueryFaultKind, arith, nat_tests, MatchResult-at_ok, queries_of, all_of, pattern_query, IsAsked, IsFirstFault, length-map, pattern_lexicon}
use Rattle.mail_query.proofs.MairixLaws.EachLemmas.{at_number, reads_all, patterns_made, reads_more, pattern_refused, pattern_here, texts_utf8}
use Rattle.mail_query.proofs.MairixLaws.DepthLemmas.{asked_depth}
use Rattle.mail_query.proofs.MairixLaws.MairixAnswers.{patterns_answer}
use Rattle.mail_query.proofs.MairixLaws.MairixExact.{dates_plain}
use Rattle.mail_query.proofs.mairix.read_patterns.Goals as goal

pub returns-in-Err : goal.returns-in-Err
returns-in-Err c =
    let here = pattern_here c.args.patterns.now c.loop-i.i c.index-patterns-i.result c.as_str.result.now
    c.loop-i-test.true c.index-patterns-i.is c.as_str.ensures.value in
    let refused = λ (given : OrMemory QueryFaultKind). pattern_refused (pattern_lexicon c.args.now)
    (map string_bytes c.args.patterns.now) (queries_of c.loop-i.members.items) c.loop-i.i c.as_str.result.now given
    c.loop-i.invariant here in
    grind arith

pub loop-i-preserved : goal.loop-i-preserved
loop-i-preserved c =
    let here = pattern_here c.args.patterns.now c.loop-i.i c.index-patterns-i.result c.as_str.result.now
    c.loop-i-test.true c.index-patterns-i.is c.as_str.ensures.value in
    grind (arith, reads_more)

pub new-requires : goal.new-requires
new-requires c =
    let lexicon = pattern_lexicon c.args.now in
    let patterns = map string_bytes c.args.patterns.now in
    let end : c.loop-i.i ≡ length patterns = rw length-map (omega arith) in
    let some : 0 < length patterns = rw length-map (grind (arith, nat_tests)) in
    let q = all_of (queries_of c.loop-i.members.items) in
    let whole = patterns_made lexicon patterns (Ok _) some
    (reads_all at_number (pattern_query lexicon) patterns (queries_of c.loop-i.members.items) c.loop-i.i
    c.loop-i.invariant end) in
    let asked = MatchResult-at_ok (IsAsked lexicon patterns) (IsFirstFault lexicon patterns) q whole
    (patterns_answer lexicon (dates_plain c.args.now) patterns (texts_utf8 c.args.patterns.now)) in
    grind (arith, asked_depth)

pub returns : goal.returns
returns c = grind (arith, string_bytes, length-map, nat_tests, patterns_made, reads_all, at_number)
