-- What `read_mairix` returns is also what the grammar says, because no word of mail has a byte with a meaning in
-- patterns.
use Rattle.mail_query.proofs.Words.{map, string_bytes, arith, pattern_lexicon, mairix_query, AskNothing, refusal}
use Rattle.mail_query.specs.Meaning.{meaning}
use Rattle.mail_query.proofs.AnswerLemmas.{if_ok, if_err}
use Rattle.mail_query.proofs.MairixLaws.MairixExact.{dates_plain, patterns_exact, refused_exact, fault_exact}
use Rattle.mail_query.proofs.MairixLaws.EachLemmas.{texts_utf8}
use Rattle.mail_query.proofs.mairix.read_mairix.Goals as goal

pub returns-clause-read : goal.returns-clause-read
returns-clause-read c = grind (arith, string_bytes, if_ok, patterns_exact, dates_plain, texts_utf8)

pub returns-clause-refused : goal.returns-clause-refused
returns-clause-refused c =
    let lexicon = pattern_lexicon c.args.now in
    let patterns = map string_bytes c.args.patterns.now in
    if_err meaning refusal c.read_patterns.result (mairix_query patterns c.args.now)
    c.read_patterns.ensures (λ _. AskNothing lexicon patterns)
    (λ f e. let exact = refused_exact lexicon (dates_plain c.args.now) patterns (texts_utf8 c.args.patterns.now)
    in exact.0 (f, e))

pub returns-clause-first_fault : goal.returns-clause-first_fault
returns-clause-first_fault c = grind (arith, string_bytes, if_err, fault_exact, dates_plain, texts_utf8)
