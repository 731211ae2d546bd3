-- What was read of the source is after the old bytes, and the zeros after it are gone.
use Rattle.std.proofs.Common.{rules, ◌≡◌, ◌≤◌, ◌++◌, ◌+◌, ◌∙◌, ℕ, List, true, length, replicate, take, is_ok}
use Rattle.mairix_run.proofs.WholeFiles.{gives_after, grows, put_after}
use Rattle.mairix_run.proofs.whole_file.read_piece.Goals as goal

pub returns-clause-front : goal.returns-clause-front
returns-clause-front g c =
    let rest = g.S.Source.rest in
    let old : List ℕ = c.args.bytes.now.items in
    let part : List ℕ = c.fill.new.into in
    let long : List ℕ = c.deref_mut.result.now in
    let start : ℕ = c.len-start.result in
    let n : ℕ = c.in-Ok.n in
    let room : length part ≡ c.args.most = search rules in
    let at : start ≡ length old = search rules in
    let sum : c.in-Some.end ≡ start + c.args.most = search rules in
    let within : start + n ≤ c.resize.new.self.len = search rules in
    let ok : is_ok c.resize.result ≡ true = search rules in
    let lent : long ≡ c.resize.new.self.items = search rules in
    let grown : long ≡ old ++ replicate c.args.most 0 = lent ∙ grows (is_ok c.resize.result) start c.args.most
    c.in-Some.end old c.resize.new.self.items ok at sum (search rules) in
    let is : c.truncate.new.self.items ≡ old ++ take n part = c.truncate.ensures.items ∙ put_after start n
    c.resize.new.self.len old (replicate c.args.most 0) long part _ _ at grown c.in-Ok.ensures.bound within in
    gives_after (rest c.args.source.now) (rest c.fill.new.source) (length part) c.args.most n old part
    c.truncate.new.self.items c.in-Ok.ensures.front room is
