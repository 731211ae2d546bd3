-- `read_digested` returns the digest of all bytes of a source, because all of them were read through the digest.
use Rattle.index_job.proofs.Words.{still_known, arith, ◌≡◌, [], List, Option, Result, Ok, Err, Some, IfSome, OnOk, subst, ℕ}
use Rattle.contract_words.proofs.StillKnown.{still-known, still-end}
use Rattle.mbox_cutter.specs.Digests.{inner, AreWhole}
use Rattle.mbox_cutter.proofs.Sources.{Stays-self}
use Rattle.std.specs.Prelude.{IfOk}
use Rattle.index_job.proofs.archive_reading.read_digested.Goals as goal

pub returns-clause-known : goal.returns-clause-known
returns-clause-known g c = λ bytes rest.
    let comes : still_known (g.S.Source.rest (inner c.new-digested.result).now)
    (g.S.Source.rest (inner c.read_archive-read.new.source).now) ≡ Some bytes = grind arith in
    c.read_archive-read.ensures.known bytes comes

on-success : {T E B : Type 0} {A : T → Type 0} (r : Result T E) → IfOk r A → ((x : T) → A x → B) → OnOk r B
on-success (Ok x) holds conclude = conclude x holds
on-success (Err e) holds conclude = tt

pub returns-clause-digest : goal.returns-clause-digest
returns-clause-digest g c =
    on-success c.read_archive-read.result c.read_archive-read.ensures.ended (λ read ended bytes rest.
    let comes : still_known (g.S.Source.rest (inner c.new-digested.result).now)
    (g.S.Source.rest (inner c.read_archive-read.new.source).now) ≡ Some bytes = grind arith in
    let known = still-known _ _ _ rest in
    let at_first : AreWhole g.S.Source.rest c.new-digested.result bytes =
    subst (λ (o : Option (List ℕ)). IfSome o (λ b. AreWhole g.S.Source.rest c.new-digested.result b)) known
    c.new-digested.ensures.whole in
    let at_end = still-end _ _ _ comes ended.end in
    c.finish.ensures.whole bytes (c.read_archive-read.ensures.stays.whole bytes at_first) at_end)

pub returns-clause-stays : goal.returns-clause-stays
returns-clause-stays g c =
    let inside = c.read_archive-read.ensures.stays.was c.new-digested.result (Stays-self _ _) in
    grind arith
