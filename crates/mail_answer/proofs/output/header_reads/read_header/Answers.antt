-- `read_header` reads the fields of a message, because the part of the archive gives the bytes of the message.
use Rattle.mail_answer.proofs.Words.{◌≡◌, ℕ, Ok, Err, List, IfSome, Stale, drop, refl, arith, lines, span, fields_of, HasFields, reading}
use Rattle.header_text.specs.declared.header.Header.{Header}
use Rattle.mail_answer.specs.Inside.Calls.{ReadsArchives}
use Rattle.mail_answer.proofs.OutputLaws.ArchiveParts.{part_self, part_read, part_reads, part_ended, part_ends_early, part_told}
use Rattle.mail_answer.proofs.OutputLaws.PartReads.{front_read}
use Rattle.mail_answer.proofs.output.header_reads.read_header.Goals as goal

pub returns-then-part-gt0-clause-archives : goal.returns-then-part-gt0-clause-archives
returns-then-part-gt0-clause-archives g c =
    let call = c.read_source-read.ensures in
    let reads = call.stays.was _ (part_self g.A.Archives _) in
    let told : ReadsArchives {T = Header} g.A.Archives c.args.archives.now c.read_source-read.new.source.archives.now
    (Err (Stale c.args.message.archive)) =
    part_ends_early g.A.Archives _ _ reads refl _ call.count Header c.args.message.archive c.if-part-gt0.true in
    grind (arith, told)

pub returns-clause-archives : goal.returns-clause-archives
returns-clause-archives g c =
    let reads = c.in_ok-read.ensures.stays.was _ (part_self g.A.Archives _) in
    let none : c.read_source-read.new.source.early_ends ≡ 0 = omega (arith, c.if-part-gt0.false) in
    let told : ReadsArchives {T = Header} g.A.Archives c.args.archives.now c.read_source-read.new.source.archives.now
    (Ok c.read_source-read.new.header) =
    part_reads g.A.Archives _ _ reads refl _ c.in_ok-read.ensures.count _ none refl refl in
    grind (arith, told)

pub returns-clause-fields : goal.returns-clause-fields
returns-clause-fields g c =
    let reads = c.in_ok-read.ensures.stays.was _ (part_self g.A.Archives _) in
    let now = c.read_source-read.new.source in
    let told : IfSome (g.A.Archives.held now.archives.now) (λ bytes.
    HasFields c.read_source-read.new.header (fields_of (drop 1 (lines (span bytes c.args.message))))) =
    part_told _ _ c.args.message (reading now.archive now.next now.left)
    (λ (bytes : List ℕ). HasFields c.read_source-read.new.header
    (fields_of (drop 1 (lines bytes)))) reads.keeps.held c.in_ok-read.ensures.fields in
    grind (arith, told)

pub returns-in_err-read-clause-archives : goal.returns-in_err-read-clause-archives
returns-in_err-read-clause-archives g c =
    let reads = c.in_err-read.ensures.stays.was _ (part_self g.A.Archives _) in
    let none : c.read_source-read.new.source.early_ends ≡ 0 = omega (arith, c.if-part-gt0.false) in
    let told : ReadsArchives {T = Header} g.A.Archives c.args.archives.now c.read_source-read.new.source.archives.now
    (Err c.in_err-read.field-0.0) =
    part_reads g.A.Archives _ _ reads refl _ c.in_err-read.ensures.count _ none refl c.in_err-read.ensures.fresh in
    grind (arith, told)

pub returns-then-part-gt0-clause-read : goal.returns-then-part-gt0-clause-read
returns-then-part-gt0-clause-read g c =
    let call = c.read_source-read.ensures in
    let reads = call.stays.was _ (part_self _ _) in
    let told =
    part_ended _ _ _ reads refl _ call.count c.if-part-gt0.true in
    grind (arith, told)

pub returns-clause-read : goal.returns-clause-read
returns-clause-read g c =
    let call = c.in_ok-read.ensures in
    let reads = call.stays.was _ (part_self _ _) in
    let none : c.read_source-read.new.source.early_ends ≡ 0 = omega (arith, c.if-part-gt0.false) in
    let told =
    front_read _ c.args.message _ _ _ (part_read g.A.Archives _ _ reads refl call.count none) in
    grind (arith, told)
