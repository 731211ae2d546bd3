-- The lanes agree with the definition, because each operation on masks is the same operation on the tests.
use lib.Lanes.{mask_l, zip2}
use Rattle.mail_words.proofs.Imports.{◌≡◌, ◌∙◌, ◌&&◌, not, leb, arith}
use Rattle.mail_words.specs.Inside.Folds.{is_kept_pair, is_stop}
use Rattle.mail_words.proofs.PairLanes.{marks-or, marks-and, marks-not, marks_mask, none_pass, first_is, first_at_most, first_at_least, second_isnt, second_at_most, second_at_least}
use Rattle.mail_words.proofs.lanes.stops_in.Goals as goal

pub returns-then-first-eq0 : goal.returns-then-first-eq0
returns-then-first-eq0 c =
    let p = c.fits-lanes.0 in
    let q = c.fits-next.0 in
    let none : mask_l (zip2 (λ a b. leb 0xC0 a) c.args.lanes c.args.next) ≡ 0 =
    omega (arith, marks_mask c.args.lanes c.args.next _ _ p q (first_at_least p q 0xC0), c.if-first-eq0.true) in
    marks_mask c.args.lanes c.args.next _ _ p q (marks-and (first_at_least p q 0x41) (first_at_most p q 0x5A))
    ∙ none_pass (λ a b. leb 0x41 a && leb a 0x5A) (λ a b. leb 0xC0 a) (λ a b. not (is_kept_pair a b)) c.args.lanes
    c.args.next none

pub returns : goal.returns
returns c =
    let p = c.fits-lanes.0 in
    let q = c.fits-next.0 in
    let capital = marks-and (first_at_least p q 0x41) (first_at_most p q 0x5A) in
    let latin = marks-and (first_is p q 0xC3) (second_at_least p q 0xA0) in
    let alpha = marks-and (first_is p q 0xCE) (marks-and (second_at_least p q 0xAC) (second_isnt p q 0xB0)) in
    let pi = marks-and (first_is p q 0xCF) (marks-and (second_at_most p q 0x8E) (second_isnt p q 0x82)) in
    let cyrillic = marks-or (marks-and (first_is p q 0xD0) (second_at_least p q 0xB0))
    (marks-and (first_is p q 0xD1) (second_at_most p q 0x9F)) in
    let without_case = marks-and (first_at_least p q 0xD7) (first_at_most p q 0xE0) in
    let kept = marks-or (marks-or (marks-or latin (marks-or alpha pi)) cyrillic) without_case in
    marks_mask c.args.lanes c.args.next is_stop _ p q
    (marks-or capital (marks-and (first_at_least p q 0xC0) (marks-not kept)))
