-- `Scanned::least_from` returns the least number from n on: its first number, or the next record that passes.
use Rattle.mail_answer.proofs.Words.{arith}
use Rattle.mail_answer.proofs.CursorLaws.Scans.{stays_drops, stays_first, scan_drops, scan_first}
use Rattle.mail_answer.proofs.cursor.scanned.Scanned.least_from.Goals as goal

pub returns-then-not-is_before-clause-rest : goal.returns-then-not-is_before-clause-rest
returns-then-not-is_before-clause-rest = grind (arith, stays_drops)

pub returns-then-not-is_before-clause-number : goal.returns-then-not-is_before-clause-number
returns-then-not-is_before-clause-number = grind (arith, stays_first)

pub returns-clause-rest : goal.returns-clause-rest
returns-clause-rest c = grind (arith, scan_drops)

pub returns-clause-number : goal.returns-clause-number
returns-clause-number = grind (arith, scan_first)
