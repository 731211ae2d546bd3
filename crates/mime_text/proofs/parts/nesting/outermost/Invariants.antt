-- The line delimits no frame so far, so those that are left decide.
use Rattle.mime_text.proofs.Words.{◌≡◌, [], take, drop, Pair, scan, inside_out}
use Rattle.mime_text.proofs.parts.nesting.outermost.Given as goal

abbrev pub invariant-loop-at : goal.invariant-loop-at
invariant-loop-at l = scan {A = Pair} [] l.frames l.text
    ≡ scan {A = Pair} (inside_out (take l.at l.frames) []) (drop l.at l.frames) l.text
