-- Each turn adds the setting of one line. The settings so far, with those of the lines left, are those of the whole
-- text.
use Rattle.mairix_options.proofs.Words.{◌≡◌, ◌+◌, ◌^◌, ◌≤◌, List, length, lines_in, settings_from, Setting}
use Rattle.mairix_options.specs.Inside.Said.{Says}
use Rattle.mairix_options.proofs.rcfile.rc_after.Given as goal

-- the settings so far, with those of the lines left after them, are those of all lines; and there are numbers for the
-- lines left
abbrev pub invariant-loop-line : goal.invariant-loop-line
invariant-loop-line l =
    ((before : List Setting) → Says before l.fn.said → (sofar : List Setting) × Says sofar l.said
    × (settings_from sofar l.number l.line-iterator ≡ settings_from before 1 (lines_in l.fn.rc)))
    × (l.number + length l.line-iterator ≤ 2 ^ 63)
