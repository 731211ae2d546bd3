-- What one read leaves as it is, several reads one after another leave too.
use Rattle.mbox_cutter.proofs.Words.{Bool, false, ◌∙◌, arith, Ghosts, MutBor, Stays, ReadsSource}

pub Stays-self : {S : Type 0} (g : Ghosts S) (s : S) → Stays g s s
Stays-self g s = grind arith

pub Stays-join : {S : Type 0} (g : Ghosts S) (a b c : S) → Stays g a b → Stays g b c → Stays g a c
Stays-join g a b c h k = grind arith

pub ReadsSource-none : {S : Type 0} (g : Ghosts S) (s : MutBor S) → ReadsSource g false s s
ReadsSource-none g s = grind arith

pub ReadsSource-join : {S : Type 0} (g : Ghosts S) (failed : Bool) (a b c : MutBor S) → ReadsSource g false a b
    → ReadsSource g failed b c → ReadsSource g failed a c
ReadsSource-join g failed a b c h k = grind (arith, Stays-join)
