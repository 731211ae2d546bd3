-- The fields of a cutter, and the state that they mean.
use Rattle.std.specs.Prelude.{ℕ, List, Option}
use Rattle.mbox_cutter.specs.declared.cutter.Cutter.TheInside.{Inside}
use Rattle.mbox_cutter.specs.Progress.{Progress}
use Rattle.mbox_cutter.specs.Inside.Scan.{IsScan, coming_events, place_of}

-- the state of a cutter
abbrev pub progress : {S : Type 0} → (S → Option (List ℕ)) → Inside S → Progress S
progress rest c = record {
  coming = coming_events rest c.scan;
  place = place_of c.scan;
  line = c.scan.reader.line;
  source =
      c.scan.reader.source;
}

-- what always holds of the fields
pub record IsCutter {S : Type 0} (rest : S → Option (List ℕ)) (c : Inside S) : Type 0 where
  pub scan : IsScan rest c.scan
