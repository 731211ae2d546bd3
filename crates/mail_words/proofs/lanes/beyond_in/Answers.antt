-- The lanes agree with the definition at each of the 256 bytes, by computation.
use Rattle.std.proofs.lemmas.Simd.{zip2_splat_left}
use Rattle.mail_words.proofs.Imports.{leb, cond, refl, arith, is_beyond_ascii}
use Rattle.mail_words.proofs.LaneRuns.{lanes_mask}
use Rattle.mail_words.proofs.lanes.beyond_in.Goals as goal

pub returns : goal.returns
returns c =
    let v = c.args.lanes in
    let long = c.fits-lanes.0 in
    lanes_mask is_beyond_ascii (λ b. cond (leb 128 b) 255 0) v _ (omega (arith, long)) c.fits-lanes.1
    (zip2_splat_left (λ a b. cond (leb a b) 255 0) 128 16 v long) refl
