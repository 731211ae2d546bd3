-- The lanes agree with the definition at each of the 256 bytes, by computation.
use Rattle.mail_words.proofs.Imports.{ℕ, leb, cond, bit_and, refl, arith, zip2_splat, zip2_of_maps, splat_is_map, ucd_category, ucd_derived, is_word_character, is_no_ascii_word}
use Rattle.mail_words.proofs.LaneRuns.{lanes_mask}
use Rattle.mail_words.proofs.lanes.others_in.Goals as goal

pub returns : goal.returns
unfolding ucd_derived ucd_category is_word_character
returns c =
    let v = c.args.lanes in
    let long = c.fits-lanes.0 in
    lanes_mask is_no_ascii_word _ v _ (omega (arith, long)) c.fits-lanes.1
    (zip2_of_maps bit_and _ _ v
    (zip2_of_maps (λ a b. cond (leb a b) 255 0) _ _ v (splat_is_map v 16 _ long)
    (zip2_of_maps _ _ _ v (zip2_splat {Y = ℕ} _ v 16 _ long) (splat_is_map v 16 _ long)))
    (zip2_of_maps (λ a b. cond (leb a b) 255 0) _ _ v (splat_is_map v 16 _ long) (zip2_splat {Y = ℕ} _ v 16 _ long)))
    refl
