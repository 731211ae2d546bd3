-- `run_at` counts the bits before the first one that is set, because a bit is set if its byte is no word character.
use lib.Lanes.{chunk}
use Rattle.mail_words.proofs.Imports.{◌∙◌, arith, length-chunk, first_set_mask_l, is_ascii_word, is_no_ascii_word}
use Rattle.mail_words.proofs.LaneRuns.{run_of_not}
use Rattle.mail_words.proofs.lanes.run_at.Goals as goal

pub returns : goal.returns
returns c =
    let load = chunk c.args.at 16 c.args.bytes.now in
    cc (
      c.first_set.ensures,
      c.others_in.ensures,
      first_set_mask_l is_no_ascii_word load 16 (length-chunk c.args.at 16 c.args.bytes.now c.requires) (omega arith),
      run_of_not is_ascii_word load,
    )
