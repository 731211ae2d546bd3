-- `joined_len` takes the joiners off the end of a run byte by byte, because each joiner is a character of one byte.
use Rattle.mail_words.proofs.Imports.{◌∙◌, is_piece}
use Rattle.std.proofs.Common.{chars}
use Rattle.mail_words.proofs.JoinedEnds.{joined-bytes}
use Rattle.mail_words.proofs.Seams.{front_seam, seam_boundary, seam_front}
use Rattle.mail_words.proofs.runs.joined_len.Goals as goal

pub split_at-requires : goal.split_at-requires
split_at-requires c = seam_boundary _ _ _ _ (front_seam is_piece c.args.text.now c.utf8.text) c.front_len-run.ensures

pub returns : goal.returns
returns c =
    let run = seam_front _ _ _ _ _ (front_seam is_piece c.args.text.now c.utf8.text) c.front_len-run.ensures
    c.split_at.ensures.front in
    let told = c.len_before_joiners.ensures in
    joined-bytes (chars c.args.text.now) _ _ (c.as_bytes.ensures.value ∙ run) told.within told.joiners told.last
