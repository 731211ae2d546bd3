-- `after` returns what follows a front, because what std strips is the front of the definition.
use Rattle.std.proofs.Common.{arith}
use Rattle.mime_text.proofs.FrameLemmas.{after-stripped}
use Rattle.mime_text.proofs.parts.delimiter.after.Goals as goal

pub returns : goal.returns
returns c = grind (arith, after-stripped)
