-- `WaitingLines::wait` appends the words of the line, because no word goes on over the line break before it.
use Rattle.index_job.proofs.JoinedLines.{waits}
use Rattle.index_job.proofs.waiting_lines.WaitingLines.wait.Goals as goal

pub returns : goal.returns
returns c = waits _ c.self.inside.text c.push.new.self c.push_str.new.self _ _ c.self.view_is c.utf8.line
    c.in_ok-push.ensures.bytes c.push_str.ensures.bytes
