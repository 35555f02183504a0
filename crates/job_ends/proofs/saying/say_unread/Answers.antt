-- Why a file wasn't read was said, or there was no memory for the line.
use Rattle.job_ends.proofs.PlanLaws.{said, too-long-said, unread-said}
use Rattle.job_ends.proofs.saying.say_unread.Goals as goal

pub returns-in-Failed : goal.returns-in-Failed
returns-in-Failed g c =
    unread-said _ _ _ _ _ _ c.in-Failed.is
    (said _ _ _ _ _ _ c.named_line.ensures c.say.ensures)

pub returns-in-TooLong : goal.returns-in-TooLong
returns-in-TooLong g c =
    too-long-said _ _ _ _ _ _ c.in-TooLong.is
    (said _ _ _ _ _ _ c.named_line-in-TooLong.ensures c.say-in-TooLong.ensures)
