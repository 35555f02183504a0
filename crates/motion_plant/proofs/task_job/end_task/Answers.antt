-- The end of a task is made in a turn, or the kernel is full.
use Rattle.motion_plant.proofs.TurnLaws.{end_full, end_made, full_cut}
use Rattle.motion_plant.proofs.task_job.end_task.Goals as goal

pub returns-in-Made-clause-owns : goal.returns-in-Made-clause-owns
returns-in-Made-clause-owns g c =
    (end_made _ _ _ _ _ _ _ c.requires.owns c.turn_end-answer.ensures.answer c.in-Made.is).1

pub returns-in-Made-clause-ended : goal.returns-in-Made-clause-ended
returns-in-Made-clause-ended g c = λ e.
    let r = end_made _ _ _ _ _ _ _ c.requires.owns c.turn_end-answer.ensures.answer c.in-Made.is in
    (r.0, r.2.made)

pub returns-in-Full-clause-owns : goal.returns-in-Full-clause-owns
returns-in-Full-clause-owns g c =
    (end_full _ _ _ _ _ _ c.requires.owns c.turn_end-answer.ensures.answer c.in-Full.is).0

pub returns-in-Full-clause-refused : goal.returns-in-Full-clause-refused
returns-in-Full-clause-refused g c =
    λ e. (end_full _ _ _ _ _ _ c.requires.owns c.turn_end-answer.ensures.answer c.in-Full.is).1.made

pub returns-in-Full-clause-cut : goal.returns-in-Full-clause-cut
returns-in-Full-clause-cut g c = λ e.
    let a = c.turn_end-answer.ensures.answer in
    full_cut _ _ a.0 a.1 _ _ _ _ a.2 c.turn_end-answer.ensures.full c.in-Full.is
