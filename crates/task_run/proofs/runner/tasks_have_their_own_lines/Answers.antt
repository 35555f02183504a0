-- Each task's lines are its own.
use Rattle.task_run.proofs.OwnLines.{tasks-own}
use Rattle.task_run.proofs.runner.tasks_have_their_own_lines.Goals as goal

pub returns : goal.returns
returns c = λ s program task is within. tasks-own s program task is.tasks within
