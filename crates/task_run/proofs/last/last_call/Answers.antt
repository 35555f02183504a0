-- Outside repeats it is the last call in the lines before.
use Rattle.std.proofs.Common.{◌∙◌}
use Rattle.task_run.proofs.LastCalls.{last-outside}
use Rattle.task_run.proofs.Settled.{outside-none}
use Rattle.task_run.proofs.last.last_call.Goals as goal

pub returns-in-None : goal.returns-in-None
returns-in-None c = λ p t s.
    c.last_in.ensures ∙ last-outside c.args.block c.args.lines.now c.args.place.line p t c.requires.task (outside-none c.args.lines.now c.args.place.line c.args.place.pass c.in-None.is p t s)
