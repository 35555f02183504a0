-- At the end of a repeat a place goes back to its first line, or after it.
use Rattle.task_run.proofs.Places.{no-again}
use Rattle.task_run.proofs.Settled.{inside-of, outside-of}
use Rattle.task_run.proofs.place.again.Goals as goal

pub returns-in_default-clause-none : goal.returns-in_default-clause-none
returns-in_default-clause-none c = λ p t s.
    no-again c.args.lines.now c.args.place.line p t c.requires.task c.requires.line (outside-of c.args.lines.now c.args.place.line c.args.place.pass c.in_default.not-Some p t s)

pub returns-clause-settled : goal.returns-clause-settled
returns-clause-settled c =
    c.is_run_again.ensures.settled c.if-not-is_run_again.false _ _
    (inside-of c.args.lines.now c.args.place.line c.args.place.pass c.in-Some.pass c.in-Some.is _ _ c.requires.place.stands)
