-- After a line that makes calls it is passed.
use Rattle.task_run.proofs.Places.{moved}
use Rattle.task_run.proofs.place.moved.Goals as goal

pub returns-clause-moves : goal.returns-clause-moves
returns-clause-moves c = λ p t l s. c.settled.ensures.moves _ _ (moved c.args.lines.now c.args.place c.requires.settled p t l s)

pub settled-requires-clause-place : goal.settled-requires-clause-place
settled-requires-clause-place c =
    let (p, l, t, s) = c.requires.place in
    record { passed = _; to_come = t; stands = moved c.args.lines.now c.args.place c.requires.settled p t l s }
