-- The first file configures a machine before version 3, or gives none.
use Rattle.std.proofs.Common.{ap, arith}
use Rattle.st_job.proofs.MachineLaws.{later, none, taken}
use Rattle.st_job.proofs.machine.read_st_machine.Goals as goal

pub returns-then-number-lt3-clause-machine : goal.returns-then-number-lt3-clause-machine
returns-then-number-lt3-clause-machine g c =
    let is = c.number.ensures in
    let before = c.if-number-lt3.true in
    taken _ _ _ c.in-Ok.ensures.machine (omega (arith, is, before))

pub returns-else-number-lt3-clause-none : goal.returns-else-number-lt3-clause-none
returns-else-number-lt3-clause-none g c =
    let is = c.number.ensures in
    let other = c.if-number-lt3.false in
    later _ _ _ _ _ _ _ _ c.in-Ok.ensures.machine (omega (arith, is, other))
    (ap (λ o. record { count = g.K.Sink.count o; told = g.K.Sink.told o }) c.in-Ok.ensures.silent)
    c.say_refused.ensures

pub returns-in-Err-clause-none : goal.returns-in-Err-clause-none
returns-in-Err-clause-none g c = none _ _ _ _ _ _ c.in-Err.ensures.none
