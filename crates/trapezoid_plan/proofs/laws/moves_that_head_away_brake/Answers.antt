-- The lemma on moves that head away.
use Rattle.std.proofs.Common.{arith}
use Rattle.std.proofs.lemmas.Int.{ints}
use Rattle.trapezoid_plan.proofs.Headings.{away-brakes}
use Rattle.trapezoid_plan.proofs.laws.moves_that_head_away_brake.Goals as goal

pub returns-clause-slower : goal.returns-clause-slower
returns-clause-slower c = λ limits rates target before now limits_ok rates_ok within kept away.
    (away-brakes c.safe_steps_lead_on.ensures limits rates target before now
    (record { limits_ok = limits_ok; rates_ok = rates_ok; within = within; kept = kept }) away).slower

pub returns-clause-forward : goal.returns-clause-forward
returns-clause-forward c = λ limits rates target before now limits_ok rates_ok within kept away up.
    (away-brakes c.safe_steps_lead_on.ensures limits rates target before now
    (record { limits_ok = limits_ok; rates_ok = rates_ok; within = within; kept = kept }) away).forward (omega (arith, ints))

pub returns-clause-backward : goal.returns-clause-backward
returns-clause-backward c = λ limits rates target before now limits_ok rates_ok within kept away down.
    (away-brakes c.safe_steps_lead_on.ensures limits rates target before now
    (record { limits_ok = limits_ok; rates_ok = rates_ok; within = within; kept = kept }) away).backward (omega (arith, ints))
