-- The lemmas on the taken step of a move.
use Rattle.trapezoid_plan.proofs.TakenMoves.{safe-up, safe-down, safe-move, taken-move}
use Rattle.trapezoid_plan.proofs.laws.move_steps_are_safe.Goals as goal

pub returns-clause-upward : goal.returns-clause-upward
returns-clause-upward c = λ limits rates target before now u limits_ok rates_ok within kept may.
    safe-up c.safe_steps_lead_on.ensures limits rates target before now u
    (record { limits_ok = limits_ok; rates_ok = rates_ok; within = within; kept = kept }) may

pub returns-clause-downward : goal.returns-clause-downward
returns-clause-downward c = λ limits rates target before now u limits_ok rates_ok within kept may.
    safe-down c.safe_steps_lead_on.ensures limits rates target before now u
    (record { limits_ok = limits_ok; rates_ok = rates_ok; within = within; kept = kept }) may

pub returns-clause-safe : goal.returns-clause-safe
returns-clause-safe c = λ limits rates target before now limits_ok rates_ok within kept has.
    safe-move c.ways_to_rest.ensures c.searches_find_the_greatest.ensures c.safe_steps_lead_on.ensures limits rates target before now
    (record { limits_ok = limits_ok; rates_ok = rates_ok; within = within; kept = kept }) has

pub returns-clause-taken : goal.returns-clause-taken
returns-clause-taken c = λ limits rates target before now limits_ok rates_ok within kept has.
    taken-move c.ways_to_rest.ensures c.searches_find_the_greatest.ensures c.safe_steps_lead_on.ensures limits rates target before now
    (record { limits_ok = limits_ok; rates_ok = rates_ok; within = within; kept = kept }) has
