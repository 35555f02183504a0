-- The lemmas on the steps of a blend.
use Rattle.blend_plan.proofs.SafeBlends.{safe-up, safe-down, safe-blend, taken-blend}
use Rattle.blend_plan.proofs.laws.blend_steps_are_safe.Goals as goal

pub returns-clause-upward : goal.returns-clause-upward
returns-clause-upward c = λ limits target1 target2 before now vb u first second limits_ok first_ok second_ok within kept may.
    safe-up c.safe_steps_lead_on.ensures limits target1 target2 before now first second vb u
    (record { limits_ok = limits_ok; first_ok = first_ok; second_ok = second_ok; within = within; kept = kept }) may

pub returns-clause-downward : goal.returns-clause-downward
returns-clause-downward c = λ limits target1 target2 before now vb u first second limits_ok first_ok second_ok within kept may.
    safe-down c.safe_steps_lead_on.ensures limits target1 target2 before now first second vb u
    (record { limits_ok = limits_ok; first_ok = first_ok; second_ok = second_ok; within = within; kept = kept }) may

pub returns-clause-safe : goal.returns-clause-safe
returns-clause-safe c = λ limits target1 target2 before now vb first second limits_ok first_ok second_ok within kept has.
    safe-blend c.searches_find_the_greatest.ensures c.steps_fall_toward_zero.ensures c.safe_steps_lead_on.ensures limits target1 target2 before now vb first second
    (record { limits_ok = limits_ok; first_ok = first_ok; second_ok = second_ok; within = within; kept = kept }) has

pub returns-clause-taken : goal.returns-clause-taken
returns-clause-taken c = λ limits target1 target2 before now vb first second limits_ok first_ok second_ok within kept has.
    taken-blend c.searches_find_the_greatest.ensures c.steps_fall_toward_zero.ensures c.safe_steps_lead_on.ensures limits target1 target2 before now vb first second
    (record { limits_ok = limits_ok; first_ok = first_ok; second_ok = second_ok; within = within; kept = kept }) has
