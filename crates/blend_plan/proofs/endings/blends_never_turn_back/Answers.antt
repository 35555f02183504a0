-- The lemmas on the taken step of a blend.
use Rattle.blend_plan.proofs.BlendSettles.{not-back-up, not-back-down}
use Rattle.blend_plan.proofs.endings.blends_never_turn_back.Goals as goal

pub returns-clause-upward : goal.returns-clause-upward
returns-clause-upward c = λ limits target1 target2 before now vb first second limits_ok first_ok second_ok within kept ahead.
    not-back-up c.ways_to_rest.ensures c.searches_find_the_greatest.ensures c.steps_fall_toward_zero.ensures c.safe_steps_lead_on.ensures limits target1 target2 before now first second vb
    (record { limits_ok = limits_ok; first_ok = first_ok; second_ok = second_ok; within = within; kept = kept }) ahead

pub returns-clause-downward : goal.returns-clause-downward
returns-clause-downward c = λ limits target1 target2 before now vb first second limits_ok first_ok second_ok within kept ahead.
    not-back-down c.ways_to_rest.ensures c.searches_find_the_greatest.ensures c.steps_fall_toward_zero.ensures c.safe_steps_lead_on.ensures limits target1 target2 before now first second vb
    (record { limits_ok = limits_ok; first_ok = first_ok; second_ok = second_ok; within = within; kept = kept }) ahead
