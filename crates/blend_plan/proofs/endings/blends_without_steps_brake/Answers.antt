-- The lemma on a cycle of a blend.
use Rattle.blend_plan.proofs.BlendSettles.{has-or-brakes}
use Rattle.blend_plan.proofs.endings.blends_without_steps_brake.Goals as goal

pub returns : goal.returns
returns c = λ limits target1 target2 before now vb first second limits_ok first_ok second_ok within kept applies.
    has-or-brakes c.ways_to_rest.ensures c.searches_find_the_greatest.ensures c.steps_fall_toward_zero.ensures c.safe_steps_lead_on.ensures limits target1 target2 before now first second vb
    (record { limits_ok = limits_ok; first_ok = first_ok; second_ok = second_ok; within = within; kept = kept }) applies
