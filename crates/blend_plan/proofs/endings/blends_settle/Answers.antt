-- The lemma on cycles without a step.
use Rattle.blend_plan.proofs.BlendSettles.{settles-in-time}
use Rattle.blend_plan.proofs.endings.blends_settle.Goals as goal

pub returns : goal.returns
returns c = λ limits target1 target2 before now vb first second limits_ok first_ok second_ok within kept.
    settles-in-time c.ways_to_rest.ensures c.searches_find_the_greatest.ensures c.steps_fall_toward_zero.ensures c.safe_steps_lead_on.ensures limits target1 target2 before now first second vb
    (record { limits_ok = limits_ok; first_ok = first_ok; second_ok = second_ok; within = within; kept = kept })
