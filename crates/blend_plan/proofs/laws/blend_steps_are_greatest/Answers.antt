-- The lemma on the blend step.
use Rattle.blend_plan.proofs.BlendSteps.{is-blend-step}
use Rattle.blend_plan.proofs.laws.blend_steps_are_greatest.Goals as goal

pub returns : goal.returns
returns c = λ l1 l2 old vb first second first_ok second_ok first_target second_target forward velocity.
    is-blend-step c.searches_find_the_greatest.ensures c.steps_fall_toward_zero.ensures l1 l2 old first second vb (record {
      first_rates = first_ok;
      second_rates = second_ok;
      first_target = first_target;
      second_target = second_target;
      forward = forward;
      velocity = velocity;
    })
