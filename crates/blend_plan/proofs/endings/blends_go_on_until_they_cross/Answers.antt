-- The lemmas on blends that go on.
use Rattle.std.proofs.Common.{◌≡◌, suc, ◌+◌, ◌-ℤ◌, unsigned_abs, arith}
use Rattle.blend_plan.proofs.BlendCycles.{next-blend, crosses-in}
use Rattle.blend_plan.proofs.endings.blends_go_on_until_they_cross.Goals as goal

pub returns-clause-persists : goal.returns-clause-persists
returns-clause-persists c = λ limits target1 target2 before now vb first second limits_ok first_ok second_ok within kept has goes.
    (next-blend c.ways_to_rest.ensures c.searches_find_the_greatest.ensures c.sums_of_ramps.ensures c.steps_fall_toward_zero.ensures c.safe_steps_lead_on.ensures limits target1 target2 before now vb first second
    (record { limits_ok = limits_ok; first_ok = first_ok; second_ok = second_ok; within = within; kept = kept }) has goes).has

pub returns-clause-crosses : goal.returns-clause-crosses
returns-clause-crosses c = λ limits target1 target2 before now vb first second limits_ok first_ok second_ok within kept has.
    let next : unsigned_abs (target1 -ℤ now) + 1 ≡ suc (unsigned_abs (target1 -ℤ now)) = omega arith in
    rw next (crosses-in c.ways_to_rest.ensures c.searches_find_the_greatest.ensures c.sums_of_ramps.ensures c.steps_fall_toward_zero.ensures c.safe_steps_lead_on.ensures (unsigned_abs (target1 -ℤ now)) limits target1 target2 before now vb first second
    (record { limits_ok = limits_ok; first_ok = first_ok; second_ok = second_ok; within = within; kept = kept }) has (omega arith))
