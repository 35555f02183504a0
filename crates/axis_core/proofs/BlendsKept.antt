-- After a taken step a move, and two moves, are under way as before.
-- for: second_targets_are_never_passed
use Rattle.std.proofs.Common.{ℤ, ◌+ℤ◌}
use Rattle.plc_types.specs.declared.limits.Limits.{Limits}
use Rattle.kin_core.specs.Laws.{AreTakenSteps}
use Rattle.command_pool.specs.declared.rates.Rates.{Rates}
use Rattle.trapezoid_plan.specs.MoveRun.{move_taken_of}
use Rattle.blend_plan.specs.BlendRun.{blend_taken_of}
use Rattle.axis_core.specs.BlendGiven.{IsUnderWay, AreUnderWay}

module _ (taken : AreTakenSteps) where
  pub move-kept : (limits : Limits) (rates : Rates) (target before now : ℤ) → IsUnderWay limits rates target before now →
      IsUnderWay limits rates target now (now +ℤ move_taken_of limits rates target before now)
  unfolding move_taken_of
  move-kept limits rates target before now goes = record {
    limits_ok = goes.limits_ok;
    rates_ok = goes.rates_ok;
    within = goes.within;
    kept = taken.kept limits before now _ goes.limits_ok goes.kept;
  }

  pub blend-kept : (limits : Limits) (target1 target2 before now : ℤ) (first second : Rates) (vb : ℤ) →
      AreUnderWay limits target1 target2 before now first second vb →
      AreUnderWay limits target1 target2 now (now +ℤ blend_taken_of limits target1 target2 before now first second vb) first second vb
  unfolding blend_taken_of
  blend-kept limits target1 target2 before now first second vb go = record {
    limits_ok = go.limits_ok;
    first_ok = go.first_ok;
    second_ok = go.second_ok;
    within = go.within;
    kept = taken.kept limits before now _ go.limits_ok go.kept;
    room = go.room;
  }
