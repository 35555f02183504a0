-- The lemmas on velocities.
use Rattle.std.proofs.Common.{◌-◌, arith}
use Rattle.jerk_plan.proofs.Velocities.{velocity_reached, velocity_within}
use Rattle.jerk_plan.proofs.Differences.{velocity_by_rates, velocity_stays_above}
use Rattle.jerk_plan.proofs.laws.velocities_are_reached.Goals as goal

pub returns : goal.returns
returns c = record {
  by_rates = velocity_by_rates;
  reached = λ rates wanted w v ok grows tops. velocity_reached (wanted - v) rates wanted w v ok grows tops (omega arith);
  within = velocity_within;
  above = velocity_stays_above;
}
