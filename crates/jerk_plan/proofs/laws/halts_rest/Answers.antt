-- The lemmas on halts.
use Rattle.std.proofs.Common.{◌+◌, ◌-◌, ◌*◌, arith}
use Rattle.jerk_plan.proofs.Halts.{slowed_brakes, halted_rests, halts_by_rates}
use Rattle.jerk_plan.proofs.laws.halts_rest.Goals as goal

pub returns : goal.returns
returns c = record {
  brakes = slowed_brakes;
  rests = λ rates room w v ok kept. halted_rests (v + (v - w) * (v - w)) rates room w v ok kept (omega arith);
  by_rates = halts_by_rates;
}
