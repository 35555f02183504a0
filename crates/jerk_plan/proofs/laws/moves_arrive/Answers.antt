-- The lemmas on moves.
use Rattle.std.proofs.Common.{◌+◌, arith}
use Rattle.jerk_plan.proofs.Units.{units_arrive, arrives_by_units}
use Rattle.jerk_plan.proofs.Arrivals.{arrives_from_rest, arrives_by_rates}
use Rattle.jerk_plan.proofs.laws.moves_arrive.Goals as goal

pub returns : goal.returns
returns c = record {
  from_rest = arrives_from_rest;
  by_rates = arrives_by_rates;
  by_way = λ rates way w v ok kept. units_arrive rates way w v (way + 4) ok (omega arith);
  by_units = λ rates way w v ok kept. arrives_by_units rates way w v ok;
}
