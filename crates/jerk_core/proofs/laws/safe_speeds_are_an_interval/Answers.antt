-- The lemmas on safe speeds, for rates in their ranges.
use Rattle.std.proofs.Common.{◌<◌, arith}
use Rattle.jerk_core.specs.declared.rates.JerkRates.{JerkRates}
use Rattle.jerk_core.specs.Rates.{AreJerkRates}
use Rattle.jerk_core.proofs.KeptMotions.{braked_safe, safe_least, safe_between}
use Rattle.jerk_core.proofs.laws.safe_speeds_are_an_interval.Goals as goal

slows : (rates : JerkRates) → AreJerkRates rates → 0 < rates.d
slows rates ok = omega (arith, ok.d_least)

some : (rates : JerkRates) → AreJerkRates rates → 0 < rates.j
some rates ok = omega (arith, ok.j_least)

pub returns : goal.returns
returns c = record {
  braking = λ rates room w v ok kept. braked_safe rates.v rates.a rates.d rates.j room w v (slows rates ok) (some rates ok) kept;
  least = λ rates room w v x ok safe. safe_least rates.v rates.a rates.d rates.j room w v x (some rates ok) safe;
  between = λ rates room w v x y ok kept above below safe.
      safe_between rates.v rates.a rates.d rates.j room w v x y (slows rates ok) (some rates ok) kept above below safe;
}
