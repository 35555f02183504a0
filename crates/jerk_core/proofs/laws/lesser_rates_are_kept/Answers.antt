-- The lemmas on lesser rates.
use Rattle.std.proofs.Common.{arith}
use Rattle.jerk_core.proofs.KeptMotions.{kept_by_more, safe_by_more}
use Rattle.jerk_core.proofs.laws.lesser_rates_are_kept.Goals as goal

pub returns : goal.returns
returns c = record {
  kept = λ own rates way room w v ok within less kept.
      kept_by_more own.v own.a own.d own.j way rates.v rates.a rates.d rates.j room w v (omega (arith, ok.d_least)) (omega (arith, ok.j_least))
      within.v within.a within.d within.j less kept;
  safe = λ own rates way room w v x ok within less safe.
      safe_by_more own.v own.a own.d own.j way rates.v rates.a rates.d rates.j room w v x (omega (arith, ok.d_least)) (omega (arith, ok.j_least))
      within.v within.a within.d within.j less safe;
}
