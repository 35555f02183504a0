-- The lemmas on runs and reaches.
use Rattle.std.proofs.Common.{arith}
use Rattle.std.proofs.lemmas.Int.{ints, clamps}
use Rattle.motion_numbers.proofs.Runs.{cut_is, run_zero, run_unfold, run_ge, run_small, run_mono, run_less, run_anti}
use Rattle.motion_numbers.proofs.Reaches.{reach_fits, fits_below_reach, reach_greatest, below_reach_of, reach_is}
use Rattle.motion_numbers.proofs.laws.ways_to_rest.Goals as goal

pub returns : goal.returns
returns c = record {
  cut = λ z. omega (arith, ints, clamps, cut_is z);
  run_zero = run_zero;
  run_unfold = run_unfold;
  run_ge = run_ge;
  run_small = run_small;
  run_mono = run_mono;
  run_less = run_less;
  run_anti = run_anti;
  reach_fits = reach_fits;
  fits_below_reach = fits_below_reach;
  reach_greatest = reach_greatest;
  below_reach_of = below_reach_of;
  reach_is = reach_is;
}
