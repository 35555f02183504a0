-- A step of zero fits any room, and the found step is the last that fits.
use Rattle.std.proofs.Common.{◌≡◌, suc, sym, arith}
use Rattle.motion_numbers.proofs.Runs.{run_zero}
use Rattle.motion_numbers.proofs.Reaches.{reach_is, over_some}
use Rattle.motion_numbers.proofs.ramp.greatest_ramp_below.Goals as goal

pub loop-fails-init : goal.loop-fails-init
loop-fails-init c = record {
  order = over_some _ _ _ c.requires.too_long;
  within = omega arith;
  fitting = rw run_zero (omega arith);
  failing = c.requires.too_long;
}

pub returns : goal.returns
returns c =
    let next : c.loop-fails.fails ≡ suc c.loop-fails.fits = omega arith in
    record { value = sym (reach_is c.loop-fails.fits c.args.room c.args.d (omega arith) c.loop-fails.invariant.fitting (rw (← next) c.loop-fails.invariant.failing)) }
