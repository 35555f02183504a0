-- What is known of the two steps between which the search goes on.
use Rattle.std.proofs.Common.{◌<◌, ◌≤◌, ◌-◌}
use Rattle.motion_numbers.specs.Run.{run_of}
use Rattle.motion_numbers.proofs.ramp.greatest_ramp_below.Given as goal

abbrev pub invariant-loop-fails : goal.invariant-loop-fails
invariant-loop-fails l = record {
  order : l.fits < l.fails;
  within : l.fails ≤ l.over;
  fitting : run_of l.fits l.d ≤ l.room;
  failing : l.room < run_of l.fails l.d;
}

abbrev pub decreases-loop-fails : goal.decreases-loop-fails
decreases-loop-fails l = l.fails - l.fits
