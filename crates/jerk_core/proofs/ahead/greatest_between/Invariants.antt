-- One speed leaves a kept motion, and a greater one doesn't.
use Rattle.std.proofs.Common.{◌<◌, ◌≤◌, ◌-◌}
use Rattle.jerk_core.specs.Rates.{IsLeftBy}
use Rattle.jerk_core.proofs.Searching.{Spent}
use Rattle.jerk_core.proofs.ahead.greatest_between.Given as goal

abbrev pub invariant-loop-fails : goal.invariant-loop-fails
invariant-loop-fails g l = record {
  order : l.fits < l.fails;
  above : l.least ≤ l.fits;
  within : l.fails ≤ l.most;
  fitting : IsLeftBy l.rates l.room l.speed l.fits;
  spent : Spent (l.fits - l.least) (l.fails - l.fits) l.looks l.fn.looks;
  failing : IsLeftBy l.rates l.room l.speed l.fails → ⊥;
}

abbrev pub decreases-loop-fails : goal.decreases-loop-fails
decreases-loop-fails g l = l.fails - l.fits
