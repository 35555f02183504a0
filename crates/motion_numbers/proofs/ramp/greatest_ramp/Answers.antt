-- A step whose way fits is within the reach, and one whose way does not fit is beyond it.
use Rattle.std.proofs.Common.{◌<◌, ◌≤◌, inl, inr, arith}
use Rattle.std.proofs.lemmas.Bool.{cases_lt}
use Rattle.motion_numbers.specs.Run.{reach_of, run_of}
use Rattle.motion_numbers.proofs.Reaches.{reach_greatest, below_reach_of}
use Rattle.motion_numbers.proofs.ramp.greatest_ramp.Goals as goal

pub returns-then-way_fits : goal.returns-then-way_fits
returns-then-way_fits c =
    let within : c.args.most ≤ reach_of c.args.room c.args.d = reach_greatest _ _ _ (omega arith) (c.way_fits.ensures.0 c.if-way_fits.true) in
    record { value = omega arith }

pub returns-else-way_fits : goal.returns-else-way_fits
returns-else-way_fits c =
    let longer : c.args.room < run_of c.args.most c.args.d =
    elim (cases_lt c.args.room (run_of c.args.most c.args.d)) [
      | inl lt ↦ lt
      | inr le ↦ absurd (cc (c.if-way_fits.ensures.1 le))
    ] in
    let beyond : reach_of c.args.room c.args.d < c.args.most = below_reach_of _ _ _ (omega arith) longer in
    record { value = omega arith }
