-- The square of the step and the fall together is at least twice the fall times the way.
use Rattle.std.proofs.Common.{arith}
use Rattle.std.proofs.lemmas.Bool.{leb-true}
use Rattle.motion_numbers.proofs.Runs.{run_fits}
use Rattle.trapezoid_plan.proofs.moves.surely_fits.Goals as goal

pub returns : goal.returns
returns c = λ fits.
    run_fits c.args.step c.args.d c.args.way (omega arith) (omega (arith, leb-true _ _ fits))
