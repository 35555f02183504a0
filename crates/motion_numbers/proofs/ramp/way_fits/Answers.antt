-- A step of at most the fall is the whole way; for a longer one the square gives, or the sum.
use Rattle.std.proofs.Common.{arith}
use Rattle.std.proofs.lemmas.Bool.{leb-true, le-leb}
use Rattle.motion_numbers.proofs.Runs.{run_fits, run_small}
use Rattle.motion_numbers.proofs.ramp.way_fits.Goals as goal

pub returns-then-u-d : goal.returns-then-u-d
returns-then-u-d c =
    let whole = run_small c.args.u c.args.d (omega arith) c.if-u-d.true in
    (λ fits. omega (arith, whole, leb-true _ _ fits), λ fits. le-leb _ _ (omega (arith, whole)))

pub returns-then-whole-d : goal.returns-then-whole-d
returns-then-whole-d c =
    let whole = run_fits c.args.u c.args.d c.args.room (omega arith) (omega (arith, c.if-whole-d.true)) in
    (λ _. whole, λ _. le-leb _ _ (omega (arith, c.if-whole-d.true)))
