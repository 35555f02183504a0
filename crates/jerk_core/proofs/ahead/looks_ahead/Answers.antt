-- A speed within the reach below the greatest one doesn't pass it by braking.
use Rattle.std.proofs.Common.{◌≤◌, ℕ, arith}
use Rattle.motion_numbers.specs.declared.TheConstants.{MOST_STEP}
use Rattle.jerk_core.proofs.KeptMotions.{tops_within}
use Rattle.jerk_core.proofs.ahead.looks_ahead.Goals as goal

-- what is at most a number is at most a greater one
within_most : (a b m : ℕ) → a ≤ b → b ≤ m → a ≤ m
within_most a b m h p = omega arith

pub rest_fits-requires-clause-tops : goal.rest_fits-requires-clause-tops
rest_fits-requires-clause-tops g c =
    within_most _ c.args.rates.now.v MOST_STEP
    (tops_within c.args.rates.now.v c.args.speed c.args.next c.args.rates.now.j (omega (arith, c.requires.rates.j_least)) c.requires.speed c.requires.tops)
    c.requires.rates.v_most
