-- The speed of the way and of the last two steps.
use Rattle.std.proofs.Common.{arith}
use Rattle.std.proofs.lemmas.Int.{ints}
use Rattle.otg.specs.Open.{rates_of_command}
use Rattle.otg.proofs.OwnMoves.{same_own}
use Rattle.otg.proofs.own.speed_of_move.Goals as goal

pub returns-clause-found : goal.returns-clause-found
returns-clause-found g c = λ x is.
    same_own c.own_rates.result (rates_of_command c.args.otg.now) c.abs_diff.result c.abs_diff-2.result c.abs_diff-3.result _ _ _ x
    c.own_rates.ensures (omega (arith, ints, c.abs_diff.ensures)) (omega (arith, ints, c.abs_diff-2.ensures)) (omega (arith, ints, c.abs_diff-3.ensures))
    (c.own_speed.ensures.found x is)
