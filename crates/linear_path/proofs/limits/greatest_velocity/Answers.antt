-- A velocity is kept where the way's share of it fits.
use Rattle.std.proofs.Common.{arith}
use Rattle.linear_path.proofs.ShareLaws.{rate_of_rest, rate_of_velocity, velocity_at_rest}
use Rattle.linear_path.proofs.limits.greatest_velocity.Goals as goal

pub returns-then-way-eq0 : goal.returns-then-way-eq0
returns-then-way-eq0 c =
    rate_of_rest _ (λ w. velocity_at_rest c.args.way c.args.length c.args.vmax w
    (omega arith) c.requires.some)

pub returns : goal.returns
returns c =
    rate_of_velocity c.args.way c.args.length c.args.vmax c.greatest_rate.result
    (omega arith) c.requires.some c.greatest_rate.ensures.value
