-- By what an axis moves.
use Rattle.axis_core.proofs.LedLaws.{commands-led, cycles-led, detached-led, opened-led, paths-led, powers-led}
use Rattle.axis_core.proofs.laws.moving_axes_have_commands.Goals as goal

pub returns : goal.returns
returns c = record { opened = opened-led; command = commands-led; power = powers-led; detach = detached-led; path = paths-led; cycle = cycles-led }
