use Rattle.axis_core.proofs.KeptCalls.{stays-commanded, stays-powered, stays-detached, stays-on_path}
use Rattle.axis_core.proofs.laws.calls_move_no_axis.Goals as goal

pub returns : goal.returns
returns c = record { command = stays-commanded; power = stays-powered; detach = stays-detached; path = stays-on_path }
