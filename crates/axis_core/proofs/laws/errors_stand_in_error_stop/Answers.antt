-- What opening, calls and cycles keep of what an axis shows.
use Rattle.axis_core.proofs.ShownKept.{opened-shown, commanded-shown, powered-shown, detached-shown, on_path-shown, cycled-shown}
use Rattle.axis_core.proofs.laws.errors_stand_in_error_stop.Goals as goal

pub returns : goal.returns
returns c = record { opened = opened-shown; command = commanded-shown; power = powered-shown; detach = detached-shown; path = on_path-shown; cycle = cycled-shown }
