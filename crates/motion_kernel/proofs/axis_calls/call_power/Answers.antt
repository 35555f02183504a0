-- The machine has its parts still.
use Rattle.axis_core.specs.Calls.{core_after_power}
use Rattle.motion_kernel.specs.Machine.{axis_core_at}
use Rattle.motion_kernel.specs.Seen.{machine_of}
use Rattle.motion_kernel.proofs.Sizes.{sized_axis}
use Rattle.motion_kernel.proofs.axis_calls.call_power.Goals as goal

pub power_off-requires-clause-sized : goal.power_off-requires-clause-sized
power_off-requires-clause-sized c =
    let m = machine_of c.args.parts.now in
    rw c.power_axis.ensures.after (sized_axis c.args.layout.now m c.args.axis (core_after_power c.args.enable (axis_core_at m c.args.axis)) c.requires.sized)
