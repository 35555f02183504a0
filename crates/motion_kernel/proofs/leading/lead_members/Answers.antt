-- The machine has its parts still.
use Rattle.std.proofs.Common.{true, false}
use Rattle.motion_kernel.specs.Seen.{machine_of}
use Rattle.motion_kernel.proofs.Sizes.{sized_led}
use Rattle.motion_kernel.proofs.leading.lead_members.Goals as goal

pub returns-then-enters_path-clause-sized : goal.returns-then-enters_path-clause-sized
returns-then-enters_path-clause-sized c =
    rw c.lead_all_on.ensures (sized_led c.args.layout.now true c.members_of-members.result.now (machine_of c.args.parts.now) c.requires.sized)

pub returns-then-leaves_path-clause-sized : goal.returns-then-leaves_path-clause-sized
returns-then-leaves_path-clause-sized c =
    rw c.lead_all_off.ensures (sized_led c.args.layout.now false c.members_of-members.result.now (machine_of c.args.parts.now) c.requires.sized)
