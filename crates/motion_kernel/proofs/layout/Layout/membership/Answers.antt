-- The group of an axis is there.
use Rattle.motion_kernel.proofs.members.Laid.{group_there}
use Rattle.motion_kernel.proofs.layout.Layout.membership.Goals as goal

pub returns-clause-there : goal.returns-clause-there
returns-clause-there c = group_there c.args.self.now c.args.axis c.found.result c.found.ensures
