-- A stopped kernel is kept as it was.
use Rattle.motion_kernel.proofs.kernel.Kernel.stop.Goals as goal

pub invariant_of-self : goal.invariant_of-self
invariant_of-self c = record { opened = c.self.invariant.opened; tasks = c.self.invariant.tasks }
