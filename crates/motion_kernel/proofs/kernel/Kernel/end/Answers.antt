-- The end of a task is one more entry, and the mark of the task.
use Rattle.std.proofs.Common.{sym, arith, subst, length, ◌<◌}
use Rattle.motion_history.specs.Entries.{end_of}
use Rattle.motion_kernel.specs.KernelState.{KernelState}
use Rattle.motion_kernel.proofs.kept.Kernel.{kernel_next}
use Rattle.motion_kernel.proofs.Marked.{marked_ended}
use Rattle.motion_kernel.proofs.kernel.Kernel.end.Goals as goal

pub invariant_of-self : goal.invariant_of-self
invariant_of-self c =
    let k = c.self.inside in
    let task = subst (λ (x : KernelState). c.args.task < length x.config.tasks) (sym c.self.view_is) c.requires.task in
    let few : c.args.task < 8 = let f = c.self.invariant.tasks.few in omega (arith, f, task) in
    kernel_next k (record k { segmented = c.end.new.self; tasks = c.end-2.new.self }) (end_of c.args.task) c.self.invariant c.end.ensures
    (marked_ended k.segmented.config k.segmented.history k.tasks.marks c.end-2.new.self.marks c.args.task c.self.invariant.tasks few c.end-2.ensures)
