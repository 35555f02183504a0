-- How a kernel is kept: one whose history is in segments, of which it never gives the first one
-- out.
use Rattle.std.specs.Prelude.{◌≡◌}
use Rattle.motion_kernel.specs.KernelState.{KernelState}
use Rattle.motion_kernel.specs.Machine.{machine_at_opening}
use Rattle.motion_kernel.specs.Marked.{AreMarked}
use Rattle.motion_kernel.specs.declared.kernel.Kernel.TheInside.{Inside}

-- what contracts see of a kernel that is kept so
abbrev pub told_of : Inside → KernelState
told_of k = record {
  config = k.segmented.config;
  history = k.segmented.history;
  stopped = k.stopped;
}

-- its segment begins at opening, and the marks are those of its tasks
pub record IsKernelKept (k : Inside) : Type 0 where
  pub opened : k.segmented.start ≡ machine_at_opening k.segmented.config
  pub tasks : AreMarked k.segmented.config k.segmented.history k.tasks.marks
