use Rattle.std.proofs.Common.{◌≡◌, take}
use Rattle.motion_kernel.specs.kept.Machine.{IsSized}
use Rattle.motion_kernel.specs.Seen.{machine_of}
use Rattle.motion_kernel.proofs.cycles.Polled.{told_by}
use Rattle.motion_kernel.proofs.showing.tell_all_found.Given as goal

abbrev pub invariant-loop-instance : goal.invariant-loop-instance
invariant-loop-instance l = record {
  told : machine_of l.parts ≡ record (machine_of l.fn.parts) {
    instances = told_by (take l.instance-index l.instance-items) l.layout.blocks (machine_of l.fn.parts).axes (machine_of l.fn.parts).groups (machine_of l.fn.parts).instances;
  };
  sized : IsSized l.layout (machine_of l.parts);
}
