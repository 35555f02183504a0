-- A cycle is one more entry, and no task has made an entry since.
use Rattle.std.proofs.Common.{◌∙◌, ap, ◌+◌, ◌++◌, ◌∷◌, [], map}
use Rattle.std.specs.Prelude.{refl}
use Rattle.plc_types.specs.declared.axis.AxisRow.{AxisRow}
use Rattle.motion_history.specs.Entries.{cycle, cycles_of}
use Rattle.motion_kernel.specs.Segments.{SegmentedState, machine_now}
use Rattle.motion_kernel.specs.cycles.Cycles.{cycled}
use Rattle.motion_kernel.specs.KernelState.{KernelState, state_of}
use Rattle.motion_kernel.specs.Machine.{Machine}
use Rattle.motion_kernel.proofs.kept.Kernel.{kernel_next, same_machine}
use Rattle.motion_kernel.proofs.Marked.{marked_cycled}
use Rattle.motion_kernel.proofs.kernel.Kernel.cycle.Goals as goal

pub invariant_of-self : goal.invariant_of-self
invariant_of-self c =
    let k = c.self.inside in
    let s = k.segmented.config in
    let m = machine_now k.segmented in
    let ins = c.args.ins.now in
    let e = cycle (cycles_of k.segmented.history + 1) (cycled s m ins).axes (cycled s m ins).groups in
    kernel_next k (record k { segmented = c.cycle.new.self; tasks = c.quiet_all.new.self }) e c.self.invariant c.cycle.ensures.after
    (marked_cycled s k.segmented.history k.tasks.marks c.quiet_all.new.self.marks e c.self.invariant.tasks refl (λ t. refl) c.quiet_all.ensures)

pub returns-clause-outs : goal.returns-clause-outs
returns-clause-outs c =
    let k = c.self.inside in
    let ins = c.args.ins.now in
    c.cycle.ensures.outs
    ∙ ap (λ (m : Machine). map (λ (r : AxisRow). r.output) (cycled k.segmented.config m ins).axes) (same_machine k c.self.invariant)
    ∙ ap (λ (x : KernelState). map (λ (r : AxisRow). r.output) (cycled x.config (state_of x) ins).axes) c.self.view_is

pub returns-clause-after : goal.returns-clause-after
returns-clause-after c =
    let k = c.self.inside in
    let ins = c.args.ins.now in
    let n = cycles_of k.segmented.history + 1 in
    ap (λ (b : SegmentedState). let x : KernelState = record { config = b.config; history = b.history; stopped = k.stopped } in x) c.cycle.ensures.after
    ∙ ap (λ (m : Machine). let x : KernelState = record {
      config = k.segmented.config;
      history = k.segmented.history ++ cycle n (cycled k.segmented.config m ins).axes (cycled k.segmented.config m ins).groups ∷ [];
      stopped = k.stopped;
    } in x) (same_machine k c.self.invariant)
    ∙ ap (λ (x : KernelState). record x {
      history = x.history ++ cycle (cycles_of x.history + 1) (cycled x.config (state_of x) ins).axes (cycled x.config (state_of x) ins).groups ∷ [];
    }) c.self.view_is
