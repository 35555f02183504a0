-- The groups, then the axes, then the groups again.
use Rattle.std.proofs.Common.{◌≡◌, ◌∙◌, ap, length, map}
use Rattle.std.specs.Prelude.{refl}
use Rattle.plc_types.specs.declared.axis.AxisRow.{AxisRow}
use Rattle.motion_kernel.specs.cycles.Cycles.{Cycled, cycled}
use Rattle.motion_kernel.specs.cycles.AxisCycles.{axes_cycled}
use Rattle.motion_kernel.specs.cycles.GroupResets.{groups_reset}
use Rattle.motion_kernel.specs.looks.AxisLooks.{pair_of}
use Rattle.motion_kernel.specs.Seen.{machine_of}
use Rattle.motion_kernel.proofs.cycles.Steps.{cycled_is}
use Rattle.motion_kernel.proofs.machine_cycle.go_through.Goals as goal

made : (c : goal.After-reset_groups) → record {
  machine = machine_of c.reset_groups.new.parts;
  axes = (axes_cycled c.args.layout.now (length (machine_of c.step_aside.new.parts).axes)
      (record { answers = c.args.ins.now; pairs = c.as_slice.result.now; steps = c.as_slice-2.result.now }) (machine_of c.step_aside.new.parts)).rows;
  groups = (groups_reset c.args.layout.now (length (machine_of c.cycle_axes.new.parts).groups) (machine_of c.cycle_axes.new.parts)).rows;
} ≡ cycled c.args.layout.now (machine_of c.args.parts.now) c.args.ins.now
made c =
    let pairs : c.as_slice.result.now ≡ map pair_of c.args.parts.now.axes.items = c.as_slice.ensures.value ∙ c.step_aside.ensures.pairs in
    let steps = c.as_slice-2.ensures.value ∙ c.step_aside.ensures.steps in
    cycled_is c.args.layout.now (machine_of c.args.parts.now) c.args.ins.now (machine_of c.step_aside.new.parts) (machine_of c.cycle_axes.new.parts)
    (machine_of c.reset_groups.new.parts) c.as_slice-2.result.now c.as_slice.result.now _ _ c.step_aside.ensures.after steps pairs
    c.cycle_axes.ensures.after refl c.reset_groups.ensures.after refl

pub returns-clause-after : goal.returns-clause-after
returns-clause-after c = ap (λ (x : Cycled). x.machine) (made c)

pub returns-clause-rows : goal.returns-clause-rows
returns-clause-rows c =
    let grows = (groups_reset c.args.layout.now (length (machine_of c.cycle_axes.new.parts).groups) (machine_of c.cycle_axes.new.parts)).rows in
    c.reset_groups.ensures.rows ∙ (λ i. record (c.cycle_axes.ensures.rows i) { group_rows = grows })
    ∙ (λ i. record c.args.history.now { rows = (made c i).axes; group_rows = (made c i).groups })

pub returns-clause-outs : goal.returns-clause-outs
returns-clause-outs c = c.cycle_axes.ensures.outs ∙ ap (λ (x : Cycled). map (λ (r : AxisRow). r.output) x.axes) (made c)
