-- One group after another takes its step.
use Rattle.std.proofs.Common.{◌∙◌, ap, sym, arith, ◌++◌, ◌∷◌, []}
use Rattle.motion_kernel.specs.cycles.GroupSteps.{GroupsStepped, after_group_step, look_in_cycle}
use Rattle.std.proofs.lemmas.List.{length-map, length-set, take_more_set}
use Rattle.group_core.specs.Cycles.{cycled, step_of}
use Rattle.motion_kernel.specs.Machine.{group_core_at}
use Rattle.motion_kernel.specs.Seen.{machine_of, placed}
use Rattle.motion_kernel.proofs.cycles.Steps.{stepped_more, stepped_none}
use Rattle.motion_kernel.proofs.Sizes.{sized_group}
use Rattle.motion_kernel.proofs.group_cycles.step_groups.Goals as goal

pub loop-group-init : goal.loop-group-init
loop-group-init c = record {
  machine = sym (ap (λ (g : GroupsStepped). g.machine) (stepped_none c.args.layout.now c.args.ins.now (machine_of c.args.parts.now)));
  steps = sym (ap (λ (g : GroupsStepped). g.steps) (stepped_none c.args.layout.now c.args.ins.now (machine_of c.args.parts.now)));
  long = omega arith;
  sized = c.requires.sized;
}

pub loop-group-preserved : goal.loop-group-preserved
loop-group-preserved c =
    let s = c.args.layout.now in
    let m = machine_of c.args.parts.now in
    let n = c.loop-group.group in
    let v = c.loop-group.invariant in
    let before = machine_of c.loop-group.parts in
    let step = c.step_group.ensures.step in
    let more = stepped_more n s c.args.ins.now m in
    record {
      machine = c.step_group.ensures.after ∙ ap (after_group_step s c.args.ins.now n) v.machine ∙ sym (ap (λ (g : GroupsStepped). g.machine) more);
      steps = take_more_set c.loop-group.steps n c.step_group.result (let r = c.requires.steps in let l = v.long in let t = c.loop-group-test.true in let e = length-map c.args.parts.now.groups.items placed in omega (arith, c.args.parts.now.groups.ok.0, e))
          ∙ (λ i. v.steps i ++ (step ∙ ap (λ x. step_of (look_in_cycle s c.args.ins.now n x) (group_core_at x n)) v.machine) i ∷ [])
          ∙ sym (ap (λ (g : GroupsStepped). g.steps) more);
      long = length-set c.loop-group.steps _ _ ∙ v.long;
      sized = rw c.step_group.ensures.after (sized_group s before n (cycled (look_in_cycle s c.args.ins.now n before) (group_core_at before n)) v.sized);
    }
