-- What is asked of the axis is what the call asks.
use Rattle.std.proofs.Common.{◌≡◌, ◌∙◌, ap, length, arith, w64, FitsSigned, to_z, of_z, to_z-of_z}
use Rattle.std.proofs.lemmas.Int.{ints}
use Rattle.axis_core.specs.Calls.{answer_of, core_after_command}
use Rattle.axis_core.specs.Demands.{asked_in}
use Rattle.motion_history.specs.Setup.{Setup}
use Rattle.motion_kernel.specs.calls.Calls.{asked_of_axis, is_held_by_group, with_axis_core}
use Rattle.motion_kernel.specs.Machine.{axis_core_at}
use Rattle.motion_kernel.specs.Seen.{machine_of}
use Rattle.motion_kernel.proofs.Sizes.{sized_axis}
use Rattle.motion_kernel.proofs.axis_calls.ask_axis.Goals as goal

asked : (c : goal.After-command_axis) →
    asked_in (axis_core_at (machine_of c.args.parts.now) c.args.block.now.object) c.args.block.now.object c.wanted_of-wanted.result (to_z w64 (of_z w64 c.args.inputs.now.jerk))
    c.is_held_by_group.result (length c.tables.result.now)
    ≡ asked_of_axis c.args.layout.now c.args.instance c.args.block.now.object c.args.block.now.kind c.args.inputs.now (machine_of c.args.parts.now)
asked c =
    let m = machine_of c.args.parts.now in
    let n = c.args.block.now.object in
    let j : FitsSigned w64 c.args.inputs.now.jerk = let z = c.requires.may.jerk in omega (arith, ints) in
    let tables = ap length (c.tables.ensures ∙ ap (λ (x : Setup). x.tables) c.config.ensures.config) in
    let held = c.is_held_by_group.ensures ∙ ap (λ o. is_held_by_group o m) c.membership.ensures.at in
    λ i. asked_in (axis_core_at m n) n (c.wanted_of-wanted.ensures i) (to_z-of_z j i) (held i) (tables i)

pub returns-clause-answer : goal.returns-clause-answer
returns-clause-answer c =
    let core = axis_core_at (machine_of c.args.parts.now) c.args.block.now.object in
    c.command_axis.ensures.answer ∙ ap (λ q. answer_of q core) (asked c)

pub returns-clause-after : goal.returns-clause-after
returns-clause-after c =
    let m = machine_of c.args.parts.now in
    let n = c.args.block.now.object in
    c.command_axis.ensures.after ∙ ap (λ q. with_axis_core m n (core_after_command q (axis_core_at m n))) (asked c)

pub returns-clause-sized : goal.returns-clause-sized
returns-clause-sized c =
    let m = machine_of c.args.parts.now in
    let n = c.args.block.now.object in
    let q = asked_of_axis c.args.layout.now c.args.instance n c.args.block.now.kind c.args.inputs.now m in
    rw (returns-clause-after c) (sized_axis c.args.layout.now m n (core_after_command q (axis_core_at m n)) c.requires.sized)
