-- What is asked of the group is what the call asks.
use Rattle.std.proofs.Common.{◌∙◌, arith, w64, FitsSigned, to_z-of_z}
use Rattle.std.proofs.lemmas.Int.{ints}
use Rattle.group_core.specs.Calls.{answer_of, commanded}
use Rattle.motion_kernel.specs.calls.Asking.{wanted_of}
use Rattle.motion_kernel.specs.calls.Calls.{with_group_core}
use Rattle.motion_kernel.specs.looks.GroupLooks.{group_look}
use Rattle.motion_kernel.specs.Machine.{group_core_at}
use Rattle.motion_kernel.specs.Seen.{machine_of}
use Rattle.motion_kernel.proofs.Sizes.{sized_group}
use Rattle.motion_kernel.proofs.group_calls.ask_group.Goals as goal

pub returns-clause-answer : goal.returns-clause-answer
returns-clause-answer c =
    let m = machine_of c.args.parts.now in
    let j = c.args.block.now.object in
    let z : FitsSigned w64 c.args.inputs.now.jerk = let l = c.requires.may.jerk in omega (arith, ints) in
    c.command_group.ensures.answer
    ∙ (λ i. answer_of (c.wanted_of-wanted.ensures i) (to_z-of_z z i) (group_look c.args.layout.now m j 0) (group_core_at m j))

pub returns-clause-after : goal.returns-clause-after
returns-clause-after c =
    let m = machine_of c.args.parts.now in
    let j = c.args.block.now.object in
    let z : FitsSigned w64 c.args.inputs.now.jerk = let l = c.requires.may.jerk in omega (arith, ints) in
    c.command_group.ensures.after
    ∙ (λ i. with_group_core m j (commanded (c.wanted_of-wanted.ensures i) (to_z-of_z z i) (group_look c.args.layout.now m j 0) (group_core_at m j)))

pub returns-clause-sized : goal.returns-clause-sized
returns-clause-sized c =
    let m = machine_of c.args.parts.now in
    let s = c.args.layout.now in
    let j = c.args.block.now.object in
    let core = commanded (wanted_of c.args.instance c.args.block.now.kind c.args.inputs.now) c.args.inputs.now.jerk (group_look s m j 0) (group_core_at m j) in
    rw (returns-clause-after c) (sized_group s m j core c.requires.sized)
