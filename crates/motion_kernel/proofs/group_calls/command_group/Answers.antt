-- The group is written among the parts.
use Rattle.std.proofs.Common.{◌≡◌, ◌∙◌, ap, arith, ◌<◌, length, w64, FitsSigned, to_z-of_z}
use Rattle.std.proofs.lemmas.List.{length-map}
use Rattle.group_core.specs.Calls.{commanded}
use Rattle.group_core.specs.Cores.{core_in}
use Rattle.group_core.specs.Seen.{core_at, on_path}
use Rattle.motion_kernel.specs.Seen.{machine_of, placed}
use Rattle.motion_kernel.proofs.GroupParts.{core_here, group_written}
use Rattle.motion_kernel.proofs.group_calls.command_group.Goals as goal
use Rattle.std.specs.Prelude.{refl}

pub returns-clause-after : goal.returns-clause-after
returns-clause-after c =
    let m = machine_of c.args.parts.now in
    let gs = c.args.parts.now.groups.items in
    let long = length-map gs placed in
    let there : c.args.group < length gs = let e = c.requires.sized.groups in let t = c.requires.there in omega (arith, long) in
    let list = c.list_of-list.result in
    let old = c.index_mut-core.result.now in
    let here = ap (core_in old.group (on_path old.track) c.args.parts.now.pool list) c.new-notes.ensures
    ∙ core_here m gs c.args.group list old refl c.list_of-list.ensures there c.index_mut-core.ensures.value in
    let jerk : FitsSigned w64 c.args.jerk = c.ranges.jerk in
    let made : core_at c.command-answer.new.self c.command-answer.new.pool list c.command-answer.new.notes
    ≡ commanded c.args.wanted.now c.args.jerk c.group_look-look.result (core_at old c.args.parts.now.pool list c.new-notes.result) = simp to_z-of_z at c.command-answer.ensures.after in
    let after = made ∙ (λ i. commanded c.args.wanted.now c.args.jerk (c.group_look-look.ensures.look i) (here i)) in
    c.tell.ensures.told ∙ group_written m gs c.args.group list c.command-answer.new.self c.command-answer.new.pool c.command-answer.new.notes _ refl c.list_of-list.ensures after
    c.command-answer.ensures.others
