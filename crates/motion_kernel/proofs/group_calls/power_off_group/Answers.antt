-- The group is written among the parts.
use Rattle.std.proofs.Common.{◌∙◌, ap, arith, ◌<◌, length}
use Rattle.std.proofs.lemmas.List.{length-map}
use Rattle.group_core.specs.Calls.{powered_off}
use Rattle.group_core.specs.Cores.{core_in}
use Rattle.group_core.specs.Seen.{on_path}
use Rattle.motion_kernel.specs.Seen.{machine_of, placed}
use Rattle.motion_kernel.proofs.GroupParts.{core_here, group_written}
use Rattle.motion_kernel.proofs.group_calls.power_off_group.Goals as goal
use Rattle.std.specs.Prelude.{refl}

pub returns : goal.returns
returns c =
    let m = machine_of c.args.parts.now in
    let gs = c.args.parts.now.groups.items in
    let long = length-map gs placed in
    let there : c.args.group < length gs = let e = c.requires.sized.groups in let t = c.requires.there in omega (arith, long) in
    let list = c.list_of-list.result in
    let old = c.index_mut-core.result.now in
    let new = c.power_off.new.self in
    let here = ap (core_in old.group (on_path old.track) c.args.parts.now.pool list) c.new-notes.ensures
    ∙ core_here m gs c.args.group list old refl c.list_of-list.ensures there c.index_mut-core.ensures.value in
    let after = ap (λ t. core_in new.group (on_path t) c.power_off.new.pool list c.power_off.new.notes) c.power_off.ensures.path
    ∙ c.power_off.ensures.after (on_path old.track) ∙ ap powered_off here in
    c.tell.ensures.told ∙ group_written m gs c.args.group list new c.power_off.new.pool c.power_off.new.notes _ refl c.list_of-list.ensures after c.power_off.ensures.others
