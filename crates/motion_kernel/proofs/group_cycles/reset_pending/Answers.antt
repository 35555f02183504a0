-- The group is written among the parts.
use Rattle.std.proofs.Common.{◌∙◌, arith, ◌<◌, length}
use Rattle.std.proofs.lemmas.List.{length-map}
use Rattle.std.specs.Prelude.{refl}
use Rattle.group_core.specs.Cycles.{reset_cycled}
use Rattle.motion_kernel.specs.cycles.GroupResets.{core_after_reset}
use Rattle.motion_kernel.specs.Machine.{list_of}
use Rattle.motion_kernel.specs.Seen.{machine_of, placed}
use Rattle.motion_kernel.proofs.GroupParts.{core_here, group_written, reset_as, same_queue}
use Rattle.motion_kernel.proofs.group_cycles.reset_pending.Goals as goal

pub returns-clause-after : goal.returns-clause-after
returns-clause-after c =
    let m = machine_of c.args.parts.now in
    let s = c.args.layout.now in
    let gs = c.args.parts.now.groups.items in
    let long = length-map gs placed in
    let there : c.args.group < length gs = let e = c.requires.sized.groups in let t = c.requires.there in omega (arith, long) in
    let old = c.index_mut-core.result.now in
    let new = c.reset_cycle-row.new.self in
    let list = list_of m c.args.group in
    let here = core_here m gs c.args.group list old refl refl there c.index_mut-core.ensures.value in
    let after = reset_as c.group_look-look.result old new m.queues list c.reset_cycle-row.new.notes c.reset_cycle-row.ensures.group c.reset_cycle-row.ensures.path c.reset_cycle-row.ensures.notes
    ∙ (λ i. reset_cycled (c.group_look-look.ensures.look i) (here i)) in
    c.tell.ensures.told ∙ group_written m gs c.args.group list new m.queues c.reset_cycle-row.new.notes (core_after_reset s c.args.group m) refl refl after (same_queue m.queues list)
