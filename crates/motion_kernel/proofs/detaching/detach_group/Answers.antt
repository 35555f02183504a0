-- The group is written among the parts, and its list of the pool.
use Rattle.std.proofs.Common.{◌≡◌, ◌∙◌, ap, sym, arith, ◌<◌, length, map, set, []}
use Rattle.std.specs.Prelude.{refl}
use Rattle.std.proofs.lemmas.List.{get_or-set_same, length-map}
use Rattle.command_pool.specs.Waiting.{detached, queue_of}
use Rattle.group_core.specs.Calls.{disowned}
use Rattle.group_core.specs.Cores.{Core}
use Rattle.group_core.specs.Seen.{core_at, on_path}
use Rattle.motion_kernel.specs.Machine.{group_core_at}
use Rattle.motion_kernel.specs.Seen.{machine_of, placed}
use Rattle.motion_kernel.proofs.GroupParts.{core_here, group_written}
use Rattle.motion_kernel.proofs.detaching.detach_group.Goals as goal

pub returns : goal.returns
returns c =
    let m = machine_of c.args.parts.now in
    let gs = c.args.parts.now.groups.items in
    let owner = c.args.owner in
    let long = length-map gs placed in
    let there : c.args.group < length gs = let e = c.requires.sized.groups in let t = c.requires.there in omega (arith, long) in
    let list = c.list_of-list.result in
    let old = c.index_mut.result.now in
    let new = c.detach.new.self in
    let here = core_here m gs c.args.group list old refl c.list_of-list.ensures there c.index_mut.ensures.value in
    let ws = map (detached owner) (queue_of m.queues list) in
    let pool = c.detach-2.new.self in
    let within : list < length m.queues =
    let at = c.list_of-list.ensures in let a = c.requires.sized.axes in let g = c.requires.sized.groups in let q = c.requires.sized.queues in let t = c.requires.there in omega arith in
    let queue : queue_of pool list ≡ ws = ap (λ qs. queue_of qs list) c.detach-2.ensures ∙ get_or-set_same m.queues list ws [] within in
    let after : core_at new pool list [] ≡ disowned owner (group_core_at m c.args.group) =
    (λ i. let x : Core = record { group = (c.detach.ensures.after i).group; path = on_path (c.detach.ensures.after i).track; waiting = queue i; notes = [] } in x)
    ∙ ap (disowned owner) here in
    group_written m gs c.args.group list new pool [] _ refl c.list_of-list.ensures after
    (c.detach-2.ensures ∙ ap (set m.queues list) (sym queue))
