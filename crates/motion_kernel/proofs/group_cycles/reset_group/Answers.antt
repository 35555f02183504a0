-- Without a pending GroupReset nothing is done.
use Rattle.std.proofs.Common.{◌≡◌, ◌∙◌, ap, sym, arith, ◌<◌, length}
use Rattle.std.proofs.lemmas.List.{length-map}
use Rattle.std.specs.Prelude.{refl, None, not}
use Rattle.group_core.specs.Cycles.{row_of}
use Rattle.motion_kernel.specs.Machine.{PlacedGroup, group_at}
use Rattle.motion_kernel.specs.Seen.{machine_of, placed}
use Rattle.motion_kernel.specs.looks.GroupLooks.{group_look}
use Rattle.motion_kernel.proofs.GroupParts.{group_here, no_reset, none_where, not_reset}
use Rattle.motion_kernel.proofs.group_cycles.reset_group.Goals as goal

-- the group that is looked at
stays : (c : goal.After-result-1) → placed c.group.result.now ≡ group_at (machine_of c.args.parts.now) c.args.group
stays c =
    let m = machine_of c.args.parts.now in
    let gs = c.args.parts.now.groups.items in
    let long = length-map gs placed in
    let there : c.args.group < length gs = let e = c.requires.sized.groups in let t = c.requires.there in omega (arith, long) in
    ap placed c.group.ensures ∙ group_here m gs c.args.group c.index.result.now refl there c.index.ensures

none : (c : goal.After-result-1) → (group_at (machine_of c.args.parts.now) c.args.group).group.reset ≡ None
none c =
    ap (λ (g : PlacedGroup). g.group.reset) (sym (stays c)) ∙ none_where c.group.result.now.group.reset (c.is_none.ensures ∙ ap not c.if-is_none.true)

pub returns-then-is_none-clause-row : goal.returns-then-is_none-clause-row
returns-then-is_none-clause-row c =
    let m = machine_of c.args.parts.now in
    ap (λ (g : PlacedGroup). row_of g.group) (stays c)
    ∙ sym (ap row_of (no_reset (group_look c.args.layout.now m c.args.group 0) m c.args.group (none c)))

pub returns-then-is_none-clause-after : goal.returns-then-is_none-clause-after
returns-then-is_none-clause-after c =
    let m = machine_of c.args.parts.now in
    sym (not_reset (group_look c.args.layout.now m c.args.group 0) m c.args.group (none c))
