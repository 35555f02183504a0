-- The instance has nothing elsewhere.
use Rattle.std.proofs.Common.{◌≡◌, ◌∙◌, arith, sym, true, false}
use Rattle.plc_types.specs.Kinds.{acts_on_group}
use Rattle.motion_kernel.specs.Seen.{machine_of}
use Rattle.motion_kernel.proofs.owners.Alone.{axis_freed, group_freed, where_it_acts}
use Rattle.motion_kernel.proofs.detaching.detach.Goals as goal

pub returns-then-acts_on_group-clause-after : goal.returns-then-acts_on_group-clause-after
returns-then-acts_on_group-clause-after c =
    let b = c.args.block.now in
    let on : acts_on_group b.kind ≡ true = sym c.acts_on_group.ensures ∙ c.if-acts_on_group.true in
    let size = c.requires.sized.groups in
    let there = where_it_acts b.object _ _ (acts_on_group b.kind) true on c.requires.object in
    c.detach_group.ensures
    ∙ group_freed c.args.layout.now c.args.instance (machine_of c.args.parts.now) c.requires.sized b c.requires.block c.requires.owners on (omega (arith, there))

pub returns-else-acts_on_group-clause-after : goal.returns-else-acts_on_group-clause-after
returns-else-acts_on_group-clause-after c =
    let b = c.args.block.now in
    let off : acts_on_group b.kind ≡ false = sym c.acts_on_group.ensures ∙ c.if-acts_on_group.false in
    let size = c.requires.sized.axes in
    let there = where_it_acts b.object _ _ (acts_on_group b.kind) false off c.requires.object in
    c.detach_axis.ensures
    ∙ axis_freed c.args.layout.now c.args.instance (machine_of c.args.parts.now) c.requires.sized b c.requires.block c.requires.owners off (omega (arith, there))
