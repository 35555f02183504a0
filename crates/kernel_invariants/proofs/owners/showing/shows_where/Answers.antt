-- The block acts on one axis or group.
use Rattle.std.proofs.Common.{ap, sym, ◌∙◌}
use Rattle.kernel_invariants.specs.Owned.{object_by}
use Rattle.motion_kernel.specs.owners.Objects.{a_group, an_axis}
use Rattle.kernel_invariants.proofs.Showing.{shows_by_block}
use Rattle.kernel_invariants.proofs.owners.showing.shows_where.Goals as goal

pub returns-in-Axis : goal.returns-in-Axis
returns-in-Axis c =
    shows_by_block c.args.config.now c.args.start.now c.args.instance c.args.block.now (an_axis c.in-Axis.axis) _
    c.requires.block (sym c.is_power.ensures ∙ c.if-is_power.false)
    (sym c.object_of.ensures ∙ ap object_by c.in-Axis.is) c.shows_on_axis_there.ensures

pub returns-in-Group : goal.returns-in-Group
returns-in-Group c =
    shows_by_block c.args.config.now c.args.start.now c.args.instance c.args.block.now (a_group c.in-Group.group) _
    c.requires.block (sym c.is_power.ensures ∙ c.if-is_power.false)
    (sym c.object_of.ensures ∙ ap object_by c.in-Group.is) c.shows_on_group_there.ensures
