-- Those of axes and groups are all.
use Rattle.motion_kernel.specs.owners.Objects.{a_group, an_axis}
use Rattle.kernel_invariants.proofs.OfBlocks.{all_objects}
use Rattle.kernel_invariants.proofs.owners.kinds.have_kinds_of_blocks.Goals as goal

pub returns-then-are_of_all_axes : goal.returns-then-are_of_all_axes
returns-then-are_of_all_axes c = (
  λ t. all_objects c.args.config.now c.args.start.now
      (c.are_of_all_axes.ensures.yes c.if-are_of_all_axes.true) (c.are_of_all_groups.ensures.yes t),
  λ h. c.are_of_all_groups.ensures.no (λ j l. h (a_group j) l),
)

pub returns-else-are_of_all_axes : goal.returns-else-are_of_all_axes
returns-else-are_of_all_axes c = (
  λ t. absurd (cc),
  λ h. absurd (let fails = c.if-are_of_all_axes.false in
      let passes = c.are_of_all_axes.ensures.no (λ n l. h (an_axis n) l) in cc),
)
