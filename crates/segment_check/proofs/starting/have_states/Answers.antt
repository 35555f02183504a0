-- Axes and groups are all.
use Rattle.segment_check.proofs.InState.{axes_in, groups_in, in_state}
use Rattle.segment_check.proofs.starting.have_states.Goals as goal

pub returns-then-are_axes_in_state : goal.returns-then-are_axes_in_state
returns-then-are_axes_in_state c = (
  λ t. in_state c.args.config.now c.args.start.now c.requires
      (c.are_axes_in_state.ensures.yes c.if-are_axes_in_state.true) (c.are_groups_in_state.ensures.yes t),
  λ h. c.are_groups_in_state.ensures.no (groups_in c.args.config.now c.args.start.now c.requires h),
)

pub returns-else-are_axes_in_state : goal.returns-else-are_axes_in_state
returns-else-are_axes_in_state c = (
  λ t. absurd (cc),
  λ h. absurd (let fails = c.if-are_axes_in_state.false in
      let passes = c.are_axes_in_state.ensures.no (axes_in c.args.config.now c.args.start.now c.requires h) in cc),
)
