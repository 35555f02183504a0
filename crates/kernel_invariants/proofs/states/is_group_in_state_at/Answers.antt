-- The group is the one that was found.
use Rattle.motion_kernel.proofs.Lists.{get_is}
use Rattle.motion_kernel.specs.Machine.{no_group}
use Rattle.motion_kernel.specs.Seen.{placed}
use Rattle.kernel_invariants.proofs.Groups.{there_is}
use Rattle.kernel_invariants.proofs.states.is_group_in_state_at.Goals as goal

pub returns-then-is_group_in_state : goal.returns-then-is_group_in_state
returns-then-is_group_in_state c =
    let found = there_is c.args.start.now c.args.group (placed c.in-Some.on.now) c.in-Some.ensures in
    let first = c.is_group_in_state.ensures.0 c.if-is_group_in_state.true in
    rw found (λ t. (first, c.is_toward.ensures.0 t), λ h. c.is_toward.ensures.1 h.1)

pub returns-else-is_group_in_state : goal.returns-else-is_group_in_state
returns-else-is_group_in_state c =
    let found = there_is c.args.start.now c.args.group (placed c.in-Some.on.now) c.in-Some.ensures in
    rw found (λ t. absurd (cc), λ h. absurd (let f = c.if-is_group_in_state.false in let t = c.is_group_in_state.ensures.1 h.0 in cc))

pub returns-in-None : goal.returns-in-None
returns-in-None c =
    absurd (let there = get_is c.args.start.now.groups c.args.group no_group c.requires in let gone = c.in-None.ensures in cc)
