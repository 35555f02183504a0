-- The limits are those of the group's axes.
use Rattle.kernel_invariants.proofs.Groups.{ranges_of}
use Rattle.std.proofs.Common.{arith}
use Rattle.kernel_invariants.proofs.machine.groups.is_group.Goals as goal

pub is_group_kept-requires-clause-ranges : goal.is_group_kept-requires-clause-ranges
is_group_kept-requires-clause-ranges c =
    let groups = c.requires.sized.groups in
    let there = c.requires.there in
    ranges_of c.configurations_are_sound.ensures c.args.config.now c.args.number _ _ c.requires.sized.setup (omega arith)
    c.members_in-members.ensures.members c.limits_in-limits.ensures
