-- The places of an axis on the path of its group.
-- for: is_axis_kept, is_machine_kept
use Rattle.std.specs.Prelude.{◌≡◌, ℕ, ◌<◌, pos, Some, length}
use Rattle.std.proofs.Common.{arith, ap, ◌∙◌}
use Rattle.std.proofs.lemmas.Int.{ints}
use Rattle.group_core.specs.Tracks.{OnPath, length_of}
use Rattle.plc_types.specs.declared.limits.Limits.{Limits}
use Rattle.linear_path.proofs.LineIsPath.{line_limits_from, line_limits_to}
use Rattle.motion_history.specs.Setup.{Setup}
use Rattle.motion_kernel.specs.Machine.{Machine, group_at}
use Rattle.motion_kernel.specs.kept.Machine.{IsGroupKept, IsSized}
use Rattle.motion_kernel.specs.members.Members.{membership_of}
use Rattle.motion_kernel.specs.declared.memberships.Membership.{Membership}
use Rattle.motion_kernel.proofs.members.Places.{membership_is}
use Rattle.kernel_invariants.specs.Parts.{IsOnLine}

-- an axis of a kept group is one of its path's, whose places lie on it
pub on_line : (s : Setup) (m : Machine) (n : ℕ) (at : Membership) → IsSized s m →
    ((j : ℕ) → j < length m.groups → IsGroupKept s m j) → membership_of s n ≡ Some at →
    (p : OnPath) → (group_at m at.group).path ≡ Some p → IsOnLine p at.place
on_line s m n at sized kept is p path =
    let found = membership_is s n at is in
    let groups = sized.groups in
    let group = found.group in
    let among = found.among in
    let k = kept at.group (omega arith) in
    let g = k.core.path p path in
    let limits = g.limits_are in
    let axes = k.count in
    let count = g.count in
    let lo : p.motion.limits.lo ≡ pos 0 = ap (λ (l : Limits). l.lo) limits ∙ line_limits_from _ _ _ _ in
    let hi : p.motion.limits.hi ≡ pos (length_of p.way) = ap (λ (l : Limits). l.hi) limits ∙ line_limits_to _ _ _ _ in
    let above = g.kept.above in
    let below = g.kept.below in
    let to = g.to in
    record {
      there = omega arith;
      from = g.from;
      from_end = omega (arith, ints);
      to = omega (arith, ints);
      to_end = omega (arith, ints);
    }
