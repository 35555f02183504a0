-- Every axis and every path of a kept machine can be stopped.
-- for: axes_stay_stoppable
use Rattle.std.specs.Prelude.{◌≡◌, ℕ, ◌<◌, true, Some, length, map}
use Rattle.std.proofs.Common.{arith, subst}
use Rattle.group_core.specs.GroupKept.{IsPathOf}
use Rattle.group_core.specs.Tracks.{OnPath}
use Rattle.kin_core.specs.Admissible.{IsKept}
use Rattle.plc_types.specs.declared.limits.Limits.{Limits}
use Rattle.motion_history.specs.Setup.{Setup}
use Rattle.motion_kernel.specs.Machine.{Machine, axis_at, group_at}
use Rattle.motion_kernel.specs.kept.Machine.{IsMachineKept, limits_of}
use Rattle.motion_kernel.specs.members.Members.{members_at}
use Rattle.motion_kernel.proofs.kept.Ready.{driven_kept}

pub axis_stoppable : (s : Setup) (m : Machine) (n : ℕ) → IsMachineKept s m → n < length s.axes → (axis_at m n).driven ≡ true →
    IsKept (limits_of s n) (axis_at m n).previous (axis_at m n).setpoint
axis_stoppable s m n h l driven =
    let sizes = h.sized in
    let size = sizes.axes in
    let one = h.axes n (omega arith) in
    let a = axis_at m n in
    let P : Limits → Type 0 = λ ls. IsKept ls a.previous a.setpoint in
    subst P one.limits (driven_kept a.driven a.limits a.previous a.setpoint driven one.core.axis.base.set)

-- a path
pub path_stoppable : (s : Setup) (m : Machine) (j : ℕ) (p : OnPath) → IsMachineKept s m → j < length s.groups → (group_at m j).path ≡ Some p →
    IsPathOf (length (members_at s j)) (map (limits_of s) (members_at s j)) p
path_stoppable s m j p h l on =
    let sizes = h.sized in
    let size = sizes.groups in
    let one = h.groups j (omega arith) in
    let P : ℕ → Type 0 = λ axes. IsPathOf axes (map (limits_of s) (members_at s j)) p in
    subst P one.count (one.core.path p on)
