-- Where an axis of a group is, by the parts of its group.
-- for: is_axis_kept, is_machine_kept
use Rattle.std.specs.Prelude.{◌≡◌, ◌↔◌, ℕ, Bool, Some, IsTrue}
use Rattle.std.proofs.Common.{ap}
use Rattle.axis_core.specs.Cores.{Core}
use Rattle.axis_core.specs.declared.axis.Axis.{Axis}
use Rattle.group_core.specs.Members.{StandsOn}
use Rattle.group_core.specs.Seen.{on_path}
use Rattle.group_core.specs.declared.group.GroupOnPath.{GroupOnPath}
use Rattle.group_core.specs.declared.group.Track.{Track}
use Rattle.linear_path.specs.declared.line.LinePath.{LinePath}
use Rattle.motion_kernel.specs.Seen.{placed}
use Rattle.motion_kernel.specs.kept.Machine.{IsOnItsPath}
use Rattle.kernel_invariants.specs.Parts.{track_of}

-- an axis stands on the path that its group has
pub on_its_path : (on : GroupOnPath LinePath) (t : Track LinePath) (place : ℕ) (a : Axis) (b : Bool) → on.track ≡ Some t →
    IsTrue b ↔ StandsOn (track_of t) place a.previous a.setpoint →
    (c : Core) → c.axis ≡ a → IsTrue b ↔ IsOnItsPath (placed on) place c
on_its_path on t place a b is law c same =
    let there : on_path on.track ≡ Some (track_of t) = ap on_path is in (
      λ yes. record { path = track_of t; on = there; stands = rw same (law.0 yes) },
      λ h.
          let found = h.on in
          let p : track_of t ≡ h.path = cc in
          let stands : StandsOn h.path place a.previous a.setpoint = rw (← same) h.stands in
          law.1 (rw p stands),
    )
