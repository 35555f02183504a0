-- How the layout of a machine is kept.
use Rattle.std.specs.Prelude.{◌≡◌, ℕ, ◌<◌, Option, Some, List, length, slice_get}
use Rattle.motion_history.specs.Setup.{Setup, IsSetup}
use Rattle.motion_kernel.specs.cycles.Polled.{polled_of}
use Rattle.motion_kernel.specs.members.Members.{membership_of}
use Rattle.motion_kernel.specs.declared.memberships.Membership.{Membership}

-- these are where the first n axes stand in their groups
pub record AreMemberships (s : Setup) (n : ℕ) (found : List (Option Membership)) : Type 0 where
  pub count : length found ≡ n
  pub each : (axis : ℕ) → axis < n → slice_get found axis ≡ Some (membership_of s axis)

-- the configuration is whole, and these are where its axes stand, and its instances that find
-- something at a cycle's end
pub record IsLaid (s : Setup) (memberships : List (Option Membership)) (finding : List ℕ)
    : Type 0 where
  pub setup : IsSetup s
  pub each : AreMemberships s (length s.axes) memberships
  pub polled : finding ≡ polled_of s
