-- A kernel that a standby may follow, and how it is kept. This project's profile.
use Rattle.std.specs.Prelude.{◌≡◌, ◌<◌, ◌-◌, ℕ, IfSome, Option, Some, None, length}
use Rattle.motion_kernel.specs.KernelState.{KernelState}
use Rattle.hot_standby.specs.Alike.{IsLikeIfAny}
use Rattle.hot_standby.specs.Primaries.{Primary}
use Rattle.hot_standby.specs.declared.follower.Follower.{Follower}
use Rattle.hot_standby.specs.declared.primary.PrimaryKernel.TheInside.{Inside}

-- it is seen as the kernel, and as the number of events after which the standby takes its place
abbrev pub primary_of : Inside → Primary
primary_of p = record { kernel = p.kernel; cut = p.cut }

-- for how many events more a standby follows: 0 where none does
abbrev pub events_left : Option Follower → ℕ
events_left None = 0
events_left (Some f) = f.left

-- its follower's kernel is as its own; one follows exactly as long as events are missing up to the
-- cut, and for this many
pub record IsPrimary (p : Inside) : Type 0 where
  pub like : IsLikeIfAny p.follower p.kernel
  pub left : events_left p.follower ≡ p.cut - length p.kernel.history
  pub some : IfSome p.follower (λ (f : Follower). 0 < f.left)
