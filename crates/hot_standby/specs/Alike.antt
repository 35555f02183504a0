-- Two kernels that are alike, the second behind a ring. This project's profile.
use Rattle.std.specs.Prelude.{◌≡◌, ◌≤◌, Option, Some, None, List, take, length}
use Rattle.plc_types.specs.declared.drive.DriveIn.{DriveIn}
use Rattle.motion_kernel.specs.KernelState.{KernelState}
use Rattle.hot_standby.specs.Events.{IsFit, kernel_after}
use Rattle.hot_standby.specs.Sides.{FeedSide, StandbySide}
use Rattle.hot_standby.specs.declared.event.FedEvent.{FedEvent}
use Rattle.hot_standby.specs.declared.event.FedEvent.TheVariants as fed
use Rattle.hot_standby.specs.declared.follower.Follower.{Follower}

-- the standby took all that was pushed, and its kernel is as the first
pub record AreAlike (k : KernelState) (feed : FeedSide) (standby : StandbySide) : Type 0 where
  pub ring : standby.ring ≡ feed.ring
  pub some : 1 ≤ feed.ring.room
  pub taken : standby.taken ≡ feed.sent
  pub kernel : standby.kernel ≡ k

-- the follower's kernel is as the first
abbrev pub IsLike : Follower → KernelState → Type 0
IsLike f k = AreAlike k f.feed f.standby

-- the first kernel made an event that fits, and the follower's is yet to make it
pub record IsBehind (f : Follower) (k : KernelState) (e : FedEvent) : Type 0 where
  pub like : IsLike f f.standby.kernel
  pub fit : IsFit f.standby.kernel e
  pub made : k ≡ kernel_after f.standby.kernel e

-- so it is with the follower, if there is one
abbrev pub IsLikeIfAny : Option Follower → KernelState → Type 0
IsLikeIfAny None k = Unit {0}
IsLikeIfAny (Some f) k = IsLike f k

abbrev pub IsBehindIfAny : Option Follower → KernelState → FedEvent → Type 0
IsBehindIfAny None k e = Unit {0}
IsBehindIfAny (Some f) k e = IsBehind f k e

-- the event is the cycle with these answers
abbrev pub IsCycleWith : List DriveIn → FedEvent → Type 0
IsCycleWith answers (fed.Cycle count ins) =
    (count ≡ length answers) × (take count ins ≡ answers)
IsCycleWith answers (fed.Call task block i) = ⊥
IsCycleWith answers (fed.End task) = ⊥
