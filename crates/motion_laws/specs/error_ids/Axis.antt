-- By which ErrorID a command of an axis is refused (PLCopen Motion Control Part 1, ErrorID; the
-- numbers are this project's profile).
use Rattle.std.specs.Prelude.{◌≡◌, ◌≢◌, ◌⊎◌, ℕ, ◌≤◌, ◌==◌, ℤ, ◌+ℤ◌, ◌-ℤ◌, pos, neg_ℤ, true, Some, None, List, [], ◌∷◌}
use Rattle.axis_core.specs.Profiles.{profile_of}
use Rattle.axis_core.specs.Ranges.{IsBetween}
use Rattle.axis_core.specs.Refusals.{Asked}
use Rattle.axis_core.specs.blocks.Moves.{known_target_of}
use Rattle.axis_core.specs.declared.profile.Goal.TheVariants.{Origin}
use Rattle.axis_core.specs.declared.profile.Manner.{Manner}
use Rattle.axis_core.specs.declared.profile.Manner.TheVariants.{Runs}
use Rattle.plc_types.specs.Counts.{HasCounts}
use Rattle.plc_types.specs.declared.axis_state.AxisState.TheVariants as state
use Rattle.plc_types.specs.declared.kind.BlockKind.{BlockKind}
use Rattle.plc_types.specs.declared.kind.BlockKind.TheVariants as kind
use Rattle.plc_types.specs.declared.kind.BufferMode.TheVariants.{Aborting}
use Rattle.command_pool.specs.declared.wanted.Follow.{Follow}
use Rattle.command_pool.specs.declared.wanted.Follow.TheVariants as follow
use Rattle.command_pool.specs.declared.wanted.Wanted.{Wanted}
use Rattle.motion_laws.specs.error_ids.First.{Row}

-- the ErrorIDs against which a kind is tested, in their order
abbrev pub tested : BlockKind → List ℕ
tested kind.Home = 1 ∷ 2 ∷ 3 ∷ 4 ∷ 5 ∷ 10 ∷ 12 ∷ []
tested kind.Stop = 1 ∷ 2 ∷ 3 ∷ 5 ∷ 8 ∷ 9 ∷ []
tested kind.Halt = 1 ∷ 2 ∷ 3 ∷ 4 ∷ 5 ∷ 8 ∷ 9 ∷ []
tested kind.MoveAbsolute = 1 ∷ 2 ∷ 3 ∷ 4 ∷ 5 ∷ 6 ∷ 7 ∷ 8 ∷ 9 ∷ 10 ∷ 11 ∷ []
tested kind.MoveRelative = 1 ∷ 2 ∷ 3 ∷ 4 ∷ 5 ∷ 6 ∷ 7 ∷ 8 ∷ 9 ∷ 10 ∷ 11 ∷ []
tested kind.MoveAdditive = 1 ∷ 2 ∷ 3 ∷ 4 ∷ 5 ∷ 6 ∷ 7 ∷ 8 ∷ 9 ∷ 10 ∷ 11 ∷ []
tested kind.MoveVelocity = 1 ∷ 2 ∷ 3 ∷ 4 ∷ 5 ∷ 6 ∷ 7 ∷ 8 ∷ 9 ∷ 11 ∷ []
tested kind.GearIn = 1 ∷ 2 ∷ 3 ∷ 4 ∷ 5 ∷ 7 ∷ 8 ∷ 9 ∷ 11 ∷ 13 ∷ 15 ∷ []
tested kind.GearOut = 1 ∷ 2 ∷ 3 ∷ 4 ∷ 5 ∷ 19 ∷ []
tested kind.CamIn = 1 ∷ 2 ∷ 3 ∷ 4 ∷ 5 ∷ 6 ∷ 7 ∷ 8 ∷ 9 ∷ 11 ∷ 14 ∷ 15 ∷ []
tested kind.CamOut = 1 ∷ 2 ∷ 3 ∷ 4 ∷ 5 ∷ 19 ∷ []
tested k = []

-- a velocity lies in its range, by how its command moves: one that runs at it may go both ways, and
-- others have one of at least 1. MC_MoveVelocity
abbrev pub IsVelocity : Manner → ℤ → ℤ → Type 0
IsVelocity Runs v vmax = IsBetween (neg_ℤ vmax) v vmax
IsVelocity m v vmax = IsBetween (pos 1) v vmax

-- the target of a command, as far as it is known in its call, lies outside the limits, or is one to
-- home to by which the places within them have no counts of 32 bits any more. MC_MoveAbsolute,
-- MC_MoveRelative, MC_MoveAdditive, MC_Home
pub record HasBadTarget (q : Asked) : Type 0 where
  pub target : ℤ
  pub known : known_target_of q.axis q.last q.wanted ≡ Some target
  pub bad :
      (IsBetween q.axis.limits.lo target q.axis.limits.hi → ⊥)
      ⊎ (((profile_of q.wanted.kind).goal ≡ Origin)
      × (HasCounts q.axis.limits (q.axis.offset +ℤ (target -ℤ q.axis.setpoint)) q.axis.inc → ⊥))

-- a command that does not abort finds one active, and eight that wait. BufferMode
pub record FindsNoPlace (q : Asked) : Type 0 where
  pub waits : q.wanted.mode ≢ Aborting
  pub behind : q.axis.active ≢ None
  pub full : q.waiting ≡ 8

-- a gear whose numerator is more than a million in size, or whose denominator is not from 1 to a
-- million. MC_GearIn
abbrev pub HasBadRatio : Follow → Type 0
HasBadRatio (follow.Gear master n d) =
    (IsBetween (neg_ℤ (pos 1000000)) n (pos 1000000) × IsBetween (pos 1) d (pos 1000000)) → ⊥
HasBadRatio f = ⊥

-- a cam of no table: they are numbered from 1. MC_CamIn
abbrev pub HasNoTable : ℕ → Follow → Type 0
HasNoTable tables (follow.Cam master table) = ((1 ≤ table) × (table ≤ tables)) → ⊥
HasNoTable tables f = ⊥

-- a gear or a cam whose master is the axis of this number. MC_GearIn, MC_CamIn
abbrev pub FollowsItself : ℕ → Follow → Type 0
FollowsItself number (follow.Gear master n d) = master ≡ number
FollowsItself number (follow.Cam master table) = master ≡ number
FollowsItself number follow.None = ⊥

-- a GearOut leaves a GearIn, a CamOut a CamIn. MC_GearOut, MC_CamOut
abbrev pub Leaves : BlockKind → BlockKind → Type 0
Leaves kind.GearOut k = k ≡ kind.GearIn
Leaves kind.CamOut k = k ≡ kind.CamIn
Leaves other k = ⊥

-- the condition of an ErrorID
abbrev pub Condition : Asked → ℕ → Type 0
Condition q id =
    Row (id == 1) (q.axis.state ≡ state.Disabled)
    (Row (id == 2) (q.axis.state ≡ state.ErrorStop)
    (Row (id == 3) (q.axis.state ≡ state.Stopping)
    (Row (id == 4) (q.axis.state ≡ state.Homing)
    (Row (id == 5) (q.held ≡ true)
    (Row (id == 6)
    (IsVelocity (profile_of q.wanted.kind).manner q.wanted.rates.v q.axis.limits.vmax → ⊥)
    (Row (id == 7) (IsBetween (pos 1) q.wanted.rates.a q.axis.limits.amax → ⊥)
    (Row (id == 8) (IsBetween (pos 1) q.wanted.rates.d q.axis.limits.dmax → ⊥)
    (Row (id == 9) (q.jerk ≢ pos 0)
    (Row (id == 10) (HasBadTarget q)
    (Row (id == 11) (FindsNoPlace q)
    (Row (id == 12) (q.axis.state ≢ state.Standstill)
    (Row (id == 13) (HasBadRatio q.wanted.follow)
    (Row (id == 14) (HasNoTable q.tables q.wanted.follow)
    (Row (id == 15) (FollowsItself q.number q.wanted.follow)
    (Row (id == 19) ((w : Wanted) → q.axis.active ≡ Some w → Leaves q.wanted.kind w.kind → ⊥)
    ⊥)))))))))))))))
