-- Which errors the instances of a history are notified, and what their axes and groups show then
-- (PLCopen Motion Control Part 1 and Part 4, the state diagrams).
use Rattle.std.specs.Prelude.{◌≡◌, ◌≢◌, ◌⊎◌, ℕ, ◌<◌, Bool, true, false, Some, None, List, [], ◌∷◌, length}
use Rattle.axis_state.specs.States as axis
use Rattle.buffer_modes.specs.Owners.{owner_count}
use Rattle.command_core.specs.CommandState.{CommandState, active_of}
use Rattle.command_pool.specs.declared.ending.Finish.TheVariants as finish
use Rattle.command_pool.specs.declared.wanted.Wanted.{Wanted}
use Rattle.group_core.specs.States as group
use Rattle.motion_history.specs.Entries.{Entry, cycle_count}
use Rattle.motion_history.specs.Setup.{Setup}
use Rattle.motion_kernel.specs.Histories.{after}
use Rattle.motion_kernel.specs.Machine.{Machine, axis_at, group_at}
use Rattle.motion_kernel.specs.members.Members.{member_at, members_at}
use Rattle.motion_kernel.specs.owners.Objects.{IsThere, Object, a_group, an_axis}
use Rattle.motion_kernel.specs.owners.Blocks.{command_state_at}
use Rattle.motion_laws.specs.results.Outcomes.{end_of_command}

-- the error of an axis or a group, 0 where it has none
abbrev pub error_at : Machine → Object → ℕ
error_at m (an_axis n) = (axis_at m n).error
error_at m (a_group j) = (group_at m j).group.error

-- whether it is in ErrorStop or in GroupErrorStop
abbrev pub is_stopped_at : Machine → Object → Bool
is_stopped_at m (an_axis n) = axis.is_error_stop (axis_at m n).state
is_stopped_at m (a_group j) = group.is_error_stop (group_at m j).group.state

-- whether an instance has the first command that waits: 1, else 0
abbrev pub waits_first : ℕ → List Wanted → ℕ
waits_first k [] = 0
waits_first k (w ∷ ws) = owner_count k w.owner

-- a command may end by an error: the active one, or the first that waits, by 106, where it takes
-- over. MC_MoveRelative, MC_MoveAdditive; the error is this project's profile
abbrev pub MayFail : ℕ → CommandState → ℕ → Type 0
MayFail k c error = (active_of k c ≡ 1) ⊎ ((waits_first k c.waiting ≡ 1) × (error ≡ 106))

-- an error is that of an axis of a group, unless a Reset of that axis was pending before
pub record IsOfAnAxis (s : Setup) (before now : Machine) (j error : ℕ) : Type 0 where
  pub place : ℕ
  pub there : place < length (members_at s j)
  pub has :
      let n = member_at (members_at s j) place in
      ((axis_at now n).error ≡ error) ⊎ ((axis_at before n).reset ≢ None)

-- the error with which a group comes to GroupErrorStop in a cycle is that of one of its axes
abbrev pub ComesOfAnAxis : Setup → Machine → Entry → Object → Type 0
ComesOfAnAxis s m e (an_axis n) = Unit {0}
ComesOfAnAxis s m e (a_group j) =
    cycle_count e ≡ 1 → is_stopped_at m (a_group j) ≡ false →
    is_stopped_at (after s m e) (a_group j) ≡ true →
    IsOfAnAxis s m (after s m e) j (error_at (after s m e) (a_group j))

-- what an entry says of the errors of an axis or a group
pub record TellsErrors (s : Setup) (m : Machine) (e : Entry) (o : Object) : Type 0 where
  -- an error is reported that the axis or the group then has, or it was reset in the same entry
  pub shown : (k error : ℕ) → end_of_command s m e k o ≡ Some (finish.Error error) →
      (error_at (after s m e) o ≡ error) ⊎ (is_stopped_at (after s m e) o ≡ false)
  -- and it is given the instance whose command may end by it
  pub whose : (k error : ℕ) → end_of_command s m e k o ≡ Some (finish.Error error) →
      MayFail k (command_state_at m o) error
  -- the error stays while the axis or the group is in ErrorStop or in GroupErrorStop
  pub stays : is_stopped_at m o ≡ true → is_stopped_at (after s m e) o ≡ true →
      error_at (after s m e) o ≡ error_at m o
  -- and a group has that of one of its axes
  pub comes : ComesOfAnAxis s m e o

-- so it is of each axis and each group
abbrev pub ErrorsAreTold : Setup → Machine → Entry → Type 0
ErrorsAreTold s m e = (o : Object) → IsThere m o → TellsErrors s m e o
