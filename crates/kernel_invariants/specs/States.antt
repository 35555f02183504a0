-- What the states of an axis and of a group say of its error, its hold and its active command
-- (PLCopen Motion Control Part 1 and Part 4, the state diagrams).
use Rattle.std.specs.Prelude.{◌≡◌, ℕ, Bool, true, false}
use Rattle.axis_core.specs.Led.{HasCommand}
use Rattle.axis_core.specs.Shown as axis
use Rattle.axis_core.specs.Shown.{IsAxisError}
use Rattle.axis_core.specs.declared.axis.Axis.{Axis}
use Rattle.group_core.specs.Shown as group
use Rattle.group_core.specs.declared.group.Group.{Group}

-- the number of an error in a state of errors, else 0
abbrev pub IsErrorWhere : Bool → ℕ → Type 0
IsErrorWhere true number = IsAxisError number
IsErrorWhere false number = number ≡ 0

-- an axis is as its state says
pub record AxisIsInState (a : Axis) : Type 0 where
  pub shown : axis.IsShown a
  pub command : HasCommand a

-- a group is
pub record GroupIsInState (g : Group) : Type 0 where
  pub shown : group.IsShown g
  pub number : group.IsErrorOrNone g.error
