-- What an axis shows of its errors and of its Stop.
use Rattle.std.specs.Prelude.{◌≡◌, ℕ, ◌≤◌, true, false, Option, None}
use Rattle.plc_types.specs.declared.axis_state.AxisState.{AxisState}
use Rattle.axis_state.specs.States.{is_error_stop, is_stopping}
use Rattle.axis_core.specs.declared.axis.Axis.{Axis}

-- the number of an axis error. This project's profile
pub record IsAxisError (error : ℕ) : Type 0 where
  pub least : 101 ≤ error
  pub most : error ≤ 106

-- an error is there exactly in ErrorStop, and an instance holds Stopping only there. PLCopen Motion
-- Control Part 1, the state diagram
pub record AreShown (s : AxisState) (error : ℕ) (hold : Option ℕ) : Type 0 where
  pub stopped : is_error_stop s ≡ true → IsAxisError error
  pub clear : is_error_stop s ≡ false → error ≡ 0
  pub held : is_stopping s ≡ false → hold ≡ None

-- an axis shows its state truly. This project's profile
abbrev pub IsShown : Axis → Type 0
IsShown a = AreShown a.state a.error a.hold
