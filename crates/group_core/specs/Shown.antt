-- What a group shows of its errors and of its GroupStop.
use Rattle.std.specs.Prelude.{◌≡◌, ◌≢◌, ℕ, ◌≤◌, true, false, None}
use Rattle.group_core.specs.States.{is_error_stop, is_stopping}
use Rattle.group_core.specs.declared.group.Group.{Group}

-- the number of a group's error, which is that of one of its axes. This project's profile
pub record IsGroupError (error : ℕ) : Type 0 where
  pub least : 101 ≤ error
  pub most : error ≤ 106

-- such a number, or 0 where there is no error
abbrev pub IsErrorOrNone : ℕ → Type 0
IsErrorOrNone error = error ≢ 0 → IsGroupError error

-- an error is there exactly in GroupErrorStop, and an instance holds GroupStopping only there.
-- PLCopen Motion Control Part 4, the state diagram
pub record IsShown (g : Group) : Type 0 where
  pub stopped : is_error_stop g.state ≡ true → g.error ≢ 0
  pub clear : is_error_stop g.state ≡ false → g.error ≡ 0
  pub held : is_stopping g.state ≡ false → g.hold ≡ None
