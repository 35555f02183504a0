-- The steps of an axis, and which of them its commands may want. This project's profile.
use Rattle.std.specs.Prelude.{ℕ, Bool, ◌&&◌, ◌||◌, nat_lt, if◌then◌else◌, ℤ, pos, ◌-ℤ◌, unsigned_abs, Option, Some, None, Result, Ok, Err, is_some}
use Rattle.std.specs.Ordering.{int_eq}
use Rattle.command_pool.specs.declared.ending.Finish.{Finish}
use Rattle.command_pool.specs.declared.ending.Finish.TheVariants as finish
use Rattle.command_pool.specs.declared.wanted.Wanted.{Wanted}
use Rattle.kin_core.specs.Taken.{taken_step_of}
use Rattle.trapezoid_plan.specs.MoveStep.{move_step_of}
use Rattle.trapezoid_plan.specs.VelocityStep.{is_same_sign}
use Rattle.axis_core.specs.declared.axis.Axis.{Axis}

-- the step of the last cycle
abbrev pub old_step_of : Axis → ℤ
old_step_of a = a.setpoint -ℤ a.previous

-- the step that is taken where this one is wanted: the safe one nearest to it
abbrev pub taken_step_in : Axis → ℤ → ℤ
taken_step_in a step = taken_step_of a.limits a.previous a.setpoint step

-- whether a step is safe: it is the one that is taken where it is wanted
abbrev pub is_safe_step : Axis → ℤ → Bool
is_safe_step a step = int_eq (taken_step_in a step) step

-- whether a wanted step brakes: it is smaller than the old one, in its direction or 0
abbrev pub is_braking : ℤ → ℤ → Bool
is_braking old step =
    nat_lt (unsigned_abs step) (unsigned_abs old) && (int_eq step (pos 0) || is_same_sign step old)

-- a wanted step of a command that has no target: error 103, SoftLimit, where it is not safe and
-- brakes not
abbrev pub wish_within_limits : Axis → ℤ → Result ℤ ℕ
wish_within_limits a step =
    if is_braking (old_step_of a) step || is_safe_step a step then Ok step else Err 103

-- a wanted step is taken by the safe one nearest to it; an error stays
abbrev pub step_for_wish : Axis → Result ℤ ℕ → Result ℤ ℕ
step_for_wish a (Ok step) = Ok (taken_step_in a step)
step_for_wish a (Err n) = Err n

-- the move step toward a place, by the rates of a command. PLCopen Motion Control Part 1,
-- MC_MoveAbsolute
abbrev pub step_toward : Axis → ℤ → Wanted → ℤ
step_toward a place w = move_step_of (place -ℤ a.setpoint) (old_step_of a) w.rates

-- the axis at its next setpoint
abbrev pub axis_after_step : ℤ → Axis → Axis
axis_after_step next a = record a { previous = a.setpoint; setpoint = next }

-- a command ends so where this holds
abbrev pub ends_where : Bool → Finish → Option Finish
ends_where holds f = if holds then Some f else None

-- the first command that waits takes over where the active one has reached what it goes for.
-- PLCopen Motion Control Part 1, BufferMode
abbrev pub gives_way : Option Wanted → Bool → Option Finish
gives_way next reached = ends_where (is_some next && reached) finish.Aborted
