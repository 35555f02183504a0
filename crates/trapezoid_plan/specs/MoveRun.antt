-- The run of taken steps while a move or a halt is active.
use Rattle.std.specs.Prelude.{◌≡◌, ℕ, ◌-◌, zero, suc, ℤ, pos, ◌+ℤ◌, ◌-ℤ◌, ◌<ℤ◌, ◌≤ℤ◌, unsigned_abs, ◌⊎◌}
use Rattle.plc_types.specs.declared.limits.Limits.{Limits}
use Rattle.kin_core.specs.Taken.{taken_step_of}
use Rattle.kin_core.specs.Toward.{toward_zero}
use Rattle.motion_numbers.specs.Run.{run_of}
use Rattle.command_pool.specs.declared.rates.Rates.{Rates}
use Rattle.trapezoid_plan.specs.MoveStep.{move_step_of}

-- the target lies within lo and hi, and the rates are at most those of the limits. This project's
-- profile
pub record IsMoveWithin (limits : Limits) (rates : Rates) (target : ℤ) : Type 0 where
  pub above : limits.lo ≤ℤ target
  pub below : target ≤ℤ limits.hi
  pub velocity : rates.v ≤ℤ limits.vmax
  pub acceleration : rates.a ≤ℤ limits.amax
  pub deceleration : rates.d ≤ℤ limits.dmax

-- the taken step of a move to the target: the safe step nearest to the move step. This project's
-- profile
unfoldable pub move_taken_of : Limits → Rates → ℤ → ℤ → ℤ → ℤ
move_taken_of limits rates target before now =
    taken_step_of limits before now (move_step_of (target -ℤ now) (now -ℤ before) rates)

-- within n cycles the move is done: in one of them the axis stands at the target and the taken step
-- is 0. This project's profile
abbrev pub IsDoneWithin : ℕ → Limits → Rates → ℤ → ℤ → ℤ → Type 0
IsDoneWithin zero limits rates target before now = ⊥
IsDoneWithin (suc n) limits rates target before now =
    ((now ≡ target) × (move_taken_of limits rates target before now ≡ pos 0))
    ⊎ IsDoneWithin n limits rates target now (now +ℤ move_taken_of limits rates target before now)

-- counted toward the target, it lies at the distance l ahead, the old step w doesn't lead away from
-- it, and the run from w slowed once fits the distance. This project's profile
pub record IsHeading (rates : Rates) (l w : ℤ) : Type 0 where
  pub way : pos 0 ≤ℤ l
  pub old_step : pos 0 ≤ℤ w
  pub run : pos (run_of (unsigned_abs w - unsigned_abs rates.d) (unsigned_abs rates.d)) ≤ℤ l

-- a move heads for its target: it can slow onto it from where it goes. This project's profile
abbrev pub HeadsFor : Rates → ℤ → ℤ → ℤ → Type 0
HeadsFor rates target before now =
    IsHeading rates (target -ℤ now) (now -ℤ before) ⊎ IsHeading rates (now -ℤ target) (before -ℤ now)

-- a move heads away: the last step led away from the target, or from a setpoint at it. This
-- project's profile
abbrev pub HeadsAway : ℤ → ℤ → ℤ → Type 0
HeadsAway target before now =
    ((target ≤ℤ now) × (before <ℤ now)) ⊎ ((now ≤ℤ target) × (now <ℤ before))

-- the taken step of a halt: the safe step nearest to the old one moved by d toward zero. This
-- project's profile
unfoldable pub halt_taken_of : Limits → ℤ → ℤ → ℤ → ℤ
halt_taken_of limits d before now = taken_step_of limits before now (toward_zero (now -ℤ before) d)

-- within n cycles the halt comes to rest: in one of them the taken step is 0. This project's
-- profile
abbrev pub IsAtRestWithin : ℕ → Limits → ℤ → ℤ → ℤ → Type 0
IsAtRestWithin zero limits d before now = ⊥
IsAtRestWithin (suc n) limits d before now =
    (halt_taken_of limits d before now ≡ pos 0)
    ⊎ IsAtRestWithin n limits d now (now +ℤ halt_taken_of limits d before now)
