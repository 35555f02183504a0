-- Steps one after another with no command in between, and where those of a move, a halt and a
-- velocity end. This project's
-- profile.
use Rattle.std.specs.Prelude.{◌≡◌, ◌≢◌, ◌⊎◌, ℕ, ◌+◌, ◌≤◌, suc, pos, ◌-ℤ◌, ◌≤ℤ◌, unsigned_abs}
use Rattle.jerk_core.specs.declared.rates.JerkRates.{JerkRates}
use Rattle.jerk_core.specs.Braking.{way_of}
use Rattle.jerk_core.specs.Admissible.{rates_of}
use Rattle.jerk_core.specs.Rates.{AreRatesWithin, IsKeptBy}
use Rattle.jerk_plan.specs.Wanted.{velocity_of}
use Rattle.otg.specs.declared.generator.Otg.{Otg}
use Rattle.otg.specs.Open.{IsOpen, IsStepOf, limits_of, rates_of_command}
use Rattle.otg.specs.Own.{IsOwnMove, Rises, HasTargetAbove}

-- each generator comes from the one before it by a step
abbrev pub IsRun : (ℕ → Otg) → Type 0
IsRun run = (i : ℕ) → IsStepOf (run i) (run (suc i))

-- the last three setpoints are the target
pub record IsDone (otg : Otg) : Type 0 where
  pub first : otg.first ≡ otg.target
  pub before : otg.before ≡ otg.target
  pub current : otg.current ≡ otg.target

-- the way that is left to the target
abbrev pub way_left_of : Otg → ℕ
way_left_of otg = unsigned_abs (otg.target -ℤ otg.current)

-- the speed of the last cycle
abbrev pub last_of : Otg → ℕ
last_of otg = unsigned_abs (otg.before -ℤ otg.first)

-- and that of this one
abbrev pub speed_of : Otg → ℕ
speed_of otg = unsigned_abs (otg.current -ℤ otg.before)

-- an open generator at rest, with a move by rates within its limits to a target within them
pub record IsMoveFromRest (otg : Otg) : Type 0 where
  pub opened : IsOpen otg
  pub kind : otg.kind ≡ 1
  pub rates : AreRatesWithin (rates_of_command otg) (rates_of (limits_of otg))
  pub above : otg.lo ≤ℤ otg.target
  pub below : otg.target ≤ℤ otg.hi
  pub first : otg.first ≡ otg.current
  pub before : otg.before ≡ otg.current

-- the last three setpoints fall, and the target is no higher; both lie within the limits
pub record FallsToTarget (otg : Otg) : Type 0 where
  pub first : otg.before ≤ℤ otg.first
  pub second : otg.current ≤ℤ otg.before
  pub toward : otg.target ≤ℤ otg.current
  pub within : otg.lo ≤ℤ otg.target
  pub below : otg.current ≤ℤ otg.hi

-- a move by rates within the limits, which heads for its target and can stop before it by its rates
pub record IsUnderWay (otg : Otg) : Type 0 where
  pub own : IsOwnMove otg
  pub heads : (Rises otg × HasTargetAbove otg) ⊎ FallsToTarget otg
  pub kept : IsKeptBy (rates_of_command otg) (way_left_of otg) (last_of otg) (speed_of otg)

-- the last three setpoints are the same
pub record IsAtRest (otg : Otg) : Type 0 where
  pub first : otg.first ≡ otg.current
  pub before : otg.before ≡ otg.current

-- the last three setpoints rise, and by the rates the motion can stop below hi
pub record RisesBy (rates : JerkRates) (otg : Otg) : Type 0 where
  pub rises : Rises otg
  pub kept : IsKeptBy rates (unsigned_abs (otg.hi -ℤ otg.current)) (last_of otg) (speed_of otg)

-- they fall, and by the rates it can stop above lo
pub record FallsBy (rates : JerkRates) (otg : Otg) : Type 0 where
  pub first : otg.before ≤ℤ otg.first
  pub second : otg.current ≤ℤ otg.before
  pub kept : IsKeptBy rates (unsigned_abs (otg.current -ℤ otg.lo)) (last_of otg) (speed_of otg)

-- the rates of a halt: its own d and j, and the limits of speed and of its gain
abbrev pub halt_rates_of : Otg → JerkRates
halt_rates_of otg = record { v = unsigned_abs otg.vmax; a = unsigned_abs otg.amax; d = otg.d; j = otg.j }

-- an open generator with a halt by a d and a j within the limits, by which it can stop within them
pub record IsHalt (otg : Otg) : Type 0 where
  pub opened : IsOpen otg
  pub not_move : otg.kind ≢ 1
  pub not_velocity : otg.kind ≢ 2
  pub rates : AreRatesWithin (halt_rates_of otg) (rates_of (limits_of otg))
  pub heads : RisesBy (halt_rates_of otg) otg ⊎ FallsBy (halt_rates_of otg) otg

-- an open generator with a halt by the limits
pub record IsHaltByLimits (otg : Otg) : Type 0 where
  pub opened : IsOpen otg
  pub not_move : otg.kind ≢ 1
  pub not_velocity : otg.kind ≢ 2
  pub d : otg.d ≡ unsigned_abs otg.dmax
  pub j : otg.j ≡ unsigned_abs otg.jmax

-- the rates of a velocity: its own a, d and j, and the limit of speed
abbrev pub velocity_rates_of : Otg → JerkRates
velocity_rates_of otg = record { v = unsigned_abs otg.vmax; a = otg.a; d = otg.d; j = otg.j }

-- an open generator with a velocity by rates within the limits
pub record IsVelocity (otg : Otg) : Type 0 where
  pub opened : IsOpen otg
  pub kind : otg.kind ≡ 2
  pub rates : AreRatesWithin (velocity_rates_of otg) (rates_of (limits_of otg))

-- the speed that its velocity wants next
abbrev pub next_speed_of : Otg → ℕ
next_speed_of otg = velocity_of (velocity_rates_of otg) (unsigned_abs otg.target) (last_of otg) (speed_of otg)

-- and the way of that cycle and of stopping after it, by the velocity's own rates
abbrev pub next_way_of : Otg → ℕ
next_way_of otg = next_speed_of otg + way_of otg.d otg.j (speed_of otg) (next_speed_of otg)

-- an upward velocity from a motion that rises
pub record IsVelocityUp (otg : Otg) : Type 0 where
  pub command : IsVelocity otg
  pub upward : pos 0 ≤ℤ otg.target
  pub slow : otg.target ≤ℤ otg.vmax
  pub rises : RisesBy (velocity_rates_of otg) otg

-- a downward velocity from a motion that falls
pub record IsVelocityDown (otg : Otg) : Type 0 where
  pub command : IsVelocity otg
  pub downward : otg.target ≤ℤ pos 0
  pub slow : pos (unsigned_abs otg.target) ≤ℤ otg.vmax
  pub falls : FallsBy (velocity_rates_of otg) otg

-- the way fits below hi
abbrev pub HasRoomAbove : Otg → Type 0
HasRoomAbove otg = next_way_of otg ≤ unsigned_abs (otg.hi -ℤ otg.current)

-- and above lo
abbrev pub HasRoomBelow : Otg → Type 0
HasRoomBelow otg = next_way_of otg ≤ unsigned_abs (otg.current -ℤ otg.lo)
