-- The wanted step of a move: a trapezoid in whole steps.
use Rattle.std.specs.Prelude.{◌≡◌, ℕ, ◌+◌, ◌-◌, Bool, ℤ, pos, neg_ℤ, ◌+ℤ◌, ◌-ℤ◌, ◌<ℤ◌, ◌≤ℤ◌, int_lt, int_le, nat_le, ◌&&◌, unsigned_abs, unwrap_or, ◌⊎◌, if◌then◌else◌}
use Rattle.command_pool.specs.declared.rates.Rates.{Rates}
use Rattle.motion_numbers.specs.Run.{run_of}
pub use Rattle.kin_core.specs.Toward.{toward_zero}
use Rattle.motion_numbers.specs.Greatest.{greatest}

-- u may follow the step w on a way of length l, all counted toward the target: it does not turn
-- back, keeps the velocity, is within the deceleration below w and the acceleration above w, and
-- its run by the deceleration fits the way. This project's profile
pub record MayFollow (rates : Rates) (l w u : ℤ) : Type 0 where
  pub ahead : pos 0 ≤ℤ u
  pub velocity : u ≤ℤ rates.v
  pub deceleration : (w -ℤ rates.d) ≤ℤ u
  pub acceleration : u ≤ℤ (w +ℤ rates.a)
  pub run : pos (run_of (unsigned_abs u) (unsigned_abs rates.d)) ≤ℤ l

-- toward a target ahead, u is the greatest step that may follow w; where w goes the other way, or
-- none may, it is w moved by the deceleration toward zero. This project's profile
pub record IsStepAhead (rates : Rates) (l w u : ℤ) : Type 0 where
  pub follows : pos 0 ≤ℤ w → (k : ℤ) → MayFollow rates l w k → MayFollow rates l w u
  pub greatest : pos 0 ≤ℤ w → (k : ℤ) → MayFollow rates l w k → k ≤ℤ u
  pub none : (pos 0 ≤ℤ w → (k : ℤ) → MayFollow rates l w k → ⊥) → u ≡ toward_zero w rates.d

-- u is the move step at the signed distance x and the old step v: counted in the direction of x it
-- is the step ahead, and at the target v moved by the deceleration toward zero. This project's
-- profile: a textbook trapezoid over the rate inputs of PLCopen Motion Control Part 1
pub record IsMoveStep (x v : ℤ) (rates : Rates) (u : ℤ) : Type 0 where
  pub forward : pos 0 <ℤ x → IsStepAhead rates x v u
  pub backward : x <ℤ pos 0 → IsStepAhead rates (neg_ℤ x) (neg_ℤ v) (neg_ℤ u)
  pub there : x ≡ pos 0 → u ≡ toward_zero v rates.d

-- whether u may follow the step w on a way of length l, in sizes. This project's profile
abbrev pub may_follow : Rates → ℕ → ℕ → ℕ → Bool
may_follow rates l w u =
    nat_le u (unsigned_abs rates.v) && nat_le (w - unsigned_abs rates.d) u
    && nat_le u (w + unsigned_abs rates.a) && nat_le (run_of u (unsigned_abs rates.d)) l

-- the size of the step ahead from a step of size w at the distance l. This project's profile
unfoldable pub step_ahead_of : ℕ → ℕ → Rates → ℕ
step_ahead_of l w rates =
    unwrap_or (greatest (unsigned_abs rates.v) (may_follow rates l w)) (w - unsigned_abs rates.d)

-- the move step at the signed distance x and the old step v: in the direction of x the step ahead,
-- else v moved by the deceleration toward zero. This project's profile
unfoldable pub move_step_of : ℤ → ℤ → Rates → ℤ
move_step_of x v rates =
    if int_lt (pos 0) x && int_le (pos 0) v
    then pos (step_ahead_of (unsigned_abs x) (unsigned_abs v) rates)
    else (if int_lt x (pos 0) && int_le v (pos 0)
    then neg_ℤ (pos (step_ahead_of (unsigned_abs x) (unsigned_abs v) rates))
    else toward_zero v rates.d)

-- there is a step that may follow the step w on a way of length l, toward a target ahead. This
-- project's profile
pub record HasStepAhead (rates : Rates) (l w : ℤ) : Type 0 where
  pub way : pos 0 <ℤ l
  pub forward : pos 0 ≤ℤ w
  pub step : ℤ
  pub follows : MayFollow rates l w step

-- the move step is from the steps that may follow, in the direction of x. This project's profile
abbrev pub HasMoveStep : Rates → ℤ → ℤ → Type 0
HasMoveStep rates x v = HasStepAhead rates x v ⊎ HasStepAhead rates (neg_ℤ x) (neg_ℤ v)
