-- Which way a command heads, and the steps that it wants there.
-- for: move_step_counted, velocity_step
use Rattle.std.proofs.Common.{◌≡◌, ℤ, pos, ◌+ℤ◌, ◌≤ℤ◌, Bool, IsTrue, ◌↔◌, false, arith}
use Rattle.std.proofs.lemmas.Int.{ints, by_lt_z}
use Rattle.std.proofs.lemmas.Bool.{both_ways}
use Rattle.jerk_plan.specs.Directed.{HeadsUp, HeadsDown}

-- what a test that failed says
pub fails : (b : Bool) (P : Type 0) → IsTrue b ↔ P → b ≡ false → P → ⊥
fails b P iff off p = both_ways b off (iff.1 p)

-- what heads neither up nor up and down heads down
pub down_of : (wanted speed : ℤ) → (HeadsUp wanted speed → ⊥) → wanted ≤ℤ pos 0 → speed ≤ℤ pos 0 → HeadsDown wanted speed
down_of wanted speed not_up wanted_down speed_down = record {
  wanted_down = wanted_down;
  speed_down = speed_down;
  some_down = by_lt_z (wanted +ℤ speed) (pos 0)
      (λ less. omega (arith, ints))
      (λ more. absurd (not_up (record { wanted_up = omega (arith, ints); speed_up = omega (arith, ints) })));
}
