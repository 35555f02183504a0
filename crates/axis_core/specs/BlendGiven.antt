-- What the laws of moves and of blends say, as far as the laws of both need it.
use Rattle.std.specs.Prelude.{◌≡◌, ◌↔◌, ◌⊎◌, ◌+◌, ◌-◌, ◌/◌, ◌≤◌, true, false, ℤ, pos, neg_ℤ, ◌+ℤ◌, ◌-ℤ◌, ◌<ℤ◌, ◌≤ℤ◌, unsigned_abs}
use Rattle.plc_types.specs.declared.limits.Limits.{Limits}
use Rattle.plc_types.specs.Limits.{AreLimits}
use Rattle.kin_core.specs.Admissible.{IsKept}
use Rattle.kin_core.specs.Toward.{IsTowards}
use Rattle.motion_numbers.specs.declared.TheConstants.{MOST_WAY}
use Rattle.command_pool.specs.declared.rates.Rates.{Rates}
use Rattle.command_pool.specs.Rates.{AreRates}
use Rattle.trapezoid_plan.specs.CyclesBound.{cycles_bound_of}
use Rattle.trapezoid_plan.specs.MoveRun.{IsMoveWithin, HeadsFor, HeadsAway, IsDoneWithin, move_taken_of}
use Rattle.blend_plan.specs.Blends.{LieAhead, BlendApplies, blend_applies}
use Rattle.blend_plan.specs.BlendStep.{Crosses}
use Rattle.blend_plan.specs.BlendRun.{IsBlendWithin, HasBlend, SettlesWithin, CrossesWithin, blend_taken_of, has_crossed}

-- what a move is under way with
pub record IsUnderWay (limits : Limits) (rates : Rates) (target before now : ℤ) : Type 0 where
  pub limits_ok : AreLimits limits
  pub rates_ok : AreRates rates
  pub within : IsMoveWithin limits rates target
  pub kept : IsKept limits before now

-- what two moves are under way with
pub record AreUnderWay (limits : Limits) (target1 target2 before now : ℤ) (first second : Rates)
    (vb : ℤ) : Type 0 where
  pub limits_ok : AreLimits limits
  pub first_ok : AreRates first
  pub second_ok : AreRates second
  pub within : IsBlendWithin limits target1 target2 first second vb
  pub kept : IsKept limits before now
  pub room : (limits.hi -ℤ limits.lo) ≤ℤ pos MOST_WAY

-- of a move toward its target
pub record AreHeading : Type 0 where
  pub toward : (limits : Limits) (rates : Rates) (target before now : ℤ) →
      IsUnderWay limits rates target before now →
      HeadsFor rates target before now →
      IsTowards target now (now +ℤ move_taken_of limits rates target before now)
  pub heads : (limits : Limits) (rates : Rates) (target before now : ℤ) →
      IsUnderWay limits rates target before now →
      HeadsFor rates target before now →
      HeadsFor rates target now (now +ℤ move_taken_of limits rates target before now)
  pub kept : (limits : Limits) (rates : Rates) (target before now : ℤ) →
      IsUnderWay limits rates target before now →
      IsUnderWay limits rates target now (now +ℤ move_taken_of limits rates target before now)

-- of a move by itself
pub record AreMoves : Type 0 where
  pub heading : AreHeading
  pub arrives : (limits : Limits) (rates : Rates) (target before now : ℤ) →
      IsUnderWay limits rates target before now →
      (limits.hi -ℤ limits.lo) ≤ℤ pos MOST_WAY →
      IsDoneWithin (cycles_bound_of (target -ℤ now) (now -ℤ before) rates) limits rates target
      before now
  pub grows : (x y v w : ℤ) (rates : Rates) → AreRates rates → unsigned_abs x ≤ unsigned_abs y →
      unsigned_abs v ≤ unsigned_abs w →
      cycles_bound_of x v rates ≤ cycles_bound_of y w rates
  pub forward : (limits : Limits) (rates : Rates) (target before now : ℤ) →
      IsUnderWay limits rates target before now →
      HeadsAway target before now → before ≤ℤ now →
      pos 0 ≤ℤ move_taken_of limits rates target before now
  pub backward : (limits : Limits) (rates : Rates) (target before now : ℤ) →
      IsUnderWay limits rates target before now →
      HeadsAway target before now → now ≤ℤ before →
      move_taken_of limits rates target before now ≤ℤ pos 0

-- of a blend
pub record AreBlends : Type 0 where
  pub by_test : (target1 target2 before now : ℤ) →
      (blend_applies target1 target2 before now ≡ true) ↔ BlendApplies target1 target2 before now
  pub settles : (limits : Limits) (target1 target2 before now : ℤ) (first second : Rates) (vb : ℤ) →
      AreUnderWay limits target1 target2 before now first second vb →
      SettlesWithin (unsigned_abs (now -ℤ before) / unsigned_abs first.d + 1) limits target1
      target2 before now first second vb
  pub brakes : (limits : Limits) (target1 target2 before now : ℤ) (first second : Rates) (vb : ℤ) →
      AreUnderWay limits target1 target2 before now first second vb →
      BlendApplies target1 target2 before now →
      HasBlend target1 target2 before now first second vb
      ⊎ (unsigned_abs (blend_taken_of limits target1 target2 before now first second vb) ≤
      unsigned_abs (now -ℤ before) - unsigned_abs first.d)
  pub persists : (limits : Limits) (target1 target2 before now : ℤ) (first second : Rates) (vb : ℤ)
      →
      AreUnderWay limits target1 target2 before now first second vb →
      HasBlend target1 target2 before now first second vb →
      has_crossed target1 target2 now second vb (blend_taken_of limits target1 target2 before now
      first second vb) ≡ false →
      HasBlend target1 target2 now (now +ℤ blend_taken_of limits target1 target2 before now first
      second vb) first second vb
  pub crosses : (limits : Limits) (target1 target2 before now : ℤ) (first second : Rates) (vb : ℤ) →
      AreUnderWay limits target1 target2 before now first second vb →
      HasBlend target1 target2 before now first second vb →
      CrossesWithin (unsigned_abs (target1 -ℤ now) + 1) limits target1 target2 before now first
      second vb
  pub upward : (limits : Limits) (target1 target2 before now : ℤ) (first second : Rates) (vb : ℤ) →
      AreUnderWay limits target1 target2 before now first second vb →
      LieAhead (target1 -ℤ now) (target2 -ℤ now) (now -ℤ before) →
      pos 0 ≤ℤ blend_taken_of limits target1 target2 before now first second vb
  pub downward : (limits : Limits) (target1 target2 before now : ℤ) (first second : Rates) (vb : ℤ)
      →
      AreUnderWay limits target1 target2 before now first second vb →
      LieAhead (now -ℤ target1) (now -ℤ target2) (before -ℤ now) →
      blend_taken_of limits target1 target2 before now first second vb ≤ℤ pos 0
  pub kept : (limits : Limits) (target1 target2 before now : ℤ) (first second : Rates) (vb : ℤ) →
      AreUnderWay limits target1 target2 before now first second vb →
      AreUnderWay limits target1 target2 now (now +ℤ blend_taken_of limits target1 target2 before
      now first second vb) first second vb

-- of a crossing step
pub record AreCrossings : Type 0 where
  pub upward : (target1 target2 now vb step : ℤ) (second : Rates) → target1 <ℤ target2 →
      (has_crossed target1 target2 now second vb step ≡ true) ↔ Crosses (target1 -ℤ now) (target2
      -ℤ now) second vb step
  pub downward : (target1 target2 now vb step : ℤ) (second : Rates) → target2 ≤ℤ target1 →
      (has_crossed target1 target2 now second vb step ≡ true) ↔ Crosses (now -ℤ target1) (now -ℤ
      target2) second vb (neg_ℤ step)
