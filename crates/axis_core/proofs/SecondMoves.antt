-- The second move after the crossing: it heads for its target, so it never passes it.
-- for: second_targets_are_never_passed
use Rattle.std.proofs.Common.{◌≡◌, ℕ, zero, suc, ◌+◌, ◌-◌, ◌≤◌, ◌<◌, true, ℤ, pos, neg_ℤ, ◌-ℤ◌, ◌≤ℤ◌, unsigned_abs, arith, inl, inr}
use Rattle.std.proofs.lemmas.Int.{ints}
use Rattle.plc_types.specs.declared.limits.Limits.{Limits}
use Rattle.motion_numbers.specs.Laws.{AreWays}
use Rattle.motion_numbers.specs.Run.{run_of}
use Rattle.command_pool.specs.declared.rates.Rates.{Rates}
use Rattle.command_pool.specs.Rates.{AreRates}
use Rattle.trapezoid_plan.specs.MoveRun.{IsHeading, HeadsFor}
use Rattle.blend_plan.specs.Blends.{BlendApplies}
use Rattle.blend_plan.specs.BlendStep.{Crosses}
use Rattle.blend_plan.specs.BlendRun.{has_crossed}
use Rattle.axis_core.specs.SecondMove.{NeverPasses}
use Rattle.axis_core.specs.BlendGiven.{IsUnderWay, AreHeading, AreCrossings}

module _ (heading : AreHeading) where
  -- a move that heads for its target never passes it
  pub never-passes : (n : ℕ) (limits : Limits) (rates : Rates) (target before now : ℤ) → IsUnderWay limits rates target before now →
      HeadsFor rates target before now → NeverPasses n limits rates target before now
  never-passes zero limits rates target before now goes heads = tt
  never-passes (suc n) limits rates target before now goes heads = (
    heading.toward limits rates target before now goes heads,
    never-passes n limits rates target now _ (heading.kept limits rates target before now goes) (heading.heads limits rates target before now goes heads),
  )

module _ (ways : AreWays) where
  open ways use {run_ge, run_unfold}

  -- counted in the direction of the crossing step u, with the second target at l before it
  crossed-heading : (second : Rates) (l1 l u : ℤ) → AreRates second → pos 0 ≤ℤ l1 → l1 ≤ℤ u →
      pos (run_of (unsigned_abs u) (unsigned_abs second.d)) ≤ℤ l → IsHeading second (l -ℤ u) u
  crossed-heading second l1 l u ok first reached run =
      let falls : 0 < unsigned_abs second.d = omega (arith, ints) in
      let short : unsigned_abs u ≤ run_of (unsigned_abs u) (unsigned_abs second.d) = run_ge (unsigned_abs u) (unsigned_abs second.d) falls in
      let parts : run_of (unsigned_abs u) (unsigned_abs second.d) ≡ unsigned_abs u + run_of (unsigned_abs u - unsigned_abs second.d) (unsigned_abs second.d) =
      run_unfold (unsigned_abs u) (unsigned_abs second.d) falls in
      record { way = omega (arith, ints); old_step = omega (arith, ints); run = omega (arith, ints) }

  -- by other names of the distance and the step
  heading-same : (rates : Rates) (l m w v : ℤ) → l ≡ m → w ≡ v → IsHeading rates l w → IsHeading rates m v
  heading-same rates l m w v way speed heads = rw (way, speed) at heads

module _ (ways : AreWays) (crossings : AreCrossings) where
  -- after a crossing the second move heads for its target
  pub crossing-heads : (target1 target2 earlier before now vb : ℤ) (second : Rates) → AreRates second →
      BlendApplies target1 target2 earlier before → has_crossed target1 target2 before second vb (now -ℤ before) ≡ true →
      HeadsFor second target2 before now
  crossing-heads target1 target2 earlier before now vb second ok (inl ahead) crossed =
      let crosses : Crosses (target1 -ℤ before) (target2 -ℤ before) second vb (now -ℤ before) =
      (crossings.upward target1 target2 before vb (now -ℤ before) second (omega (arith, ints, ahead.second))).0 crossed in
      inl (heading-same ways second _ _ _ _ (omega (arith, ints)) (omega (arith, ints))
      (crossed-heading ways second (target1 -ℤ before) (target2 -ℤ before) (now -ℤ before) ok ahead.first crosses.reached crosses.run))
  crossing-heads target1 target2 earlier before now vb second ok (inr ahead) crossed =
      let crosses : Crosses (before -ℤ target1) (before -ℤ target2) second vb (neg_ℤ (now -ℤ before)) =
      (crossings.downward target1 target2 before vb (now -ℤ before) second (omega (arith, ints, ahead.second))).0 crossed in
      inr (heading-same ways second _ _ _ _ (omega (arith, ints)) (omega (arith, ints))
      (crossed-heading ways second (before -ℤ target1) (before -ℤ target2) (neg_ℤ (now -ℤ before)) ok ahead.first crosses.reached crosses.run))
