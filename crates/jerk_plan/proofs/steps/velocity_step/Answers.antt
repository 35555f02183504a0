-- The speed of the command is that of its sizes.
use Rattle.std.proofs.Common.{◌≡◌, ℕ, ℤ, pos, neg_ℤ, ◌≤ℤ◌, unsigned_abs, w64, FitsSigned, to_z-of_z, refl, ◌∙◌}
use Rattle.motion_numbers.specs.Run.{cut_at_zero}
use Rattle.jerk_core.specs.declared.rates.JerkRates.{JerkRates}
use Rattle.jerk_plan.specs.Wanted.{velocity_of}
use Rattle.jerk_plan.specs.Directed.{HeadsUp, HeadsDown, IsHaltStep, IsVelocityStep}
use Rattle.jerk_plan.specs.Directed.IsVelocityStep.{down, slows}
use Rattle.jerk_plan.proofs.Headings.{fails, down_of}
use Rattle.jerk_plan.proofs.steps.velocity_step.Goals as goal

-- the velocity of equal sizes
same_velocity : (rates : JerkRates) (wanted w v wanted1 w1 v1 : ℕ) → wanted ≡ wanted1 → w ≡ w1 → v ≡ v1 →
    velocity_of rates wanted w v ≡ velocity_of rates wanted1 w1 v1
same_velocity rates wanted w v wanted1 w1 v1 p q r = rw (p, q, r) refl

-- the step of equal speeds
same_size : (x y : ℕ) → x ≡ y → neg_ℤ (pos x) ≡ neg_ℤ (pos y)
same_size x y is = rw is refl

-- the step of a halt that heads neither way
halted : (rates : JerkRates) (wanted last speed step same : ℤ) → step ≡ same → (HeadsUp wanted speed → ⊥) → (wanted ≤ℤ pos 0 → speed ≤ℤ pos 0 → ⊥) →
    IsHaltStep rates last speed same → IsVelocityStep rates wanted last speed step
halted rates wanted last speed step same is not_up not_down halt = rw is (slows not_up (λ heads. not_down heads.wanted_down heads.speed_down) halt)

pub returns-then-heads_down-clause-wanted : goal.returns-then-heads_down-clause-wanted
returns-then-heads_down-clause-wanted c =
    let wanted_fits : FitsSigned w64 c.args.wanted = c.ranges.wanted in
    let last_fits : FitsSigned w64 c.args.last = c.ranges.last in
    let speed_fits : FitsSigned w64 c.args.speed = c.ranges.speed in
    let result_fits : FitsSigned w64 c.opposite.result = record { sfits = c.opposite.type_inv } in
    let wanted : c.unsigned_abs-then-heads_down.result ≡ unsigned_abs c.args.wanted = simp to_z-of_z at c.unsigned_abs-then-heads_down.ensures.value in
    let last : c.downward.result ≡ cut_at_zero (neg_ℤ c.args.last) = simp to_z-of_z at c.downward.ensures.value in
    let speed : c.unsigned_abs-then-heads_down-2.result ≡ unsigned_abs c.args.speed = simp to_z-of_z at c.unsigned_abs-then-heads_down-2.ensures.value in
    let both = c.heads_down.ensures.0 c.if-heads_down.true in
    let not_up = fails _ _ c.heads_up.ensures c.if-heads_up.false in
    let heads : HeadsDown c.args.wanted c.args.speed = simp to_z-of_z at (down_of _ _ not_up both.0 both.1) in
    down heads (to_z-of_z result_fits ∙ (c.opposite.ensures ∙ same_size _ _ (c.velocity_speed-then-heads_down.ensures.value ∙
    same_velocity c.args.rates.now _ _ _ _ _ _ wanted last speed)))

pub returns-else-heads_down-clause-wanted : goal.returns-else-heads_down-clause-wanted
returns-else-heads_down-clause-wanted c =
    let wanted_fits : FitsSigned w64 c.args.wanted = c.ranges.wanted in
    let last_fits : FitsSigned w64 c.args.last = c.ranges.last in
    let speed_fits : FitsSigned w64 c.args.speed = c.ranges.speed in
    let result_fits : FitsSigned w64 c.halt_step.result = record { sfits = c.halt_step.type_inv } in
    let halt : IsHaltStep c.args.rates.now c.args.last c.args.speed c.halt_step.result = simp to_z-of_z at c.halt_step.ensures.wanted in
    let not_up : HeadsUp c.args.wanted c.args.speed → ⊥ = simp to_z-of_z at (fails _ _ c.heads_up.ensures c.if-heads_up.false) in
    let not_down : c.args.wanted ≤ℤ pos 0 × c.args.speed ≤ℤ pos 0 → ⊥ = simp to_z-of_z at (fails _ _ c.heads_down.ensures c.if-heads_down.false) in
    halted c.args.rates.now c.args.wanted c.args.last c.args.speed _ c.halt_step.result (to_z-of_z result_fits) not_up
    (λ wanted speed. not_down (wanted, speed)) halt
