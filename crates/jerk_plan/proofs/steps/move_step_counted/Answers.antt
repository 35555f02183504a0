-- The speed of the move is that of its sizes.
use Rattle.std.proofs.Common.{◌≡◌, ℕ, ℤ, pos, neg_ℤ, ◌≤ℤ◌, unsigned_abs, w64, FitsSigned, to_z-of_z, ◌∙◌}
use Rattle.motion_numbers.specs.Run.{cut_at_zero}
use Rattle.jerk_core.specs.declared.rates.JerkRates.{JerkRates}
use Rattle.jerk_plan.specs.Wanted.{IsSpeedOfMove}
use Rattle.jerk_plan.specs.Directed.{HeadsUp, HeadsDown, IsHaltStep, IsMoveStep}
use Rattle.jerk_plan.specs.Directed.IsMoveStep.{up, down, slows}
use Rattle.jerk_plan.proofs.Headings.{fails, down_of}
use Rattle.jerk_plan.proofs.steps.move_step_counted.Goals as goal

-- the speed of equal sizes
same_speed : (rates : JerkRates) (l w v x l1 w1 v1 : ℕ) → l ≡ l1 → w ≡ w1 → v ≡ v1 → IsSpeedOfMove rates l w v x → IsSpeedOfMove rates l1 w1 v1 x
same_speed rates l w v x l1 w1 v1 p q r speed = rw (p, q, r) at speed

-- the step of a halt that heads neither way
halted : (rates : JerkRates) (distance last speed step same : ℤ) → step ≡ same → (HeadsUp distance speed → ⊥) → (distance ≤ℤ pos 0 → speed ≤ℤ pos 0 → ⊥) →
    IsHaltStep rates last speed same → IsMoveStep rates distance last speed step
halted rates distance last speed step same is not_up not_down halt = rw is (slows not_up (λ heads. not_down heads.wanted_down heads.speed_down) halt)

pub returns-then-heads_up-clause-wanted : goal.returns-then-heads_up-clause-wanted
returns-then-heads_up-clause-wanted g c =
    let distance_fits : FitsSigned w64 c.args.distance = c.ranges.distance in
    let last_fits : FitsSigned w64 c.args.last = c.ranges.last in
    let speed_fits : FitsSigned w64 c.args.speed = c.ranges.speed in
    let result_fits : FitsSigned w64 c.signed.result = record { sfits = c.signed.type_inv } in
    let way : c.unsigned_abs.result ≡ unsigned_abs c.args.distance = simp to_z-of_z at c.unsigned_abs.ensures.value in
    let last : c.upward.result ≡ cut_at_zero c.args.last = simp to_z-of_z at c.upward.ensures.value in
    let speed : c.unsigned_abs-then-heads_up.result ≡ unsigned_abs c.args.speed = simp to_z-of_z at c.unsigned_abs-then-heads_up.ensures.value in
    let heads : HeadsUp c.args.distance c.args.speed = simp to_z-of_z at (c.heads_up.ensures.0 c.if-heads_up.true) in
    up c.move_speed.result heads (to_z-of_z result_fits ∙ c.signed.ensures)
    (same_speed c.args.rates.now c.unsigned_abs.result c.upward.result c.unsigned_abs-then-heads_up.result c.move_speed.result _ _ _ way last speed c.move_speed.ensures.wanted)

pub returns-then-heads_down-clause-wanted : goal.returns-then-heads_down-clause-wanted
returns-then-heads_down-clause-wanted g c =
    let distance_fits : FitsSigned w64 c.args.distance = c.ranges.distance in
    let last_fits : FitsSigned w64 c.args.last = c.ranges.last in
    let speed_fits : FitsSigned w64 c.args.speed = c.ranges.speed in
    let result_fits : FitsSigned w64 c.opposite.result = record { sfits = c.opposite.type_inv } in
    let way : c.unsigned_abs-then-heads_down.result ≡ unsigned_abs c.args.distance = simp to_z-of_z at c.unsigned_abs-then-heads_down.ensures.value in
    let last : c.downward.result ≡ cut_at_zero (neg_ℤ c.args.last) = simp to_z-of_z at c.downward.ensures.value in
    let speed : c.unsigned_abs-then-heads_down-2.result ≡ unsigned_abs c.args.speed = simp to_z-of_z at c.unsigned_abs-then-heads_down-2.ensures.value in
    let both = c.heads_down.ensures.0 c.if-heads_down.true in
    let not_up = fails _ _ c.heads_up.ensures c.if-heads_up.false in
    let heads : HeadsDown c.args.distance c.args.speed = simp to_z-of_z at (down_of _ _ not_up both.0 both.1) in
    down c.move_speed-then-heads_down.result heads (to_z-of_z result_fits ∙ c.opposite.ensures)
    (same_speed c.args.rates.now c.unsigned_abs-then-heads_down.result c.downward.result c.unsigned_abs-then-heads_down-2.result
    c.move_speed-then-heads_down.result _ _ _ way last speed c.move_speed-then-heads_down.ensures.wanted)

pub returns-else-heads_down-clause-wanted : goal.returns-else-heads_down-clause-wanted
returns-else-heads_down-clause-wanted g c =
    let distance_fits : FitsSigned w64 c.args.distance = c.ranges.distance in
    let last_fits : FitsSigned w64 c.args.last = c.ranges.last in
    let speed_fits : FitsSigned w64 c.args.speed = c.ranges.speed in
    let result_fits : FitsSigned w64 c.halt_step.result = record { sfits = c.halt_step.type_inv } in
    let halt : IsHaltStep c.args.rates.now c.args.last c.args.speed c.halt_step.result = simp to_z-of_z at c.halt_step.ensures.wanted in
    let not_up : HeadsUp c.args.distance c.args.speed → ⊥ = simp to_z-of_z at (fails _ _ c.heads_up.ensures c.if-heads_up.false) in
    let not_down : c.args.distance ≤ℤ pos 0 × c.args.speed ≤ℤ pos 0 → ⊥ = simp to_z-of_z at (fails _ _ c.heads_down.ensures c.if-heads_down.false) in
    halted c.args.rates.now c.args.distance c.args.last c.args.speed _ c.halt_step.result (to_z-of_z result_fits) not_up
    (λ way speed. not_down (way, speed)) halt
