-- The command's own step, by its kind, from the steps of the last two cycles.
use Rattle.std.proofs.Common.{◌≡◌, ℕ, nat_eq, true, refl, ℤ, to_z, of_z, w64, FitsSigned, to_z-of_z, arith, ◌∙◌}
use Rattle.std.proofs.lemmas.Int.{ints}
use Rattle.motion_numbers.specs.Ranges.{IsStep}
use Rattle.jerk_core.specs.declared.rates.JerkRates.{JerkRates}
use Rattle.jerk_plan.specs.Directed.{IsMoveStep, IsVelocityStep, IsHaltStep}
use Rattle.otg.specs.Open.{rates_of_command}
use Rattle.otg.specs.Open.IsWantedStep.{by_move, by_velocity, by_halt}
use Rattle.otg.proofs.Opens.{target_step}
use Rattle.otg.proofs.stepping.wanted_step.Goals as goal

-- the same step by equal numbers
move_of : (own rates : JerkRates) (distance last speed way w v step result : ℤ) → own ≡ rates → distance ≡ way → last ≡ w → speed ≡ v → result ≡ step →
    IsMoveStep own distance last speed step → IsMoveStep rates way w v result
move_of own rates distance last speed way w v step result same p q r is move = rw is (rw (same, p, q, r) at move)

velocity_of : (own rates : JerkRates) (wanted last speed target w v step result : ℤ) → own ≡ rates → wanted ≡ target → last ≡ w → speed ≡ v → result ≡ step →
    IsVelocityStep own wanted last speed step → IsVelocityStep rates target w v result
velocity_of own rates wanted last speed target w v step result same p q r is velocity = rw is (rw (same, p, q, r) at velocity)

halt_of : (own rates : JerkRates) (last speed w v step result : ℤ) → own ≡ rates → last ≡ w → speed ≡ v → result ≡ step →
    IsHaltStep own last speed step → IsHaltStep rates w v result
halt_of own rates last speed w v step result same q r is halt = rw is (rw (same, q, r) at halt)

-- what is read back is the number
read_back : {x y : ℤ} → FitsSigned w64 x → x ≡ y → to_z w64 (of_z w64 x) ≡ y
read_back fits is = to_z-of_z fits ∙ is

-- the kind is 2
is_2 : (kind : ℕ) → kind ≡ 2 → nat_eq kind 2 ≡ true
is_2 kind is = rw is refl

pub returns-then-otg-eq1-clause-wanted : goal.returns-then-otg-eq1-clause-wanted
returns-then-otg-eq1-clause-wanted g c =
    let way_fits : FitsSigned w64 c.distance.result = record { sfits = c.distance.type_inv } in
    let fits : FitsSigned w64 c.move_step_counted.result = record { sfits = c.move_step_counted.type_inv } in
    by_move (omega arith)
    (move_of c.own_rates-rates.result (rates_of_command c.args.otg.now) _ _ _ _ _ _ c.move_step_counted.result _ c.own_rates-rates.ensures
    (to_z-of_z way_fits ∙ c.distance.ensures.value) (read_back (record { sfits = c.last_step-last.type_inv }) c.last_step-last.ensures.value) (read_back (record { sfits = c.this_step-speed.type_inv }) c.this_step-speed.ensures.value) (to_z-of_z fits) c.move_step_counted.ensures.wanted)

pub returns-then-otg-eq2-clause-wanted : goal.returns-then-otg-eq2-clause-wanted
returns-then-otg-eq2-clause-wanted g c =
    let fits : FitsSigned w64 c.velocity_step.result = record { sfits = c.velocity_step.type_inv } in
    let target : IsStep c.args.otg.now.target = target_step c.args.otg.now c.requires.opened (is_2 _ c.if-otg-eq2.true) in
    by_velocity (omega arith)
    (velocity_of c.own_rates-rates.result (rates_of_command c.args.otg.now) _ _ _ _ _ _ c.velocity_step.result _ c.own_rates-rates.ensures
    (omega (arith, ints))
    (read_back (record { sfits = c.last_step-last.type_inv }) c.last_step-last.ensures.value) (read_back (record { sfits = c.this_step-speed.type_inv }) c.this_step-speed.ensures.value) (to_z-of_z fits) c.velocity_step.ensures.wanted)

pub returns-else-otg-eq2-clause-wanted : goal.returns-else-otg-eq2-clause-wanted
returns-else-otg-eq2-clause-wanted g c =
    let fits : FitsSigned w64 c.halt_step.result = record { sfits = c.halt_step.type_inv } in
    by_halt (λ is. omega arith) (λ is. omega arith)
    (halt_of c.own_rates-rates.result (rates_of_command c.args.otg.now) _ _ _ _ c.halt_step.result _ c.own_rates-rates.ensures
    (read_back (record { sfits = c.last_step-last.type_inv }) c.last_step-last.ensures.value) (read_back (record { sfits = c.this_step-speed.type_inv }) c.this_step-speed.ensures.value) (to_z-of_z fits) c.halt_step.ensures.wanted)
