-- The setpoint is the taken step further.
use Rattle.std.proofs.Common.{◌≡◌, ℤ, arith}
use Rattle.std.proofs.lemmas.Int.{ints}
use Rattle.motion_numbers.specs.Ranges.{IsPlace, IsStep}
use Rattle.otg.specs.declared.generator.Otg.{Otg}
use Rattle.otg.specs.Open.{IsStepTaken}
use Rattle.otg.proofs.Opens.{current_place}
use Rattle.otg.proofs.stepping.next_setpoint.Goals as goal

-- the same step
taken_at : (otg : Otg) (step same : ℤ) → same ≡ step → IsStepTaken otg step → IsStepTaken otg same
taken_at otg step same is taken = rw is taken

pub returns-clause-taken : goal.returns-clause-taken
returns-clause-taken g c =
    let here : IsPlace c.args.otg.now.current = current_place c.args.otg.now c.requires.opened in
    let small : IsStep c.taken_step.result = c.taken_step.ensures.small in
    taken_at c.args.otg.now c.taken_step.result _ (omega (arith, ints, c.moved.ensures)) c.taken_step.ensures.taken
