-- It was tested; the setpoint is the caller's.
use Rattle.std.proofs.Common.{◌≡◌, to_z, of_z, w64, to_z-of_z, refl}
use Rattle.otg.specs.Open.{IsOpen, resting_of}
use Rattle.otg.proofs.opening.otg_open.Goals as goal

pub returns-clause-opened : goal.returns-clause-opened
returns-clause-opened c = λ ok. c.is_open.ensures.0 c.if-not-is_open.false

pub returns-clause-code : goal.returns-clause-code
returns-clause-code c =
    let same : to_z w64 (of_z w64 c.args.setpoint) ≡ c.args.setpoint = to_z-of_z c.ranges.setpoint in
    let opened : IsOpen c.resting-resting.result = c.is_open.ensures.0 c.if-not-is_open.false in
    let open_there : IsOpen (resting_of c.args.otg.now c.args.setpoint) = rw (rw same at c.resting-resting.ensures) at opened in
    (λ done. open_there, λ ok. refl)
