-- A safe setpoint keeps it open.
use Rattle.std.proofs.Common.{◌≡◌, to_z, of_z, w64, FitsSigned, to_z-of_z, refl}
use Rattle.otg.specs.Open.{shifted_of}
use Rattle.otg.proofs.Opens.{open_after, taken_safe, step_after}
use Rattle.otg.proofs.stepping.step_by_any.Goals as goal

pub next_setpoint-setpoint-requires : goal.next_setpoint-setpoint-requires
next_setpoint-setpoint-requires g c = record { opened = c.is_open_counted.ensures.value.0 c.if-not-is_open_counted.false }

pub returns-clause-code : goal.returns-clause-code
returns-clause-code g c = (λ done. c.is_open_counted.ensures.value.0 c.if-not-is_open_counted.false, λ ok. refl)

pub returns-clause-opened : goal.returns-clause-opened
returns-clause-opened g c = λ ok.
    let fits : FitsSigned w64 c.next_setpoint-setpoint.result = record { sfits = c.next_setpoint-setpoint.type_inv } in
    let same : to_z w64 (of_z w64 c.next_setpoint-setpoint.result) ≡ c.next_setpoint-setpoint.result = to_z-of_z fits in
    let is : c.shifted-next.result ≡ shifted_of c.args.otg.now c.next_setpoint-setpoint.result = rw same at c.shifted-next.ensures in
    open_after c.args.otg.now c.shifted-next.result c.next_setpoint-setpoint.result (c.is_open_counted.ensures.value.0 c.if-not-is_open_counted.false)
    (taken_safe c.args.otg.now c.next_setpoint-setpoint.result c.next_setpoint-setpoint.ensures.taken) is

pub returns-clause-step : goal.returns-clause-step
returns-clause-step g c = λ ok.
    let fits : FitsSigned w64 c.next_setpoint-setpoint.result = record { sfits = c.next_setpoint-setpoint.type_inv } in
    let same : to_z w64 (of_z w64 c.next_setpoint-setpoint.result) ≡ c.next_setpoint-setpoint.result = to_z-of_z fits in
    let is : c.shifted-next.result ≡ shifted_of c.args.otg.now c.next_setpoint-setpoint.result = rw same at c.shifted-next.ensures in
    step_after c.args.otg.now c.shifted-next.result c.next_setpoint-setpoint.result c.next_setpoint-setpoint.ensures.taken is
