-- An act leads on, and after the code the run stops.
use Rattle.std.proofs.Common.{◌∙◌, ap, sym, Some}
use Rattle.st_exec.proofs.Walking.{advances_on, may_go_on, past_code}
use Rattle.st_exec.proofs.walk.walk.Goals as goal

pub loop-place-preserved : goal.loop-place-preserved
loop-place-preserved c = (
  may_go_on c.args.cycle_us c.args.code.now c.loop-place.place c.perform-passed.result
      c.place_behind-place.result c.in-Some-Do.act c.loop-place.machine c.perform-passed.new.self
      (sym c.in-Some-Do.ensures ∙ ap (λ x. Some x) c.in-Some-Do.field-0-is)
      c.perform-passed.ensures c.loop-place.invariant.0
      c.place_behind-place.ensures,
  advances_on c.args.cycle_us c.args.code.now c.args.place c.loop-place.place
      c.perform-passed.result c.place_behind-place.result c.in-Some-Do.act c.args.machine.now
      c.loop-place.machine c.perform-passed.new.self (sym c.in-Some-Do.ensures ∙ ap (λ x. Some x) c.in-Some-Do.field-0-is)
      c.perform-passed.ensures
      c.loop-place.invariant.0 c.place_behind-place.ensures c.loop-place.invariant.1,
)

pub returns-in-None-clause-stops : goal.returns-in-None-clause-stops
returns-in-None-clause-stops c = past_code c.args.code.now c.loop-place.place (sym c.in-None.ensures)
