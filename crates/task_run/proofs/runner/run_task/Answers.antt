-- Call by call the run stays under way.
use Rattle.std.proofs.Common.{refl, ◌∙◌}
use Rattle.task_run.proofs.Running.{end-next, refused-stands, way-called, way-first, way-made, way-refused, way-rested, way-stands}
use Rattle.task_run.proofs.runner.run_task.Goals as goal

pub loop-init : goal.loop-init
loop-init g c = record { way = way-first _ _ _ c.requires.opened c.requires.unused; fixed = refl }

pub returns-in_default-clause-ended : goal.returns-in_default-clause-ended
returns-in_default-clause-ended g c =
    let way = c.loop.invariant.way in
    let r = way-refused c.args.program.now c.args.run.now c.loop.run (g.C.Caller.told c.args.caller.now) (g.C.Caller.told c.loop.caller) (g.C.Caller.told c.call.new.self) c.in-Call.instance c.in-Call.inputs
    way (c.in-Call.ensures.next _ way.run_is) c.in_default.ensures.refused in
    (λ h. absurd (cc), λ none. absurd (r.1 none))

pub returns-in_default-clause-stands : goal.returns-in_default-clause-stands
returns-in_default-clause-stands g c =
    let way = c.loop.invariant.way in
    refused-stands c.args.program.now c.args.run.now c.loop.run (g.C.Caller.told c.args.caller.now) (g.C.Caller.told c.loop.caller) (g.C.Caller.told c.call.new.self) c.in-Call.instance c.in-Call.inputs
    way (c.in-Call.ensures.next _ way.run_is) c.in_default.ensures.refused

pub loop-preserved-in-Call : goal.loop-preserved-in-Call
loop-preserved-in-Call g c =
    let way = c.loop.invariant.way in
    record {
      way = way-called c.args.program.now c.args.run.now c.loop.run c.answered.new.self (g.C.Caller.told c.args.caller.now) (g.C.Caller.told c.loop.caller) (g.C.Caller.told c.call.new.self)
          c.in-Call.instance c.in-Call.inputs c.in-Some-call.reply way (c.in-Call.ensures.next _ way.run_is) c.in-Some-call.ensures.made (c.answered.ensures.run _ way.run_is) c.answered.ensures.task;
      fixed = c.in-Some-call.ensures.fixed ∙ c.loop.invariant.fixed;
    }

pub rest-requires : goal.rest-requires
rest-requires g c =
    let way = c.loop.invariant.way in
    record { made = way-made c.args.program.now c.args.run.now c.loop.run (g.C.Caller.told c.args.caller.now) (g.C.Caller.told c.loop.caller) way (c.in-Rest.ensures.next _ way.run_is) }

pub loop-preserved : goal.loop-preserved
loop-preserved g c =
    let way = c.loop.invariant.way in
    record {
      way = way-rested c.args.program.now c.args.run.now c.loop.run c.rested.new.self (g.C.Caller.told c.args.caller.now) (g.C.Caller.told c.loop.caller) (g.C.Caller.told c.rest.new.self)
          way (c.in-Rest.ensures.next _ way.run_is) c.rest.ensures.rests (c.rested.ensures.run _ way.run_is) c.rested.ensures.task;
      fixed = c.rest.ensures.fixed ∙ c.loop.invariant.fixed;
    }

pub returns-in-End-clause-ended : goal.returns-in-End-clause-ended
returns-in-End-clause-ended g c = (λ h. c.in-End.ensures.ended refl _ c.loop.invariant.way.run_is, λ none. refl)

pub returns-in-End-clause-stands : goal.returns-in-End-clause-stands
returns-in-End-clause-stands g c =
    let way = c.loop.invariant.way in
    way-stands c.args.program.now c.args.run.now c.loop.run (g.C.Caller.told c.args.caller.now) (g.C.Caller.told c.loop.caller)
    way (end-next _ (c.in-End.ensures.next _ way.run_is))
