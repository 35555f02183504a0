-- The call is made in a turn, or the kernel is full.
use Rattle.std.proofs.Common.{arith}
use Rattle.motion_plant.proofs.TurnLaws.{call_again, call_came, call_spent, full_cut}
use Rattle.motion_plant.proofs.caller.call_until.Goals as goal

pub returns-in-Made-clause-owns : goal.returns-in-Made-clause-owns
returns-in-Made-clause-owns g c = (call_came _ _ _ _ c.loop.invariant.left c.loop.invariant.owns _ _
    _ _ _ _ _ c.requires.task c.turn_call-answer.ensures.answer c.in-Made.is).owns

pub returns-in-Made-clause-longer : goal.returns-in-Made-clause-longer
returns-in-Made-clause-longer g c =
    let r = call_came _ _ _ _ c.loop.invariant.left c.loop.invariant.owns _ _ _ _ _ _ _
    c.requires.task c.turn_call-answer.ensures.answer c.in-Made.is in
    let a = r.behind in
    let b = r.longer in
    omega arith

pub returns-in-Made-clause-some : goal.returns-in-Made-clause-some
returns-in-Made-clause-some g c =
    let r = call_came _ _ _ _ c.loop.invariant.left c.loop.invariant.owns _ _ _ _ _ _ _
    c.requires.task c.turn_call-answer.ensures.answer c.in-Made.is in
    (r.before, r.made, r.cycles_is, r.late, r.behind, r.longer, r.few)

pub returns-in-Full-clause-owns : goal.returns-in-Full-clause-owns
returns-in-Full-clause-owns g c =
    (call_spent _ _ _ _ c.loop.invariant.left c.loop.invariant.owns _ _ _ _ _ _
    c.turn_call-answer.ensures.answer c.in-Full.is).0

pub returns-in-Full-clause-longer : goal.returns-in-Full-clause-longer
returns-in-Full-clause-longer g c =
    (call_spent _ _ _ _ c.loop.invariant.left c.loop.invariant.owns _ _ _ _ _ _
    c.turn_call-answer.ensures.answer c.in-Full.is).1.longer

pub returns-in-Full-clause-none : goal.returns-in-Full-clause-none
returns-in-Full-clause-none g c =
    (call_spent _ _ _ _ c.loop.invariant.left c.loop.invariant.owns _ _ _ _ _ _
    c.turn_call-answer.ensures.answer c.in-Full.is).1.made

pub returns-in-Full-clause-cut : goal.returns-in-Full-clause-cut
returns-in-Full-clause-cut g c =
    let a = c.turn_call-answer.ensures.answer in
    full_cut _ _ a.0 a.1 _ _ _ _ a.2 c.turn_call-answer.ensures.full c.in-Full.is

pub loop-preserved : goal.loop-preserved
loop-preserved g c =
    let r = call_again _ _ _ _ c.loop.invariant.left c.loop.invariant.owns _ _ _ _ _ _
    c.turn_call-answer.ensures.answer c.in-Early.is in
    record { left = r.1; owns = r.0 }
