-- The cycle is made in a turn, or none is left, or the kernel is full.
use Rattle.std.proofs.Common.{rules}
use Rattle.motion_plant.proofs.CycleTurns.{cycle_made, cycle_over, cycle_full, cycle_none}
use Rattle.motion_plant.proofs.cycles.cycle_until.Goals as goal

pub returns-in-Made-clause-owns : goal.returns-in-Made-clause-owns
returns-in-Made-clause-owns g c =
    (cycle_made _ _ _ _ _ _ c.loop.invariant.left c.loop.invariant.owns _
    c.turn_cycle.ensures.answer _ _ _ c.in-Made.is).0

pub returns-in-Made-clause-step : goal.returns-in-Made-clause-step
returns-in-Made-clause-step g c =
    (cycle_made _ _ _ _ _ _ c.loop.invariant.left c.loop.invariant.owns _
    c.turn_cycle.ensures.answer _ _ _ c.in-Made.is).2

pub returns-then-cycles-most-clause-owns : goal.returns-then-cycles-most-clause-owns
returns-then-cycles-most-clause-owns g c =
    (cycle_over _ _ _ _ _ _ c.loop.invariant.left c.loop.invariant.owns _
    c.turn_cycle.ensures.answer _ _ _ c.in-Full.is c.requires.most (search rules)).0

pub returns-then-cycles-most-clause-step : goal.returns-then-cycles-most-clause-step
returns-then-cycles-most-clause-step g c =
    let r = cycle_over _ _ _ _ _ _ c.loop.invariant.left c.loop.invariant.owns _
    c.turn_cycle.ensures.answer _ _ _ c.in-Full.is c.requires.most (search rules) in
    (record { made = r.1.made; longer = r.1.longer }, r.3)

pub returns-in-Full-clause-owns : goal.returns-in-Full-clause-owns
returns-in-Full-clause-owns g c =
    (cycle_full _ _ _ _ _ _ c.loop.invariant.left c.loop.invariant.owns _
    c.turn_cycle.ensures.answer _ _ _ c.in-Full.is c.requires.most
    (search rules) c.turn_cycle.ensures.full).0

pub returns-in-Full-clause-step : goal.returns-in-Full-clause-step
returns-in-Full-clause-step g c =
    let r = cycle_full _ _ _ _ _ _ c.loop.invariant.left c.loop.invariant.owns _
    c.turn_cycle.ensures.answer _ _ _ c.in-Full.is c.requires.most
    (search rules) c.turn_cycle.ensures.full in
    (record { made = r.1.made; longer = r.1.longer }, r.3)

pub loop-preserved : goal.loop-preserved
loop-preserved g c =
    let r = cycle_none _ _ _ _ _ _ c.loop.invariant.left c.loop.invariant.owns _
    c.turn_cycle.ensures.answer _ _ c.in-Early.is in
    record { left = r.1; owns = r.0; width = search rules }
