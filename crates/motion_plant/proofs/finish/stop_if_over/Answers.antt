-- A stop after the last cycle makes no entry.
use Rattle.std.proofs.Common.{subst, sym}
use Rattle.motion_plant.specs.Cycling.{IsCycled}
use Rattle.motion_plant.specs.Joined.{IsStopped}
use Rattle.motion_plant.proofs.JoinedPasses.{stopped_not, stopped_over}
use Rattle.motion_plant.proofs.finish.stop_if_over.Goals as goal

pub returns-in-Over-clause-stopped : goal.returns-in-Over-clause-stopped
returns-in-Over-clause-stopped g c = λ first ls lines cycled.
    let s = c.turn_stop.ensures.stopped in
    subst (λ x. IsStopped first ls c.turn_stop.new.permit lines x) (sym c.in-Over.is)
    (stopped_over first ls c.args.permit.now c.turn_stop.new.permit lines s.0
    (subst (λ x. IsCycled first ls c.args.permit.now lines x) c.in-Over.is cycled) s.1 s.2
    c.turn_stop.ensures.lawful)

pub returns-in-Done-clause-stopped : goal.returns-in-Done-clause-stopped
returns-in-Done-clause-stopped g c = λ first ls lines cycled.
    let d = c.in-Done.is in
    stopped_not first ls c.args.permit.now lines c.args.ending cycled (λ e. absurd (cc))

pub returns-in-Full-clause-stopped : goal.returns-in-Full-clause-stopped
returns-in-Full-clause-stopped g c = λ first ls lines cycled.
    let d = c.in-Full.is in
    stopped_not first ls c.args.permit.now lines c.args.ending cycled (λ e. absurd (cc))
