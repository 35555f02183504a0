-- As long as a call comes too early, nothing is made.
use Rattle.motion_plant.specs.Makers.{IsBy, Owns}
use Rattle.motion_plant.proofs.TurnLaws.{LeavesAll}
use Rattle.motion_plant.proofs.caller.call_until.Given as goal

abbrev pub invariant-loop : goal.invariant-loop
invariant-loop g l = record {
  left : LeavesAll l.fn.permit l.permit;
  owns : Owns (IsBy l.fn.permit.config l.turns.task) l.permit.own l.permit.seen;
}
