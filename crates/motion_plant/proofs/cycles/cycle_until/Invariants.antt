-- As long as a task is quiet, no cycle is made.
use Rattle.std.proofs.Common.{◌≡◌, length}
use Rattle.motion_plant.specs.Makers.{IsUpTo, Owns}
use Rattle.motion_plant.proofs.TurnLaws.{LeavesAll}
use Rattle.motion_plant.proofs.cycles.cycle_until.Given as goal

abbrev pub invariant-loop : goal.invariant-loop
invariant-loop g l = record {
  left : LeavesAll l.fn.permit l.permit;
  owns : Owns (IsUpTo l.fn.permit.config 0) l.permit.own l.permit.seen;
  width : length l.outs ≡ length l.fn.outs;
}
