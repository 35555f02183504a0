-- As many cycles so far as were counted stand in the lines.
use Rattle.std.proofs.Common.{◌≡◌, ◌≤◌, length}
use Rattle.std.specs.Prelude.{vec_len}
use Rattle.motion_plant.specs.Cycling.{IsCycling}
use Rattle.motion_plant.proofs.cycles.run_cycles.Given as goal

abbrev pub invariant-loop : goal.invariant-loop
invariant-loop g l = record {
  cycling : IsCycling l.fn.permit l.fn.lines.items l.room.made l.permit l.lines.items;
  ins : vec_len l.room.ins ≡ length l.fn.permit.config.axes;
  outs : vec_len l.room.outs ≡ length l.fn.permit.config.axes;
  most : l.room.most ≡ l.fn.permit.config.cycles;
  few : l.room.made ≤ l.fn.permit.config.cycles;
}
