-- The tasks so far were started, each by a permit of its own.
use Rattle.std.proofs.Common.{◌≡◌, ◌≤◌, ◌++◌, map}
use Rattle.std.specs.Prelude.{vec_len, vec_capacity}
use Rattle.std.specs.Arc.{arc_value}
use Rattle.motion_plant.specs.Jobs.{IsSeat, seat_job}
use Rattle.motion_plant.specs.Places.{Each}
use Rattle.motion_plant.proofs.starts.start_tasks.Given as goal

abbrev pub invariant-loop-i : goal.invariant-loop-i
invariant-loop-i g l = record {
  started : l.spawner.jobs ≡ l.fn.spawner.jobs ++ map seat_job l.seats.items;
  seats : Each (λ n s. IsSeat (arc_value l.shared.program.now) l.fn.permit n s.value) l.seats.items;
  permit : l.permit ≡ record l.fn.permit { out = l.i };
  len : vec_len l.seats ≡ l.i;
  capacity : vec_capacity l.fn.seats ≤ vec_capacity l.seats;
  faults : l.spawner.faults ≡ l.fn.spawner.faults;
}
