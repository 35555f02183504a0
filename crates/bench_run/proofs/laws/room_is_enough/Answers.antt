-- The law of runs.
use Rattle.bench_run.proofs.EnoughLaws.{all-counted, room-is-enough}
use Rattle.bench_run.proofs.laws.room_is_enough.Goals as goal

pub returns : goal.returns
returns c = record {
  ending = room-is-enough c.cycles_add_up.ensures.more;
  entries = all-counted;
}
