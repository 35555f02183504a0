-- Benches that are run to their end. This project's profile.
use Rattle.std.specs.Prelude.{◌≤◌, length}
use Rattle.bench_text.specs.BenchState.{BenchState}
use Rattle.bench_run.specs.Run.{cycles_in, events_in}

-- there are room and cycles enough for all events of a bench
pub record HasRoom (b : BenchState) : Type 0 where
  pub room : length (events_in b) ≤ b.config.entries
  pub cycles : cycles_in (events_in b) ≤ b.config.cycles
