-- Why a run of rounds ends before its tasks do. This project's profile.
use Rattle.std.specs.Prelude.{◌≡◌, ◌↔◌, Err, List}
use Rattle.bench_run.specs.Endings.{EndsAt, IsFull, IsOver}
use Rattle.bench_run.specs.Run.{Event, first_run, made_all}
use Rattle.bench_run.specs.declared.bench.RunFault.TheVariants.{CyclesOver, HistoryFull}
use Rattle.machine_drives.specs.Drives.{drives_at_opening}
use Rattle.st_rounds.specs.Cell.{Cell}
use Rattle.st_rounds.specs.Rounds.{run_of}

-- the rounds make these events one after another: the run ends with CyclesOver exactly where one of
-- them, before which all were made, is a cycle and none is left; with HistoryFull exactly where the
-- history is then full and, if it is a cycle, one is left
pub record EndsForItsCause (c : Cell) : Type 0 where
  pub events : List Event
  pub made : run_of c ≡
      made_all c.setup events (first_run (drives_at_opening c.setup.axes c.drives))
  pub over : ((run_of c).ending ≡ Err CyclesOver) ↔
      EndsAt c.setup (first_run (drives_at_opening c.setup.axes c.drives)) events (IsOver c.setup)
  pub full : ((run_of c).ending ≡ Err HistoryFull) ↔
      EndsAt c.setup (first_run (drives_at_opening c.setup.axes c.drives)) events (IsFull c.setup)
