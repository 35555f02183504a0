-- What is read of the trace of a run. This project's profile.
use Rattle.bench_run.specs.Run.{drive_ends}
use Rattle.st_rounds.specs.Cell.{Cell}
use Rattle.st_rounds.specs.LegalRun.{IsLegalRun}
use Rattle.st_rounds.specs.Rounds.{run_of}
use Rattle.trace_check.specs.KeptHistories.{IsReadBack}
use Rattle.trace_text.specs.Trace.{run_version}
use Rattle.trace_text.specs.declared.command.Command.TheVariants.{Run}

-- a run of a machine with its tasks is legal, and its trace is read as that of the machine, the
-- history and the drives
pub record IsTracedRun (c : Cell) : Type 0 where
  pub legal : IsLegalRun c
  pub again : IsReadBack (run_version c.setup) Run c.setup (run_of c).history
      (drive_ends (run_of c))
