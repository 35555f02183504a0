-- What is read of what was written. This project's profile.
use Rattle.std.specs.Prelude.{◌≡◌, ◌+◌, ℕ, Option, List}
use Rattle.bench_job.specs.Again.{version_of}
use Rattle.bench_job.specs.Headline.{Headline}
use Rattle.job_ends.specs.declared.status.Status.{Status}
use Rattle.outside.specs.Told.{FileMap}
use Rattle.run_job.specs.Headline.{RunHeadline}
use Rattle.st_job.specs.Headline.{StHeadline}
use Rattle.trace_check.specs.Legal.{IsLegalTrace}
use Rattle.trace_text.specs.Trace.{run_version, trace_version}
use Rattle.trace_text.specs.Writable.{found_trace}
use Rattle.trace_text.specs.declared.command.Command.TheVariants.{Bench, Run}

-- what is read of the trace of a bench is a legal trace
abbrev pub BenchTracesAreLegal : Type 0
BenchTracesAreLegal = (files : Option FileMap) (name : List ℕ) (old new : Option (List ℕ))
    (h : Headline files name old new) →
    IsLegalTrace (found_trace (version_of h.bench) Bench h.bench.config h.history h.drives)

-- what is read of the trace of a run is a legal trace, however many jobs were there before and
-- after
abbrev pub RunTracesAreLegal : Type 0
RunTracesAreLegal = (files : Option FileMap) (config program : List ℕ) (old new : Option (List ℕ))
    (before after : ℕ) (s : Status)
    (h : RunHeadline files config program old new (λ n. after ≡ before + n) s) →
    IsLegalTrace (found_trace (trace_version h.machine.version h.setup) Run h.setup h.history h.drives)

-- and so is what is read of the trace of tasks in Structured Text
abbrev pub StTracesAreLegal : Type 0
StTracesAreLegal = (files : Option FileMap) (config program : List ℕ) (old new : Option (List ℕ))
    (s : Status) (h : StHeadline files config program old new s) →
    IsLegalTrace (found_trace (run_version h.cell.setup) Run h.cell.setup h.history h.drives)
