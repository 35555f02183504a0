-- That what was written is of histories that keep all laws of the machine. This project's profile.
use Rattle.std.specs.Prelude.{◌≡◌, ◌+◌, ℕ, Option, List}
use Rattle.bench_job.specs.Headline.{Headline}
use Rattle.bench_run.specs.Laws.{KeepsLaws}
use Rattle.job_ends.specs.declared.status.Status.{Status}
use Rattle.load_job.specs.Ends.{LoadLine}
use Rattle.load_job.specs.Machine.{machine}
use Rattle.outside.specs.Told.{FileMap}
use Rattle.run_job.specs.Headline.{RunHeadline}
use Rattle.st_job.specs.Headline.{StHeadline}

-- the history of the trace of a bench keeps them
abbrev pub BenchTracesKeepLaws : Type 0
BenchTracesKeepLaws = (files : Option FileMap) (name : List ℕ) (old new : Option (List ℕ))
    (h : Headline files name old new) → KeepsLaws h.bench.config h.history

-- so does that of the trace of a run, however many jobs were there before and after
abbrev pub RunTracesKeepLaws : Type 0
RunTracesKeepLaws = (files : Option FileMap) (config program : List ℕ)
    (old new : Option (List ℕ)) (before after : ℕ) (s : Status)
    (h : RunHeadline files config program old new (λ n. after ≡ before + n) s) →
    KeepsLaws h.setup h.history

-- so does that of the trace of tasks in Structured Text
abbrev pub StTracesKeepLaws : Type 0
StTracesKeepLaws = (files : Option FileMap) (config program : List ℕ) (old new : Option (List ℕ))
    (s : Status) (h : StHeadline files config program old new s) → KeepsLaws h.cell.setup h.history

-- and so does that of the line of a load
abbrev pub LoadsKeepLaws : Type 0
LoadsKeepLaws = (seed : ℕ) (old new : Option (List ℕ)) (h : LoadLine seed old new) →
    KeepsLaws machine h.history
