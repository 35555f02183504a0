-- How the program ends. This project's profile.
use Rattle.std.specs.Prelude.{◌⊎◌, ℕ, Bool, true, false, Option, Some, None, List}
use Rattle.bench_job.specs.Ends.{EndsByBench}
use Rattle.job_ends.specs.Ends.{EndsBy, EndsEarly}
use Rattle.job_ends.specs.Files.{EndsByText}
use Rattle.job_ends.specs.declared.status.Status.{Status}
use Rattle.load_job.specs.Ends.{EndsByLoad}
use Rattle.outside.specs.Told.{FileMap}
use Rattle.segment_job.specs.Begins.{begins_as_trace_segment}
use Rattle.segment_job.specs.Ends.{EndsByTraceSegment}
use Rattle.run_job.specs.Ends.{EndsByRun}
use Rattle.scope_job.specs.Ends.{EndsByScope}
use Rattle.st_job.specs.Ends.{EndsBySt}
use Rattle.switch_job.specs.Ends.{EndsBySwitches}
use Rattle.trace_jobs.specs.Ends.{EndsByCheck, EndsByMigrate}
use Rattle.trace_text.specs.writing.Writes.{Output}
use Rattle.motion_cli.specs.Plans.{most_of, usage_plan}
use Rattle.command_words.specs.Requests.{Request, asked_of, of_file, of_load, of_report, of_run, of_scope, of_switches, of_tasks}
use Rattle.command_words.specs.declared.request.Job.{Job}
use Rattle.command_words.specs.declared.request.Job.TheVariants.{Bench, Check, Migrate}

-- it ended as the check of a text leads to: of a trace segment where it begins as one, else of a
-- trace
abbrev pub EndsByVerifying : Bool → List ℕ → List ℕ → Output → Output → Status → Type 0
EndsByVerifying true name text old new s = EndsByTraceSegment name text old new s
EndsByVerifying false name text old new s = EndsByCheck name text old new s

-- it ended as the job leads to with a text
abbrev pub EndsByJob : Job → List ℕ → List ℕ → Output → Output → Status → Type 0
EndsByJob Bench name text old new s = EndsByBench name text old new s
EndsByJob Check name text old new s =
    EndsByVerifying (begins_as_trace_segment text) name text old new s
EndsByJob Migrate name text old new s = EndsByMigrate name text old new s

-- how the program ends: words that are no request are given what is one; else it is as the file,
-- the run, the load, the tasks or the report leads to
abbrev pub EndsByRequest : Option FileMap → Type 0 → Type 0 → (ℕ → Type 0) → Option Request →
    Output → Output → Status → Type 0
EndsByRequest told rose refused Started None old new s = EndsBy old new usage_plan s
EndsByRequest told rose refused Started (Some (of_file r)) old new s =
    EndsByText told rose r.name (most_of r.job) (λ text. EndsByJob r.job r.name text old new s)
    old new s
EndsByRequest told rose refused Started (Some (of_run r)) old new s =
    EndsByRun told rose refused Started r.config r.program old new s
EndsByRequest told rose refused Started (Some (of_load seed)) old new s = EndsByLoad seed old new s
EndsByRequest told rose refused Started (Some (of_tasks r)) old new s =
    EndsBySt told rose r.config r.program old new s
EndsByRequest told rose refused Started (Some (of_report (of_switches trace switches))) old new s =
    EndsBySwitches told rose trace switches old new s
EndsByRequest told rose refused Started (Some (of_report (of_scope trace))) old new s =
    EndsByScope told rose trace old new s

-- how the program ends by its words, unless there was no memory to read them
abbrev pub EndsByWords : Option FileMap → Type 0 → Type 0 → (ℕ → Type 0) → List (List ℕ) →
    Output → Output → Status → Type 0
EndsByWords told rose refused Started words old new s =
    EndsByRequest told rose refused Started (asked_of words) old new s ⊎ EndsEarly old new s
