-- What a trace leads to. This project's profile.
use Rattle.std.specs.Prelude.{ℕ, Option, Some, None, List, [], ◌∷◌, length}
use Rattle.job_ends.specs.Plans.{Plan, plan_of_reading}
use Rattle.job_ends.specs.declared.status.Status.TheVariants as status
use Rattle.motion_history.specs.Entries.{Entry}
use Rattle.motion_history.specs.Setup.{Setup}
use Rattle.trace_check.specs.Laws.{migrated_version}
use Rattle.trace_check.specs.Progress.{difference_in}
use Rattle.trace_check.specs.Replays.{with_made}
use Rattle.trace_check.specs.declared.difference.Difference.{Difference}
use Rattle.trace_text.specs.reading.Reading.{trace_of}
use Rattle.trace_text.specs.Trace.{trace_text}
use Rattle.trace_text.specs.TraceState.{TraceState, entries_of}
use Rattle.trace_jobs.specs.Lines.{illegal_lines, legal_line}

-- a trace is not legal
abbrev pub illegal_plan : Difference → Plan
illegal_plan d = record { status = status.Illegal d.place; text = illegal_lines d }

-- what a trace leads to, by its first record that differs: that is reported, or that there is none
abbrev pub verified_plan : ℕ → Option Difference → Plan
verified_plan entries None =
    record { status = status.Legal entries; text = legal_line entries }
verified_plan entries (Some d) = illegal_plan d

-- what a trace that is checked leads to
abbrev pub plan_of_check : TraceState → Plan
plan_of_check t = verified_plan (length (entries_of t)) (difference_in t)

-- the history that the machine makes of the events of some entries, after a history
abbrev pub history_from : Setup → List Entry → List Entry → List Entry
history_from s made [] = made
history_from s made (e ∷ es) = history_from s (with_made s made e) es

-- the history that the machine makes of the events of a trace
unfoldable pub history_of : TraceState → List Entry
history_of t = history_from t.config [] (entries_of t)

-- the trace of the same history in the version in which it is written again
abbrev pub migrated : TraceState → List ℕ
migrated t = trace_text (migrated_version t) t.command t.config (history_of t) t.drives

-- what a trace that is migrated leads to: the same trace in that version, or its first record that
-- differs
abbrev pub migrated_plan : TraceState → Option Difference → Plan
migrated_plan t None = record { status = status.Ok; text = migrated t }
migrated_plan t (Some d) = illegal_plan d

-- what it leads to by the first record that differs
abbrev pub plan_of_migrate : TraceState → Plan
plan_of_migrate t = migrated_plan t (difference_in t)

-- what the text of a file leads to where it is checked, and where it is migrated
abbrev pub check_plan : List ℕ → List ℕ → Plan
check_plan name text = plan_of_reading plan_of_check 1 name (trace_of text)

abbrev pub migrate_plan : List ℕ → List ℕ → Plan
migrate_plan name text = plan_of_reading plan_of_migrate 1 name (trace_of text)
