-- What a trace whose report is asked for leads to. This project's profile.
use Rattle.std.specs.Prelude.{ℕ, ◌^◌, List}
use Rattle.job_ends.specs.Plans.{Plan, plan_of_reading}
use Rattle.job_ends.specs.declared.status.Status.TheVariants as status
use Rattle.scope_report.specs.Lines.{report_text}
use Rattle.scope_report.specs.Reports.{report_of}
use Rattle.trace_text.specs.reading.Reading.{trace_of}
use Rattle.trace_text.specs.TraceState.{TraceState}

-- the most bytes of a trace: 256 MiB
abbrev pub most_bytes : ℕ
most_bytes = 2 ^ 28

-- the lines of its report are written, whether it is legal or not
abbrev pub plan_of_scope : TraceState → Plan
plan_of_scope t = record { status = status.Ok; text = report_text (report_of t) }

-- what the text of a file leads to
abbrev pub scope_plan : List ℕ → List ℕ → Plan
scope_plan name text = plan_of_reading plan_of_scope 1 name (trace_of text)
