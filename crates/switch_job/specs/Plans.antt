-- What a trace and the switches on its axes lead to. This project's profile.
use Rattle.std.specs.Prelude.{Option, Some, None, List}
use Rattle.switch_text.specs.declared.switch.Switch.{Switch}
use Rattle.job_ends.specs.Plans.{Plan}
use Rattle.job_ends.specs.declared.status.Status.TheVariants as status
use Rattle.switch_text.specs.Lines.{cycles_in, edges_text}
use Rattle.trace_check.specs.Progress.{difference_in}
use Rattle.trace_check.specs.declared.difference.Difference.{Difference}
use Rattle.trace_jobs.specs.Plans.{illegal_plan}
use Rattle.trace_text.specs.TraceState.{TraceState, entries_of}

-- the lines of the edges of the switches in the cycles of a trace, or the trace's first record that
-- differs
abbrev pub switched_plan : TraceState → List Switch → Option Difference → Plan
switched_plan t ss None =
    record { status = status.Ok; text = edges_text ss (cycles_in (entries_of t)) }
switched_plan t ss (Some d) = illegal_plan d

-- what they lead to by the first record that differs
abbrev pub plan_of_switches : TraceState → List Switch → Plan
plan_of_switches t ss = switched_plan t ss (difference_in t)
