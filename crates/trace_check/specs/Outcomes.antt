-- What the replay of a trace gives. This project's profile.
use Rattle.std.specs.Prelude.{◌≡◌, Some, None, Result, Ok, Err}
use Rattle.motion_kernel.specs.Segments.{SegmentedState}
use Rattle.motion_kernel.specs.Histories.{IsLegalFrom}
use Rattle.motion_kernel.specs.Machine.{Machine, machine_at_opening}
use Rattle.motion_kernel.specs.declared.segment.Before.{Before}
use Rattle.trace_text.specs.TraceState.{TraceState}
use Rattle.trace_check.specs.Legal.{IsLegalTraceFrom, IsTraceOf}
use Rattle.trace_check.specs.Progress.{difference_from}
use Rattle.trace_check.specs.declared.difference.Stop.{Stop}
use Rattle.trace_check.specs.declared.difference.Stop.TheVariants as stop
use Rattle.trace_check.specs.declared.replaying.Replayed.{Replayed}
use Rattle.trace_check.specs.declared.replaying.Replayed.TheVariants as replay

-- the kernel of a trace that is legal from a machine on: it began there, its history is legal, and
-- the trace is that of it
pub record IsKernelFrom (m : Machine) (t : TraceState) (k : SegmentedState) : Type 0 where
  pub config : k.config ≡ t.config
  pub start : k.start ≡ m
  pub legal : IsLegalFrom t.config m k.history
  pub is : IsTraceOf t k.history

-- a trace was replayed from a machine on: no record differs, and the kernel has its history; or it
-- is not legal from there on, and the first record that differs is reported
abbrev pub IsReplayedFrom : Machine → TraceState → Replayed → Type 0
IsReplayedFrom m t (replay.Legal kernel) = (difference_from m t ≡ None) × IsKernelFrom m t kernel
IsReplayedFrom m t (replay.IllegalAt d) =
    (difference_from m t ≡ Some d) × ¬ IsLegalTraceFrom m t

-- and what was before the kernel's segment is this still
abbrev pub IsBehind : Before → Replayed → Type 0
IsBehind b (replay.Legal kernel) = kernel.before ≡ b
IsBehind b (replay.IllegalAt d) = Unit {0}

-- a trace was replayed from opening on
abbrev pub IsReplayed : TraceState → Replayed → Type 0
IsReplayed t r = IsReplayedFrom (machine_at_opening t.config) t r

-- a trace was replayed from a machine on, or memory ran out
abbrev pub Judges : Machine → TraceState → Result SegmentedState Stop → Type 0
Judges m t (Ok kernel) = IsReplayedFrom m t (replay.Legal kernel)
Judges m t (Err (stop.Differs d)) = IsReplayedFrom m t (replay.IllegalAt d)
Judges m t (Err stop.OutOfMemory) = Unit {0}
