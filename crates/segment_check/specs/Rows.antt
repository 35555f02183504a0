-- Trace segments that follow each other give one history. This project's profile.
use Rattle.std.specs.Prelude.{◌≡◌, List, [], ◌∷◌, ◌++◌}
use Rattle.motion_history.specs.Entries.{Entry, cycles_of}
use Rattle.motion_history.specs.Setup.{IsSetup, Setup}
use Rattle.motion_kernel.specs.Segments.{counted_on}
use Rattle.motion_kernel.specs.Histories.{IsLegalFrom, IsPast, machine_from}
use Rattle.motion_kernel.specs.Machine.{machine_at_opening}
use Rattle.motion_kernel.specs.kept.Machine.{AreWhole}
use Rattle.motion_laws.specs.Laws.{KeepsLaws}
use Rattle.segment_text.specs.declared.trace_segment.TraceSegment.{TraceSegment}
use Rattle.trace_check.specs.Legal.{IsTraceOf}

-- a trace segment goes on from a past: it is of the same configuration, begins with the machine to
-- which the past leads, and its trace is that of a history which is legal from there on
pub record GoesOn (s : Setup) (past : List Entry) (p : TraceSegment) (history : List Entry) : Type 0 where
  pub config : p.trace.config ≡ s
  pub machine : p.machine ≡ machine_from s (machine_at_opening s) past
  pub legal : IsLegalFrom s p.machine history
  pub is : IsTraceOf p.trace history

-- trace segments of which each goes on from all before it, and what they then give together, each
-- one's cycles counted on
abbrev pub TellTogether : Setup → List Entry → List TraceSegment → List Entry → Type 0
TellTogether s past [] whole = past ≡ whole
TellTogether s past (p ∷ ps) whole =
    (history : List Entry) × GoesOn s past p history ×
    TellTogether s (past ++ counted_on (cycles_of past) history) ps whole

-- what a row of trace segments says from opening on is one past of the machine, and keeps all laws
pub record IsOnePast (s : Setup) (whole : List Entry) : Type 0 where
  pub past : IsPast s whole
  pub laws : KeepsLaws s whole

abbrev pub RowsTellPasts : Type 0
RowsTellPasts = (s : Setup) (ps : List TraceSegment) (whole : List Entry) → IsSetup s → AreWhole s →
    TellTogether s [] ps whole → IsOnePast s whole
