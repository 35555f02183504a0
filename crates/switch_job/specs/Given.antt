-- What the two files of the job give. This project's profile.
use Rattle.std.specs.Prelude.{◌≡◌, ◌↔◌, ◌^◌, ℕ, Option, None, Ok, List}
use Rattle.switch_text.specs.declared.switch.Switch.{Switch}
use Rattle.job_ends.specs.Files as files
use Rattle.job_ends.specs.Files.{GivesReading, NoReading}
use Rattle.job_ends.specs.declared.status.Status.{Status}
use Rattle.outside.specs.Told.{FileMap}
use Rattle.switch_text.specs.Reading.{switches_of}
use Rattle.switch_text.specs.Spelled.{IsSwitchText}
use Rattle.trace_check.specs.Legal.{IsLegalTrace}
use Rattle.trace_check.specs.Progress.{difference_in}
use Rattle.trace_text.specs.Held.{IsHeldOf}
use Rattle.trace_text.specs.reading.Reading.{trace_of}
use Rattle.trace_text.specs.TraceState.{TraceState}
use Rattle.trace_text.specs.writing.Writes.{Output}
use Rattle.switch_job.specs.declared.reading.Both.{Both}

-- the most bytes of a trace: 256 MiB
abbrev pub most_of_trace : ℕ
most_of_trace = 2 ^ 28

-- the most bytes of a switch file: 16 MiB
abbrev pub most_of_switches : ℕ
most_of_switches = 2 ^ 24

-- a text is this trace
abbrev pub IsTraceText : List ℕ → TraceState → Type 0
IsTraceText text t = trace_of text ≡ Ok t

-- the first file is this trace, or gives none
abbrev pub GivesTrace : Option FileMap → List ℕ → TraceState → Type 0
GivesTrace told name t = GivesReading told name most_of_trace trace_of IsTraceText t

abbrev pub NoTrace : Option FileMap → Type 0 → List ℕ → Output → Output → Status → Type 0
NoTrace told rose name old new s = NoReading told rose 1 name most_of_trace trace_of old new s

-- the second file has these switches on the axes of the trace, or gives none
abbrev pub GivesSwitches : Option FileMap → List ℕ → TraceState → List Switch → Type 0
GivesSwitches told name t ss =
    GivesReading told name most_of_switches (switches_of t.config) (IsSwitchText t.config) ss

abbrev pub NoSwitches : Option FileMap → Type 0 → List ℕ → TraceState → Output → Output → Status →
    Type 0
NoSwitches told rose name t old new s =
    NoReading told rose 2 name most_of_switches (switches_of t.config) old new s

-- the files give a trace and switches on its axes
pub record GivesBoth (told : Option FileMap) (trace file : List ℕ) (both : Both) : Type 0 where
  pub gives : GivesTrace told trace both.trace
  pub switches : GivesSwitches told file both.trace both.switches

-- the first file is a trace that is held so
pub record HoldsTrace (told : Option FileMap) (name : List ℕ) (held : TraceState) : Type 0 where
  pub whole : TraceState
  pub gives : GivesTrace told name whole
  pub held_so : IsHeldOf whole held

-- the files give a trace that is held so, and switches on its axes
pub record HoldsBoth (told : Option FileMap) (trace file : List ℕ) (held : Both) : Type 0 where
  pub whole : TraceState
  pub gives : GivesBoth told trace file (record held { trace = whole })
  pub held_so : IsHeldOf whole held.trace

-- they don't: the first gives no trace, or it gives one on whose axes the second gives no switches
abbrev pub NoBoth : Option FileMap → Type 0 → List ℕ → List ℕ → Output → Output → Status → Type 0
NoBoth told rose trace file old new s =
    files.NoBoth told rose trace file most_of_trace most_of_switches trace_of IsTraceText
    (λ (t : TraceState). switches_of t.config) old new s

-- that no record of a trace differs says that it is legal, and nothing else says that
abbrev pub TellsLegal : TraceState → Type 0
TellsLegal t = (difference_in t ≡ None) ↔ IsLegalTrace t
