-- What a report that was written stands for. This project's profile.
use Rattle.std.specs.Prelude.{◌≡◌, ℕ, Option, Ok, List}
use Rattle.std.specs.Io.KnownBytes.{Appends}
use Rattle.outside.specs.Told.{FileMap, HasFile}
use Rattle.scope_report.specs.Laws.{SaysOfEach}
use Rattle.scope_report.specs.Lines.{report_text}
use Rattle.scope_report.specs.Reports.{report_of}
use Rattle.trace_text.specs.reading.Reading.{trace_of}
use Rattle.trace_text.specs.TraceState.{TraceState}

-- what was written are the lines of the report of the trace that was read
pub record Scoped (files : Option FileMap) (name : List ℕ) (old new : Option (List ℕ))
    : Type 0 where
  -- the text of the file that was asked for is a trace
  pub text : List ℕ
  pub trace : TraceState
  pub file : HasFile files name text
  pub reading : trace_of text ≡ Ok trace
  -- what was written are the lines of its report, over all its entries
  pub written : Appends old new (report_text (report_of trace))
  -- which give for each axis the least and the greatest setpoint of its driven rows, in how many
  -- rows it stood and how far it went; and of each block its calls
  pub says : SaysOfEach trace
