-- What the edges that were written stand for. This project's profile.
use Rattle.std.specs.Prelude.{◌≡◌, ℕ, Option, Ok, List}
use Rattle.std.specs.Io.KnownBytes.{Appends}
use Rattle.switch_text.specs.declared.switch.Switch.{Switch}
use Rattle.outside.specs.Told.{FileMap, HasFile}
use Rattle.switch_text.specs.Lines.{cycles_in, edges_text}
use Rattle.switch_text.specs.Spelled.{IsSwitchText}
use Rattle.trace_check.specs.Legal.{IsLegalTrace}
use Rattle.trace_text.specs.reading.Reading.{trace_of}
use Rattle.trace_text.specs.TraceState.{TraceState, entries_of}

-- the lines that were written are those of the edges of a file's switches in a legal trace
pub record Switched (files : Option FileMap) (trace file : List ℕ) (old new : Option (List ℕ))
    : Type 0 where
  -- the text of the first file is a trace, and it is legal
  pub trace_text : List ℕ
  pub read : TraceState
  pub trace_file : HasFile files trace trace_text
  pub reading : trace_of trace_text ≡ Ok read
  pub legal : IsLegalTrace read
  -- the text of the second spells switches on its axes
  pub switch_text : List ℕ
  pub switches : List Switch
  pub switch_file : HasFile files file switch_text
  pub spelled : IsSwitchText read.config switch_text switches
  -- what was written are the lines of their edges in all cycles of the trace, and nothing else
  pub written : Appends old new (edges_text switches (cycles_in (entries_of read)))
