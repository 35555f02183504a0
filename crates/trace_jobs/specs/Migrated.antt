-- What a trace that was migrated stands for. This project's profile.
use Rattle.std.specs.Prelude.{◌≡◌, ℕ, Option, Ok, List}
use Rattle.std.specs.Io.KnownBytes.{Appends}
use Rattle.motion_history.specs.Entries.{Entry}
use Rattle.motion_kernel.specs.Histories.{IsLegal}
use Rattle.outside.specs.Told.{FileMap, HasFile}
use Rattle.trace_check.specs.Laws.{IsMigrated, migrated_version}
use Rattle.trace_check.specs.Legal.{IsTraceOf}
use Rattle.trace_text.specs.reading.Reading.{trace_of}
use Rattle.trace_text.specs.Trace.{trace_text}
use Rattle.trace_text.specs.TraceState.{TraceState}

-- the trace that was written is the one that was read, in the version in which it is written again:
-- that of the same history, which is legal
pub record Migrated (files : Option FileMap) (name : List ℕ) (old new : Option (List ℕ))
    : Type 0 where
  -- the text of the file that was asked for is a trace
  pub text : List ℕ
  pub trace : TraceState
  pub file : HasFile files name text
  pub reading : trace_of text ≡ Ok trace
  -- it is the trace of this history, of which each reply and each row is the PLCopen machine's
  pub history : List Entry
  pub is : IsTraceOf trace history
  pub legal : IsLegal trace.config history
  -- what was written is its text in that version, with what the drives took
  pub written : Appends old new
      (trace_text (migrated_version trace) trace.command trace.config history trace.drives)
  -- and this text is read as a legal trace of the same machine, history and drives
  pub again : IsMigrated trace history
