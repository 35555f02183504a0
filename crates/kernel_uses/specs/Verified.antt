-- The verdict on a text. This project's profile.
use Rattle.std.specs.Prelude.{◌≡◌, ◌↔◌, ℕ, Ok, List, length}
use Rattle.trace_check.specs.Legal.{IsLegalTrace}
use Rattle.trace_check.specs.declared.verdict.Verdict.{Verdict}
use Rattle.trace_check.specs.declared.verdict.Verdict.TheVariants as verdict
use Rattle.trace_text.specs.TraceState.{TraceState, entries_of}
use Rattle.trace_text.specs.reading.Reading.{trace_of}

-- a text is a trace, and the verdict says of it exactly where it is legal that it is
pub record IsVerdictOn (text : List ℕ) (v : Verdict) : Type 0 where
  pub trace : TraceState
  pub read : trace_of text ≡ Ok trace
  pub legal : (v ≡ verdict.Legal (length (entries_of trace))) ↔ IsLegalTrace trace
