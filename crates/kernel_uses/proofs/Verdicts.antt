-- The verdict on a trace is one on its text.
-- for: verify_text
use Rattle.std.specs.Prelude.{◌≡◌, ◌↔◌, ℕ, Result, Ok, Err, IfOk, List, length}
use Rattle.motion_history.specs.declared.refused.TextFault.{TextFault}
use Rattle.trace_check.specs.Legal.{IsLegalTrace}
use Rattle.trace_check.specs.declared.verdict.Verdict.{Verdict}
use Rattle.trace_check.specs.declared.verdict.Verdict.TheVariants as verdict
use Rattle.trace_text.specs.TraceState.{TraceState, entries_of}
use Rattle.trace_text.specs.reading.Reading.{trace_of}
use Rattle.kernel_uses.specs.Verified.{IsVerdictOn}

-- a trace that was read was verified, or there was no memory for it
pub verified-on : (text : List ℕ) (t : TraceState) (r : Result Verdict TextFault) →
    trace_of text ≡ Ok t →
    IfOk r (λ v. (v ≡ verdict.Legal (length (entries_of t))) ↔ IsLegalTrace t) →
    IfOk r (IsVerdictOn text)
verified-on text t (Ok v) read verified = record { trace = t; read = read; legal = verified }
verified-on text t (Err e) read verified = verified
