-- The rows are found so, so far.
use Rattle.std.proofs.Common.{◌≡◌, ℕ, ◌<◌, length}
use Rattle.trace_text.specs.TraceState.{place_at}
use Rattle.trace_check.specs.Rows.{IsFoundAt}
use Rattle.trace_check.proofs.rows.wrong_row.Given as goal

abbrev pub invariant-loop-i : goal.invariant-loop-i
invariant-loop-i l = record {
  same : (n : ℕ) → n < l.i → IsFoundAt l.trace.version l.trace.config.axes l.expected l.found (place_at l.trace l.entry) n;
  many : length l.expected ≡ length l.found;
  axes : l.axes ≡ l.trace.config.axes;
}
