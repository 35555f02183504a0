use Rattle.std.proofs.Common.{◌≡◌, ◌++◌, ◌≤◌}
use Rattle.std.specs.Prelude.{take}
use Rattle.trace_jobs.specs.Lines.{joined}
use Rattle.trace_jobs.proofs.lines.push_record.Given as goal

abbrev pub invariant-loop-i : goal.invariant-loop-i
invariant-loop-i l = record {
  fields : l.line.items ≡ l.fn.line.items ++ joined (take l.i l.fields);
  first : 1 ≤ l.i;
}
