-- The answers so far.
use Rattle.std.proofs.Common.{◌≡◌, map, take}
use Rattle.plc_types.specs.declared.axis.AxisRow.{AxisRow}
use Rattle.trace_check.proofs.making.take_answers.Given as goal

abbrev pub invariant-loop-i : goal.invariant-loop-i
invariant-loop-i l = take l.i l.answers ≡ map (λ (r : AxisRow). r.input) (take l.i l.rows)
