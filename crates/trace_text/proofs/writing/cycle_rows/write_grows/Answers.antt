-- One more was written.
use Rattle.std.proofs.Common.{arith}
use Rattle.trace_text.proofs.written.Numbered.{numbered-appended}
use Rattle.trace_text.proofs.writing.cycle_rows.write_grows.Goals as goal

pub loop-i-preserved : goal.loop-i-preserved
loop-i-preserved g c = record {
  text = numbered-appended _ c.args.rows.now c.loop-i.i _ _ _ _ (omega arith) c.loop-i.invariant.text c.in_ok-write_grow.ensures.text;
  between = c.in_ok-write_grow.ensures.between;
}
