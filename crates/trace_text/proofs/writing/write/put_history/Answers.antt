-- One more piece was written, or not.
use Rattle.std.proofs.Common.{◌∙◌}
use Rattle.trace_text.proofs.written.Writing.{Writes-piece_stopped, Appends-piece}
use Rattle.trace_text.proofs.writing.write.put_history.Goals as goal

pub returns-in-Err : goal.returns-in-Err
returns-in-Err g c = Writes-piece_stopped _ c.args.history.now.entries c.loop-piece.piece c.min-count.result c.entries-entries.result _ _ _ c.in-Err.fault
    c.entries-entries.ensures c.loop-piece-test.true c.min-count.ensures c.loop-piece.invariant.text c.loop-piece.invariant.kept c.in-Err.ensures

pub loop-piece-preserved : goal.loop-piece-preserved
loop-piece-preserved g c = record {
  text = Appends-piece _ c.args.history.now.entries c.loop-piece.piece c.min-count.result c.entries-entries.result _ _ _
      c.entries-entries.ensures c.loop-piece-test.true c.min-count.ensures c.loop-piece.invariant.text c.in-Ok.ensures.0;
  kept = c.in-Ok.ensures.1 ∙ c.loop-piece.invariant.kept;
  entries = c.loop-piece.invariant.entries;
}
