-- One more part.
use Rattle.std.proofs.Common.{◌∙◌}
use Rattle.trace_text.proofs.written.Joined.{join-more}
use Rattle.trace_text.proofs.writing.parts.points_text.Goals as goal

pub loop-i-preserved : goal.loop-i-preserved
loop-i-preserved c = record {
  text = join-more 59 _ c.args.points.now c.loop-i.i _ _ _ _ c.loop-i-test.true c.loop-i.invariant.text (c.as_slice.ensures.value ∙ c.in_ok-part.ensures) c.in_ok-push_part.ensures;
}
