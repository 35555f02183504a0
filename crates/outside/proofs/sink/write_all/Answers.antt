use Rattle.std.proofs.Common.{arith, ◌∙◌}
use Rattle.outside.proofs.Writes.{Appends-more}
use Rattle.outside.proofs.sink.write_all.Goals as goal

-- the piece that the sink took stands after the bytes so far
pub loop-done-preserved : goal.loop-done-preserved
loop-done-preserved g c = record {
  within = omega (arith, c.in_ok-done.ensures.within);
  appended = Appends-more _ _ _ _ _ _ c.loop-done.invariant.appended c.in_ok-done.ensures.appended;
  kept = c.in_ok-done.ensures.kept ∙ c.loop-done.invariant.kept;
}
