-- One more part.
use Rattle.std.specs.Prelude.{refl, pos, slice_index_or}
use Rattle.std.proofs.Common.{rules, w64, FitsSigned, to_z-of_z}
use Rattle.trace_text.proofs.written.Joined.{join-more}
use Rattle.trace_text.proofs.writing.parts.numbers_text.Goals as goal

pub loop-i-preserved : goal.loop-i-preserved
loop-i-preserved c =
    let n : FitsSigned w64 (slice_index_or c.args.numbers.now c.loop-i.i (pos 0)) = search rules in
    record {
      text = join-more 59 _ c.args.numbers.now c.loop-i.i _ _ _ _ c.loop-i-test.true c.loop-i.invariant.text refl (simp to_z-of_z at c.in_ok-push_number_part.ensures);
    }
