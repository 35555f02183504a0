-- One mark after another.
use Rattle.std.proofs.Common.{◌∙◌, ap, arith, slice_set, slice_index_or}
use Rattle.std.proofs.lemmas.List.{get_or_default}
use Rattle.std.proofs.lemmas.List.Edits.{map_over_more}
use Rattle.motion_kernel.specs.Marked as spec
use Rattle.motion_kernel.specs.declared.tasks.TaskMark.TheVariants.{Quiet}
use Rattle.motion_kernel.proofs.tasks.quiet.Goals as goal

pub loop-mark-preserved : goal.loop-mark-preserved
loop-mark-preserved c =
    let i = c.loop-mark.mark-index in
    let marks = c.loop-mark.marks in
    record {
      marks = ap (slice_set marks i) c.quieten.ensures
          ∙ map_over_more spec.quieted c.args.marks.now marks i (slice_index_or marks i Quiet) c.loop-mark-test.true c.loop-mark.invariant.marks
          (get_or_default marks i _ _ (let l = c.loop-mark.auto.marks in let t = c.loop-mark-test.true in omega (arith, l)));
    }
