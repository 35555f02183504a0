-- One axis's owner after another is notified.
use Rattle.std.proofs.Common.{◌∙◌, sym, arith}
use Rattle.std.proofs.lemmas.List.{get_or_default}
use Rattle.motion_kernel.specs.cycles.Showing.{axis_shown}
use Rattle.motion_kernel.specs.Machine.{no_axis}
use Rattle.motion_kernel.proofs.cycles.Steps.{shown_more, shown_none}
use Rattle.motion_kernel.proofs.showing.show_axes.Goals as goal

pub loop-axis-init : goal.loop-axis-init
loop-axis-init c = record { told = sym (shown_none _ _); long = omega arith }

pub loop-axis-preserved : goal.loop-axis-preserved
loop-axis-preserved c =
    let item = c.axis-item.is ∙ get_or_default c.args.axes.now c.loop-axis.axis-index _ no_axis c.loop-axis-test.true in
    record {
      told = c.show_axis.ensures.told
          ∙ (λ i. axis_shown (item i) (c.loop-axis.invariant.told i))
          ∙ sym (shown_more c.loop-axis.axis-index c.args.axes.now c.args.instances.now);
      long = c.show_axis.ensures.long ∙ c.loop-axis.invariant.long;
    }
