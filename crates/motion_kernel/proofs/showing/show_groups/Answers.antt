-- One group's owner after another is notified.
use Rattle.std.proofs.Common.{◌∙◌, ap, sym, arith, map}
use Rattle.motion_kernel.specs.cycles.Showing.{group_shown}
use Rattle.motion_kernel.specs.Seen.{placed}
use Rattle.motion_kernel.proofs.cycles.Steps.{led_more, led_none}
use Rattle.motion_kernel.proofs.looks.GroupLooks.{group_here}
use Rattle.motion_kernel.proofs.showing.show_groups.Goals as goal

pub loop-group-init : goal.loop-group-init
loop-group-init c = record { told = sym (led_none _ _); long = omega arith }

pub loop-group-preserved : goal.loop-group-preserved
loop-group-preserved c =
    let item = ap placed c.group-item.is ∙ sym (group_here c.args.groups.now c.loop-group.group-index _ c.loop-group-test.true) in record {
      told = c.show_group.ensures.told
          ∙ (λ i. group_shown (item i) (c.loop-group.invariant.told i))
          ∙ sym (led_more c.loop-group.group-index (map placed c.args.groups.now) c.args.instances.now);
      long = c.show_group.ensures.long ∙ c.loop-group.invariant.long;
    }
