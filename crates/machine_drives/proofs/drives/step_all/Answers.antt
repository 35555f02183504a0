-- Each drive makes its step.
use Rattle.std.proofs.Common.{◌∙◌, ap, slice_set}
use Rattle.machine_drives.proofs.DriveLaws.{stepped-over}
use Rattle.machine_drives.proofs.drives.step_all.Goals as goal

pub loop-i-preserved : goal.loop-i-preserved
loop-i-preserved c =
    ap (λ x. slice_set c.loop-i.drives c.loop-i.i x) c.step.ensures.after
    ∙ stepped-over _ _ _ c.loop-i.i _ c.loop-i-test.true c.loop-i.invariant
