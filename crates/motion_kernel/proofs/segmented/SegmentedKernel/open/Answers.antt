-- The kernel stands at its opening.
use Rattle.std.proofs.Common.{◌∙◌, sym, subst}
use Rattle.motion_history.specs.Setup.{IsSetup}
use Rattle.motion_kernel.specs.kept.Machine.{IsMachineKept, IsSized}
use Rattle.motion_kernel.specs.owners.Blocks.{OwnersHaveBlocks}
use Rattle.motion_kernel.proofs.kept.Segmented.{segmented_begun}
use Rattle.motion_kernel.proofs.segmented.SegmentedKernel.open.Goals as goal

pub invariant_of-result : goal.invariant_of-result
invariant_of-result c =
    let s = c.in_ok-layout.layout in
    let setup : IsSetup s = c.in_ok-segment.ensures.setup in
    let history = c.in_ok-segment.ensures.history in
    let whole = c.in_ok-parts.ensures.whole in
    let opened = c.machines_stay_kept.ensures.opened s setup whole in
    let kept = subst (IsMachineKept s) (sym c.in_ok-parts.ensures.opened) opened in
    let owners = subst (OwnersHaveBlocks s) (sym c.in_ok-parts.ensures.opened) (c.owners_have_blocks.ensures.opened s) in
    let sized = subst (IsSized s) (sym c.in_ok-segment.ensures.start) opened.sized in
    segmented_begun _ (c.in_ok-parts.ensures.opened ∙ sym c.in_ok-segment.ensures.start) history kept owners sized whole c.in_ok-aside.ensures
