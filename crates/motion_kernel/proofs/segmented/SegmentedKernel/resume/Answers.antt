-- The kernel goes on from where a segment begins.
use Rattle.std.proofs.Common.{◌∙◌, ap, sym, subst}
use Rattle.motion_kernel.specs.Segments.{SegmentedState, empty_history}
use Rattle.motion_kernel.specs.kept.Machine.{IsMachineKept}
use Rattle.motion_kernel.specs.owners.Blocks.{OwnersHaveBlocks}
use Rattle.motion_kernel.proofs.kept.Segmented.{segmented_begun}
use Rattle.motion_kernel.proofs.segmented.SegmentedKernel.resume.Goals as goal

pub invariant_of-self : goal.invariant_of-self
invariant_of-self c =
    let k = c.self.inside in
    let history = c.requires.spare.history ∙ ap (λ (x : SegmentedState). empty_history x.config) (sym c.self.view_is) in
    let given = subst (λ (x : SegmentedState). IsMachineKept x.config c.args.segment.start) (sym c.self.view_is) c.requires.kept in
    let kept = subst (IsMachineKept k.layout) (sym c.copy_to.ensures) given in
    let owned = subst (λ (x : SegmentedState). OwnersHaveBlocks x.config c.args.segment.start) (sym c.self.view_is) c.requires.owners in
    let owners = subst (OwnersHaveBlocks k.layout) (sym c.copy_to.ensures) owned in
    segmented_begun _ c.copy_to.ensures history kept owners given.sized c.self.invariant.whole c.self.invariant.places
