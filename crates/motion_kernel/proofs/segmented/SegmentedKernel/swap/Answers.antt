-- The kernel goes on with an empty segment, which begins with its machine.
use Rattle.std.proofs.Common.{◌∙◌, ap, sym, subst}
use Rattle.motion_kernel.specs.Segments.{SegmentedState, empty_history}
use Rattle.motion_kernel.specs.declared.segment.Segment.{Segment}
use Rattle.motion_kernel.specs.kept.Segmented.{IsSegmentedKept}
use Rattle.motion_kernel.specs.kept.Machine.{IsSized}
use Rattle.motion_kernel.proofs.kept.Segmented.{segmented_begun}
use Rattle.motion_kernel.proofs.segmented.SegmentedKernel.swap.Goals as goal

pub invariant_of-self : goal.invariant_of-self
invariant_of-self c =
    let k = c.self.inside in
    let history = c.requires.spare.history ∙ ap (λ (x : SegmentedState). empty_history x.config) (sym c.self.view_is) in
    let sized = subst (IsSized k.layout) (sym c.copy_from.ensures) c.self.invariant.machine.sized in
    subst (λ (b : Segment). IsSegmentedKept (record k { segment = b })) (sym c.swap.ensures.x_after)
    (segmented_begun (record k { segment = _ }) (sym c.copy_from.ensures) history c.self.invariant.machine c.self.invariant.owners sized c.self.invariant.whole c.self.invariant.places)
