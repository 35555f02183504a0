-- The kernel goes on with the other's segment, which is empty again and begins with its machine.
use Rattle.std.specs.Prelude.{◌≡◌, []}
use Rattle.std.proofs.Common.{◌∙◌, ap, sym, subst}
use Rattle.motion_kernel.specs.Segments.{SegmentedState}
use Rattle.motion_kernel.specs.declared.segment.Segment.{Segment}
use Rattle.motion_kernel.specs.kept.Machine.{IsSized}
use Rattle.motion_kernel.proofs.kept.Segmented.{segmented_begun, cleared_room}
use Rattle.motion_kernel.proofs.segmented.SegmentedKernel.hand_over.Goals as goal

pub invariant_of-self : goal.invariant_of-self
invariant_of-self c =
    let k = c.self.inside in
    let o = c.other.inside in
    let same : o.layout ≡ k.layout = ap (λ (x : SegmentedState). x.config) c.other.view_is ∙ c.requires.same ∙ sym (ap (λ (x : SegmentedState). x.config) c.self.view_is) in
    let history = c.clear.ensures
    ∙ ap (λ (b : Segment). record b.history { entries = []; rows = []; group_rows = [] }) c.swap.ensures.x_after
    ∙ cleared_room k.layout o.layout o.segment.history same c.other.invariant.room in
    let sized = subst (IsSized k.layout) (sym c.copy_from-2.ensures) c.self.invariant.machine.sized in
    segmented_begun (record k { segment = _ }) (sym c.copy_from-2.ensures) history c.self.invariant.machine c.self.invariant.owners sized c.self.invariant.whole c.self.invariant.places
