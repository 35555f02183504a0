-- The kernel goes on with its own segment, which is empty again and begins with its machine.
use Rattle.std.specs.Prelude.{refl}
use Rattle.std.proofs.Common.{◌∙◌, sym, subst}
use Rattle.motion_kernel.specs.kept.Machine.{IsSized}
use Rattle.motion_kernel.proofs.kept.Segmented.{segmented_begun, cleared_room}
use Rattle.motion_kernel.proofs.segmented.SegmentedKernel.forget.Goals as goal

pub invariant_of-self : goal.invariant_of-self
invariant_of-self c =
    let k = c.self.inside in
    let history = c.clear.ensures ∙ cleared_room k.layout k.layout k.segment.history refl c.self.invariant.room in
    let sized = subst (IsSized k.layout) (sym c.copy_from.ensures) c.self.invariant.machine.sized in
    segmented_begun (record k { segment = _ }) (sym c.copy_from.ensures) history c.self.invariant.machine c.self.invariant.owners sized c.self.invariant.whole c.self.invariant.places
