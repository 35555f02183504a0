-- The parts are those of the axis.
use Rattle.std.proofs.Common.{◌≡◌, ◌∙◌, Some, ap, refl, sym}
use Rattle.std.specs.Option.{option_copied}
use Rattle.std.specs.Prelude.{slice_get}
use Rattle.std.proofs.lemmas.Option.{get_or_from_slice_get}
use Rattle.axis_core.specs.declared.axis.Axis.{Axis}
use Rattle.kernel_invariants.proofs.OfBlocks.{by_parts}
use Rattle.kernel_invariants.specs.declared.owners.commands.Owners.{Owners}
use Rattle.motion_kernel.proofs.Lists.{get_is}
use Rattle.motion_kernel.specs.Machine.{no_axis}
use Rattle.motion_kernel.specs.owners.Blocks.{command_state_at}
use Rattle.motion_kernel.specs.owners.Objects.{an_axis}
use Rattle.kernel_invariants.proofs.owners.kinds.are_of_an_axis.Goals as goal

pub returns-in-Some : goal.returns-in-Some
returns-in-Some c =
    let axes = c.args.start.now.axes in
    let at : slice_get axes c.args.axis ≡ Some c.in-Some.now.now = sym c.axis.ensures ∙ ap option_copied c.in-Some.is in
    let is = get_or_from_slice_get axes c.args.axis c.in-Some.now.now no_axis at in
    by_parts c.args.config.now (command_state_at c.args.start.now (an_axis c.args.axis)) _ _ _ _
    (sym (ap (λ (a : Axis). a.active) is)) (ap (λ (o : Owners). o.reset) c.axis_owners-owners.ensures) refl c.are_of.ensures

pub returns-in-None : goal.returns-in-None
returns-in-None c =
    absurd (let there = get_is c.args.start.now.axes c.args.axis no_axis c.requires.there in
    let gone = sym c.axis.ensures ∙ ap option_copied c.in-None.is in cc)
