-- Each axis of a machine that satisfies the invariant is one.
use Rattle.std.proofs.Common.{◌≡◌, ap, sym, ◌∙◌}
use Rattle.std.specs.Prelude.{slice_get}
use Rattle.motion_kernel.specs.Machine.{Machine}
use Rattle.segment_check.proofs.Filled.{axes_kept}
use Rattle.segment_check.proofs.starting.fill.Goals as goal

pub returns-clause-axes : goal.returns-clause-axes
returns-clause-axes c = λ kept.
    let is : c.as_slice-3.result.now ≡ c.args.machine.now.axes = c.as_slice-3.ensures.value ∙ ap (λ (m : Machine). m.axes) c.machine.view_is in
    c.set_axes.ensures.all (λ n a at. axes_kept c.args.config.now c.args.machine.now kept n a (ap (λ axes. slice_get axes n) (sym is) ∙ at))
