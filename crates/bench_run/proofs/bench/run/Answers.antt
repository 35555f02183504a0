-- The run of a bench begins, and ends in a legal history.
use Rattle.std.proofs.Common.{◌∙◌, List, ap, length, subst, sym}
use Rattle.std.specs.List.{All}
use Rattle.drive_sim.specs.Sim.{DriveSim}
use Rattle.plc_types.specs.declared.axis.AxisDef.{AxisDef}
use Rattle.machine_drives.specs.Drives.{CanOpen}
use Rattle.motion_history.specs.declared.drives.DriveDef.{DriveDef}
use Rattle.hot_standby.specs.Primaries.{Primary}
use Rattle.bench_run.proofs.RunLaws.{going-first, same-lines}
use Rattle.bench_run.proofs.bench.run.Goals as goal

pub open_drives-requires-clause-drives : goal.open_drives-requires-clause-drives
open_drives-requires-clause-drives c =
    let P : List DriveDef → Type 0 = λ ds. All CanOpen ds in
    subst P (sym (c.as_slice.ensures ∙ c.drives.ensures))
    (c.drives_can_be_opened.ensures.all _ c.config-config.ensures.bench.drives)

pub make_all-ending-requires-clause-lines : goal.make_all-ending-requires-clause-lines
make_all-ending-requires-clause-lines c =
    same-lines _ _ _ _
    (ap (λ (p : Primary). p.kernel.config) c.in_ok-primary.ensures ∙ c.in_ok-copy.ensures
    ∙ c.config-config.ensures.value) c.lines.ensures c.config-config.ensures.bench.lines

pub make_all-ending-requires-clause-going : goal.make_all-ending-requires-clause-going
make_all-ending-requires-clause-going c =
    going-first _ _ _ c.axes.ensures.setup
    (ap (λ (p : Primary). p.kernel.config) c.in_ok-primary.ensures ∙ c.in_ok-copy.ensures)
    (ap (λ (p : Primary). p.kernel.stopped) c.in_ok-primary.ensures)
    (ap (λ (ds : List DriveSim). length ds) c.as_mut_slice.ensures.value
    ∙ c.in_ok-drives.ensures.each ∙ ap (λ (xs : List AxisDef). length xs) c.axes.ensures.axes)
