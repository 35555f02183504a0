-- The run begins with the drives and tasks that were opened, and its history is the kernel's.
use Rattle.std.specs.Prelude.{◌≡◌, List, length}
use Rattle.std.proofs.Common.{◌∙◌, ap, subst, sym}
use Rattle.bench_run.specs.Going.{run_at}
use Rattle.drive_sim.specs.Sim.{DriveSim}
use Rattle.hot_standby.specs.Events.{opened}
use Rattle.hot_standby.specs.Primaries.{Primary}
use Rattle.machine_drives.specs.Drives.{drives_at_opening}
use Rattle.motion_kernel.specs.KernelState.{KernelState}
use Rattle.st_rounds.specs.Controllers.{cell_of}
use Rattle.st_rounds.specs.Opening.{AreOpened}
use Rattle.st_rounds.proofs.OpenLaws.{legal-run, run-is, slice-back}
use Rattle.st_rounds.proofs.run.run_rounds.Goals as goal

-- the kernel's history, with the drives as they are after it, is the run's
pub returns-clause-made : goal.returns-clause-made
returns-clause-made c =
    let p = c.args.cell.now in
    let new = c.make_rounds-ending.new.drives in
    let w = c.make_rounds-ending.result in
    let fits : length new ≡ length c.in_ok-drives.drives.items =
    c.make_rounds-ending.auto.drives
    ∙ ap (λ (ds : List DriveSim). length ds) c.as_mut_slice.ensures.value in
    ap (λ ds. run_at c.finish-kernel.result ds w)
    (slice-back c.in_ok-drives.drives.len new c.in_ok-drives.drives.items fits
    c.in_ok-drives.drives.ok.0)
    ∙ ap (λ (k : KernelState). run_at k new w) c.finish-kernel.ensures
    ∙ run-is p c.in_ok-primary.primary.kernel c.make_rounds-ending.new.kernel.kernel c.as_mut_slice.result.now new
    c.as_mut_slice-2.result.now w
    (ap (λ (q : Primary). q.kernel) c.in_ok-primary.ensures ∙ ap opened c.in_ok-copy.ensures)
    (c.as_mut_slice.ensures.value ∙ c.in_ok-drives.ensures.opened
    ∙ ap (λ xs. drives_at_opening xs c.as_slice.result.now) c.axes.ensures.axes
    ∙ ap (drives_at_opening p.config.axes) c.as_slice.ensures)
    (subst (AreOpened p.code) (sym c.as_mut_slice-2.ensures.value) c.in_ok-players.ensures)
    c.make_rounds-ending.ensures.made

pub returns-clause-legal : goal.returns-clause-legal
returns-clause-legal c =
    let p = c.args.cell.now in
    let new = c.make_rounds-ending.new.drives in
    legal-run (cell_of p) c.finish-kernel.result new c.make_rounds-ending.result
    (ap (λ (k : KernelState). k.config) c.finish-kernel.ensures
    ∙ c.make_rounds-ending.ensures.config
    ∙ ap (λ (q : Primary). q.kernel.config) c.in_ok-primary.ensures ∙ c.in_ok-copy.ensures)
    (ap (λ (k : KernelState). run_at k new c.make_rounds-ending.result) c.finish-kernel.ensures
    ∙ run-is p c.in_ok-primary.primary.kernel c.make_rounds-ending.new.kernel.kernel c.as_mut_slice.result.now new
    c.as_mut_slice-2.result.now c.make_rounds-ending.result
    (ap (λ (q : Primary). q.kernel) c.in_ok-primary.ensures ∙ ap opened c.in_ok-copy.ensures)
    (c.as_mut_slice.ensures.value ∙ c.in_ok-drives.ensures.opened
    ∙ ap (λ xs. drives_at_opening xs c.as_slice.result.now) c.axes.ensures.axes
    ∙ ap (drives_at_opening p.config.axes) c.as_slice.ensures)
    (subst (AreOpened p.code) (sym c.as_mut_slice-2.ensures.value) c.in_ok-players.ensures)
    c.make_rounds-ending.ensures.made)
    c.histories_are_legal.ensures.legal c.histories_are_legal.ensures.motion
