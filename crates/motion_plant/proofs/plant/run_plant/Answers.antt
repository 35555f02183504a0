-- What was started stands from the first number on; and the run is that of the machine.
use Rattle.std.proofs.Common.{rules, ◌++◌, ap, ◌∙◌, sym, arith, subst, [], length, map, append-nil}
use Rattle.std.specs.Arc.{arc_value}
use Rattle.kernel_turn.specs.PermitState.{PermitState}
use Rattle.motion_history.specs.Setup.{Setup}
use Rattle.motion_plant.specs.Jobs.{line_job, seat_job}
use Rattle.motion_plant.specs.Lines.{IsNewLink}
use Rattle.motion_plant.specs.Places.{Each}
use Rattle.motion_plant.specs.Ran.{PlantMeets}
use Rattle.motion_plant.proofs.AllJoined.{started_joined}
use Rattle.motion_plant.proofs.Lists.{get_some}
use Rattle.motion_plant.proofs.Started.{drives_started, new_stand, ran, tasks_started}
use Rattle.motion_plant.proofs.plant.run_plant.Goals as goal

pub give_up-requires-clause-started : goal.give_up-requires-clause-started
give_up-requires-clause-started g c κs within =
    let e = ap length c.in-Ok.ensures.seats.0 in (
      drives_started c.start_drives.new.spawner.jobs c.args.spawner.now.jobs
          c.start_drives.new.lines.items [] c.in-Ok.jobs.base (c.start_drives.ensures.started ∙
          sym (append-nil _)) (c.in-Ok.ensures.base ∙ c.started.ensures),
      λ n x at. let l = get_some c.in-Ok.jobs.seats.items n x at in absurd (omega arith),
    )

pub give_up-requires-in-Err-start_tasks-clause-started :
    goal.give_up-requires-in-Err-start_tasks-clause-started
give_up-requires-in-Err-start_tasks-clause-started g c κs within =
    let jobs = c.start_tasks.ensures.started ∙
    ap (λ js. js ++ map seat_job c.start_tasks.new.seats.items) c.start_drives.ensures.started
    in (
      drives_started c.start_tasks.new.spawner.jobs c.args.spawner.now.jobs
          c.start_drives.new.lines.items _ c.in-Ok.jobs.base jobs (c.in-Ok.ensures.base ∙ c.started.ensures),
      tasks_started c.start_tasks.new.spawner.jobs c.args.spawner.now.jobs
          c.start_drives.new.lines.items c.start_tasks.new.seats.items c.in-Ok.jobs.base jobs
          (c.in-Ok.ensures.base ∙ c.started.ensures),
    )

pub run_started-requires-clause-started : goal.run_started-requires-clause-started
run_started-requires-clause-started g c κs within =
    let jobs = c.start_tasks.ensures.started ∙
    ap (λ js. js ++ map seat_job c.start_tasks.new.seats.items) c.start_drives.ensures.started
    in (
      drives_started c.start_tasks.new.spawner.jobs c.args.spawner.now.jobs
          c.start_drives.new.lines.items _ c.in-Ok.jobs.base jobs (c.in-Ok.ensures.base ∙ c.started.ensures),
      tasks_started c.start_tasks.new.spawner.jobs c.args.spawner.now.jobs
          c.start_drives.new.lines.items c.start_tasks.new.seats.items c.in-Ok.jobs.base jobs
          (c.in-Ok.ensures.base ∙ c.started.ensures),
    )

pub run_started-requires-clause-fresh : goal.run_started-requires-clause-fresh
run_started-requires-clause-fresh g c κs within =
    new_stand c.axes-axes.result.now c.as_slice-defs.result.now c.start_drives.new.lines.items
    c.in_default-start_drives.ensures.fresh.1

pub returns-clause-ran : goal.returns-clause-ran
returns-clause-ran g c =
    let f = c.in_default-start_tasks.ensures.seats in
    let config = ap (λ (p : PermitState). p.config) f.2 ∙
    ap (λ (p : PermitState). p.config) c.in_ok-opened.ensures.first in
    let fresh = c.in_default-start_drives.ensures.fresh in
    let axes = c.axes-axes.ensures.axes in
    let defs = c.as_slice-defs.ensures in
    ran c.args.setup.now.config c.in_ok-opened.opened.permit (arc_value c.args.setup.now.program)
    c.args.setup.now.config.axes c.args.setup.now.drives c.start_drives.new.lines.items
    c.start_tasks.new.seats.items _ _
    (subst (λ (s : Setup). PlantMeets s c.start_drives.new.lines.items c.start_tasks.new.seats.items
    c.run_started.result.kernel.history c.run_started.result.drives.items) config
    c.run_started.ensures.meets)
    (search rules)
    f.1
    (fresh.0 ∙ ap length axes)
    c.requires.each
    (subst (λ ds. Each (IsNewLink c.args.setup.now.config.axes ds) c.start_drives.new.lines.items)
    defs (subst (λ xs. Each (IsNewLink xs c.as_slice-defs.result.now) c.start_drives.new.lines.items)
    axes fresh.1))
    c.run_started.ensures.logs

pub returns-in-Err-clause-joined : goal.returns-in-Err-clause-joined
returns-in-Err-clause-joined g c =
    let jobs = c.start_drives.ensures.started ∙ sym (append-nil _) ∙
    ap (λ zs. (c.args.spawner.now.jobs ++ map line_job c.start_drives.new.lines.items) ++
    map seat_job zs) (sym c.in-Ok.ensures.seats.0) in
    started_joined c.args.spawner.now.jobs c.start_drives.new.spawner.jobs c.give_up.new.spawner.jobs
    c.start_drives.new.lines.items c.in-Ok.jobs.seats.items c.in-Ok.jobs.base jobs
    (c.in-Ok.ensures.base ∙ c.started.ensures) c.give_up.ensures.joined

pub returns-in-Err-start_tasks-clause-joined : goal.returns-in-Err-start_tasks-clause-joined
returns-in-Err-start_tasks-clause-joined g c =
    let jobs = c.start_tasks.ensures.started ∙
    ap (λ js. js ++ map seat_job c.start_tasks.new.seats.items) c.start_drives.ensures.started
    in
    started_joined c.args.spawner.now.jobs c.start_tasks.new.spawner.jobs
    c.give_up-in-Err-start_tasks.new.spawner.jobs c.start_drives.new.lines.items
    c.start_tasks.new.seats.items c.in-Ok.jobs.base jobs
    (c.in-Ok.ensures.base ∙ c.started.ensures) c.give_up-in-Err-start_tasks.ensures.joined

pub returns-clause-joined : goal.returns-clause-joined
returns-clause-joined g c =
    let jobs = c.start_tasks.ensures.started ∙
    ap (λ js. js ++ map seat_job c.start_tasks.new.seats.items) c.start_drives.ensures.started
    in
    started_joined c.args.spawner.now.jobs c.start_tasks.new.spawner.jobs
    c.run_started.new.spawner.jobs c.start_drives.new.lines.items c.start_tasks.new.seats.items
    c.in-Ok.jobs.base jobs (c.in-Ok.ensures.base ∙ c.started.ensures) c.run_started.ensures.gone
