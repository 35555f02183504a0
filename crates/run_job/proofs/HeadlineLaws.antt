-- What the trace of a run stands for.
-- for: run_files
use Rattle.std.specs.Prelude.{◌≡◌, ◌⊎◌, refl, ℕ, ◌+◌, false, true, Option, Some, List, map, slice_get}
use Rattle.std.proofs.Common.{◌∙◌, inl, inr, sym, ap, subst, arith}
use Rattle.drive_sim.specs.Sim.{DriveSim}
use Rattle.job_ends.proofs.Both.{both-read, both-says, both-there}
use Rattle.job_ends.proofs.PlanLaws.{traces, traced-unfaulted}
use Rattle.job_ends.proofs.Statuses.{traced-wordless, untraced}
use Rattle.job_ends.specs.Causes.{is_traced}
use Rattle.job_ends.specs.declared.status.Status.{Status}
use Rattle.job_ends.specs.declared.status.Status.TheVariants as status
use Rattle.machine_config.specs.Configured.{Configures}
use Rattle.machine_config.specs.Reading.{machine_of}
use Rattle.machine_config.specs.declared.machine.Machine.{Machine}
use Rattle.machine_drives.specs.Drives.{drives_at_opening}
use Rattle.motion_plant.specs.Ran.{DriveMeets}
use Rattle.outside.specs.Told.{FileMap}
use Rattle.plc_program.specs.Reading.{program_of}
use Rattle.setpoint_ring.specs.declared.logs.DriveLog.{DriveLog}
use Rattle.trace_text.specs.writing.Writes.{Output}
use Rattle.run_job.proofs.CauseLaws.{shown}
use Rattle.run_job.proofs.RowLaws.{AreReadBack, rows-same}
use Rattle.run_job.specs.Ends.{Course, EndsByBoth, EndsByPlant, EndsByRun, WritesRun}
use Rattle.run_job.specs.Headline.{HasEnded, RunHeadline}
use Rattle.run_job.specs.Plans.{end_row, no_thread_plan, run_plan}
use Rattle.job_ends.specs.Machines.{most_bytes}
use Rattle.run_job.specs.Plants.{IsProgramOfMachine}

ran-headline : AreReadBack → (told : Option FileMap) (refuses : Type 0)
    (Started : ℕ → Type 0) (config program : List ℕ) (old new : Output) (s : Status) →
    (b : EndsByBoth told refuses Started config program old new s) →
    WritesRun b.machine.version Started b.outcome.setup b.outcome.program b.machine.drives old new s →
    is_traced s ≡ true → RunHeadline told config program old.told new.told Started s
ran-headline back told refuses Started config program old new s b w t =
    let setup = b.outcome.setup in
    let drives = drives_at_opening setup.axes b.machine.drives in
    let plan = run_plan b.machine.version w.writes.status setup w.history (map end_row w.logs) in
    let all = traces old new plan s w.writes.ends t in
    let meets : (i : ℕ) (d : DriveSim) (g : DriveLog) → slice_get drives i ≡ Some d →
    slice_get w.logs i ≡ Some g → DriveMeets d (0 + i) w.history g =
    λ i d g x y. let here : i ≡ 0 + i = omega arith in
    subst (λ k. DriveMeets d k w.history g) here (w.ran.drives_meet i d g x y) in
    record {
      config_text = b.gives.text;
      machine = b.machine;
      config_file = b.gives.is_text.file;
      configures = b.gives.means;
      program_text = b.tasks.text;
      tasks = b.outcome.program;
      setup = setup;
      program_file = b.tasks.is_text.file;
      spelled = b.tasks.means;
      whole = b.whole;
      each = b.each;
      started = w.started;
      history = w.history;
      legal = w.ran.legal;
      motion = w.ran.motion;
      made = w.ran.tasks;
      driven = w.ran.driven;
      in_time = w.ran.in_time;
      drives = map end_row w.logs;
      taken = rows-same back w.history 0 drives w.logs w.ran.logged meets;
      ended = subst (λ x. HasEnded x setup w.history) (sym all.0) w.writes.ended;
      written = all.1;
      again = w.writes.again t;
    }

both-headline : AreReadBack → (told : Option FileMap) (refuses : Type 0)
    (Started : ℕ → Type 0) (config program : List ℕ) (old new : Output) (s : Status) →
    EndsByBoth told refuses Started config program old new s → is_traced s ≡ true →
    RunHeadline told config program old.told new.told Started s
both-headline back told refuses Started config program old new s b t = by b.ends
  where
    by : EndsByPlant b.machine.version refuses Started b.outcome.setup b.outcome.program b.machine.drives old new s →
        RunHeadline told config program old.told new.told Started s
    by (inl w) = ran-headline back told refuses Started config program old new s b w t
    by (inr (inl h)) = absurd (untraced old new no_thread_plan s h.1 refl t)
    by (inr (inr h)) = absurd (let bad : true ≡ false = sym t ∙ ap is_traced h.status in cc)

-- how a run ended, and what that says
pub ended : AreReadBack → (told : Option FileMap) (rose refused : Type 0) (Started : ℕ → Type 0)
    (config program : List ℕ) (old new : Output) (s : Status) →
    Course told rose refused Started config program old new s →
    EndsByRun told rose refused Started config program old new s
ended back told rose refused Started config program old new s course =
    let of_machine = λ (m : Machine). program_of m.version m.cycle_us m.config in
    record {
      course = course;
      says = both-says told rose config program most_bytes most_bytes machine_of Configures
          of_machine
          (λ given wanted. ⊥) false
          (λ x. ((x ≡ status.ThreadRefused) × refused) ⊎ (is_traced x ≡ true))
          _ old new s
          (λ b. (
            (b.machine, b.outcome),
            both-there told config program most_bytes most_bytes machine_of
                Configures of_machine (IsProgramOfMachine b.machine) b.machine b.outcome b.gives
                b.tasks,
            shown b.machine.version refused Started config program (b.machine, b.outcome) b.outcome.setup
                b.outcome.program
                b.machine.drives old new s b.ends,
          )) course;
      headline = λ t. both-headline back told refused Started config program old new s
          (both-read told rose config program most_bytes most_bytes machine_of Configures
          of_machine _
          old new s (traced-unfaulted s t) (traced-wordless s t) course) t;
    }
