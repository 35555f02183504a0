-- How a run and its trace end, from what their parts did.
-- for: run_files, run_read, write_run
use Rattle.std.specs.Prelude.{true, false, ◌≡◌, ◌≢◌, ◌↔◌, ◌+◌, refl, ℕ, Option, Result, List, [], ◌∷◌, length, map}
use Rattle.std.specs.Arc.{arc_value}
use Rattle.std.proofs.Common.{◌∙◌, inr, sym, ap, subst, arith}
use Rattle.plc_types.specs.declared.axis.AxisDef.{AxisDef}
use Rattle.job_ends.proofs.PlanLaws.{early}
use Rattle.job_ends.specs.Causes.{is_traced}
use Rattle.job_ends.specs.Ends.{EndsEarly, status_by}
use Rattle.job_ends.specs.declared.status.Status.{Status}
use Rattle.machine_drives.specs.Drives.{drives_at_opening}
use Rattle.motion_history.specs.Entries.{Entry, cycles_of}
use Rattle.motion_history.specs.Setup.{Setup}
use Rattle.motion_history.specs.declared.refused.TraceVersion.{TraceVersion}
use Rattle.motion_history.specs.declared.drives.DriveDef.{DriveDef}
use Rattle.motion_kernel.specs.Tasks.{live_tasks}
use Rattle.motion_plant.specs.Ran.{PlantRan}
use Rattle.motion_plant.specs.declared.ending.RunEnding.{RunEnding}
use Rattle.motion_plant.specs.declared.ending.RunEnding.TheVariants as ending
use Rattle.run_job.specs.declared.reading.RunRead.{RunRead}
use Rattle.outside.specs.Told.{FileMap}
use Rattle.plc_program.specs.Programs.{IsProgramOf}
use Rattle.plc_program.specs.declared.program.Instruction.{Instruction}
use Rattle.setpoint_ring.specs.declared.logs.DriveLog.{DriveLog}
use Rattle.trace_check.specs.KeptHistories.{IsReadBack}
use Rattle.trace_text.specs.Trace.{trace_version, trace_text}
use Rattle.trace_text.specs.writing.Writes.{Output, Writes}
use Rattle.trace_text.specs.declared.command.Command.TheVariants.{Run}
use Rattle.trace_text.specs.declared.drive_end.DriveEndRow.{DriveEndRow}
use Rattle.trace_text.specs.declared.writing.write.TraceFault.{TraceFault}
use Rattle.run_job.specs.Ends.{Course, EndsByPlant, WritesRun, WritesTrace}
use Rattle.run_job.specs.Headline.{HasEnded}
use Rattle.run_job.specs.Plans.{end_row, run_plan, status_of}
use Rattle.run_job.specs.Plants.{GivesPlant}

-- the status says why a run has ended
pub ended-so : (s : Setup) (h : List Entry) (e : RunEnding) →
    ((e ≡ ending.Ok) ↔ (live_tasks s h ≡ 0)) →
    ((e ≡ ending.CyclesOver) ↔ ((live_tasks s h ≢ 0) × (cycles_of h ≡ s.cycles))) →
    ((e ≡ ending.HistoryFull) ↔ ((live_tasks s h ≢ 0) × (cycles_of h ≢ s.cycles))) →
    (e ≡ ending.HistoryFull → length h ≡ s.entries) → HasEnded (status_of e) s h
ended-so s h ending.Ok ok over full room = ok.0 refl
ended-so s h ending.CyclesOver ok over full room = over.0 refl
ended-so s h ending.HistoryFull ok over full room =
    let by = full.0 refl in (by.0, by.1, room refl)

-- the trace was written as far as the output took it
pub wrote : (version : TraceVersion) (s : Setup) (h : List Entry) (logs : List DriveLog) (old new : Output) (e : RunEnding)
    (rows : List DriveEndRow) (given r : Status) (written : Result (Unit {0}) TraceFault) →
    HasEnded (status_of e) s h → given ≡ status_of e → rows ≡ map end_row logs →
    Writes old new (trace_text (trace_version version s) Run s h rows) written → IsReadBack (trace_version version s) Run s h rows →
    r ≡ status_by given written → WritesTrace version s h logs old new r
wrote version s h logs old new e rows given r written has is same writes back by = record {
  status = status_of e;
  ended = has;
  ends = record {
    written = written;
    writes = subst (λ ds. Writes old new (trace_text (trace_version version s) Run s h ds) written) same writes;
    status = by ∙ ap (λ x. status_by x written) is;
  };
  again = λ t. subst (λ ds. IsReadBack (trace_version version s) Run s h ds) same back;
}

-- nothing was written, for out of memory
pub wrote-none : (version : TraceVersion) (s : Setup) (h : List Entry) (logs : List DriveLog)
    (old new : Output) (e : RunEnding) (r : Status) → HasEnded (status_of e) s h →
    EndsEarly old new r → WritesTrace version s h logs old new r
wrote-none version s h logs old new e r has none = record {
  status = status_of e;
  ended = has;
  ends = early old new (run_plan version (status_of e) s h (map end_row logs)) r none;
  again = λ t. absurd (let bad : true ≡ false = sym t ∙ ap is_traced none.status in cc);
}

-- there is a drive for each axis
pub drives-each : (axes : List AxisDef) (drives : List DriveDef) → length drives ≡ length axes →
    length (drives_at_opening axes drives) ≡ length axes
drives-each [] [] e = refl
drives-each [] (d ∷ ds) e = absurd (cc)
drives-each (a ∷ as_) [] e = absurd (cc)
drives-each (a ∷ as_) (d ∷ ds) e =
    let more : length (drives_at_opening as_ ds) ≡ length as_ =
    drives-each as_ ds (omega arith) in omega arith

-- the run of a machine that is the same
pub ran-same : (version : TraceVersion) (Started : ℕ → Type 0) (s t : Setup) (program : List (List Instruction))
    (drives : List DriveDef) (h : List Entry) (logs : List DriveLog) (old new : Output)
    (r : Status) → t ≡ s → Started (length s.axes + length s.tasks) →
    PlantRan s program (drives_at_opening s.axes drives) h logs → WritesTrace version t h logs old new r →
    WritesRun version Started s program drives old new r
ran-same version Started s t program drives h logs old new r same started ran writes = record {
  started = started;
  history = h;
  logs = logs;
  ran = ran;
  writes = subst (λ x. WritesTrace version x h logs old new r) same writes;
}

-- the course of a run whose files give a plant
pub by-plant : (told : Option FileMap) (rose refused : Type 0) (Started : ℕ → Type 0)
    (config program : List ℕ) (r : RunRead) (old old1 new : Output) (s : Status) →
    GivesPlant told config program r → old1 ≡ old →
    EndsByPlant r.version refused Started r.plant.config (arc_value r.plant.program) r.plant.drives old1 new s →
    Course told rose refused Started config program old new s
by-plant told rose refused Started config program r old old1 new s g same e =
    let is = g.tasks.is in
    let o = g.tasks.outcome in
    let here : EndsByPlant r.version refused Started r.plant.config (arc_value r.plant.program) r.plant.drives old
    new s =
    subst (λ x. EndsByPlant r.version refused Started r.plant.config (arc_value r.plant.program) r.plant.drives x
    new s) same e in
    let setup : EndsByPlant r.version refused Started o.setup (arc_value r.plant.program) r.plant.drives old new
    s =
    subst (λ x. EndsByPlant r.version refused Started x (arc_value r.plant.program) r.plant.drives old new s)
    is.setup here in
    let lines : EndsByPlant r.version refused Started o.setup o.program r.plant.drives old new s =
    subst (λ x. EndsByPlant r.version refused Started o.setup x r.plant.drives old new s) is.lines setup in
    inr (record {
      machine = g.machine;
      outcome = o;
      gives = g.gives;
      tasks = g.tasks.gives;
      whole = subst (λ x. IsProgramOf o.setup x) is.lines
          (subst (λ x. IsProgramOf x (arc_value r.plant.program)) is.setup is.program);
      each = ap length (sym is.simulated) ∙ is.each
          ∙ ap (λ (x : Setup). length x.axes) is.setup;
      ends = subst (λ v. EndsByPlant v refused Started o.setup o.program g.machine.drives old new s)
          is.version
          (subst (λ x. EndsByPlant r.version refused Started o.setup o.program x old new s)
          is.simulated lines);
    })
