-- What a plant's jobs begin and end with. This project's profile.
use Rattle.std.specs.Prelude.{◌≡◌, ◌<◌, ◌≤◌, ◌+◌, [], List, ℕ, Option, Some, None, false, length, slice_get}
use Rattle.std.specs.Arc.{arc_value}
use Rattle.std.specs.declared.snapshot.Snapshot.{Snapshot}
use Rattle.drive_jobs.specs.Answered.{IsDone}
use Rattle.drive_jobs.specs.DriveLinkState.{DriveLinkState}
use Rattle.kernel_turn.specs.PermitState.{PermitState}
use Rattle.motion_history.specs.declared.sizes.TheConstants.{MOST_CYCLES}
use Rattle.motion_plant.specs.Places.{Each}
use Rattle.motion_plant.specs.TaskEnds.{TaskDone}
use Rattle.motion_plant.specs.declared.plant_job.PlantJob.{PlantJob}
use Rattle.motion_plant.specs.declared.plant_job.PlantJob.TheVariants as jobs
use Rattle.motion_plant.specs.declared.plant_job.PlantJobEnd.{PlantJobEnd}
use Rattle.motion_plant.specs.declared.plant_job.PlantJobEnd.TheVariants as ends
use Rattle.motion_plant.specs.declared.task_job.TaskJob.{TaskJob}
use Rattle.plc_program.specs.Programs.{IsProgramOf}
use Rattle.plc_program.specs.declared.program.Instruction.{Instruction}
use Rattle.task_run.specs.Runs.{IsRun, lines_of}
use Rattle.task_run.specs.Tasks.{first_state}

-- the lines of a job's task
abbrev pub job_lines : {G : Type 0} → TaskJob G → List Instruction
job_lines t = lines_of (arc_value t.program) t.run

-- the job of a task may begin: its permit is of its kernel and has made nothing, and its run stands
-- at the beginning of its task in a program of the machine
pub record IsReady {G : Type 0} (t : TaskJob G) : Type 0 where
  pub own : t.permit.table ≡ arc_value t.turn
  pub unused : t.permit.own ≡ []
  pub small : t.permit.config.cycles ≤ MOST_CYCLES
  pub program : IsProgramOf t.permit.config (arc_value t.program)
  pub run : IsRun (arc_value t.program) t.run (first_state (job_lines t))
  pub task : t.run.task ≡ t.task

-- a job may begin: a drive's with a ring that was not used
abbrev pub Ready : {G : Type 0} → PlantJob G → Type 0
Ready (jobs.Drive d) = (d.end.sent ≡ []) × (d.end.taken ≡ [])
Ready (jobs.Task t) = IsReady t

-- a job has come to this end, which is of its kind
abbrev pub Works : {G : Type 0} → PlantJob G → PlantJobEnd → Type 0
Works (jobs.Drive d) (ends.Drive e) = IsDone d.drive d.end.ring e
Works (jobs.Task t) (ends.Task e) = TaskDone t.permit t.task (job_lines t) e
Works (jobs.Drive d) (ends.Task e) = ⊥
Works (jobs.Task t) (ends.Drive e) = ⊥

-- the job at the other end of a line, started
abbrev pub line_job : {G : Type 0} → DriveLinkState → Option (PlantJob G)
line_job l = Some (jobs.Drive l.job)

-- a task's job, started
abbrev pub seat_job : {G : Type 0} → Snapshot (TaskJob G) → Option (PlantJob G)
seat_job s = Some (jobs.Task s.value)

-- from this number on stand the jobs at the other ends of these lines
abbrev pub AreDrivesAt : {G : Type 0} → List (Option (PlantJob G)) → ℕ → List DriveLinkState → Type 0
AreDrivesAt started base lines =
    Each (λ i l. slice_get started (base + i) ≡ Some (line_job l)) lines

-- from this number on stand these jobs of tasks
abbrev pub AreTasksAt : {G : Type 0} → List (Option (PlantJob G)) → ℕ →
    List (Snapshot (TaskJob G)) → Type 0
AreTasksAt started base seats =
    Each (λ i s. slice_get started (base + i) ≡ Some (seat_job s)) seats

-- the job of the task t of a program, by a permit that was split from this one
pub record IsSeat {G : Type 0} (program : List (List Instruction)) (k : PermitState) (t : ℕ)
    (j : TaskJob G) : Type 0 where
  pub program_is : arc_value j.program ≡ program
  pub run : j.run.task ≡ t
  pub task : j.task ≡ t
  pub table : j.permit.table ≡ k.table
  pub config : j.permit.config ≡ k.config
  pub stops : j.permit.made_stop ≡ false

-- this many jobs, from a number on, were joined; the others stand as they stood
pub record AreJoined {J : Type 0} (old new : List (Option J)) (base k : ℕ) : Type 0 where
  pub before : (n : ℕ) → n < base → slice_get new n ≡ slice_get old n
  pub joined : (n : ℕ) → base ≤ n → n < base + k → slice_get new n ≡ Some None
  pub behind : (n : ℕ) → base + k ≤ n → slice_get new n ≡ slice_get old n
  pub count : length new ≡ length old
