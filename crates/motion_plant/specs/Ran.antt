-- What a plant's run comes to. This project's profile.
use Rattle.std.specs.Prelude.{◌≡◌, ◌⊎◌, ℕ, suc, ◌<◌, List, length, map, Some, slice_get}
use Rattle.std.specs.declared.snapshot.Snapshot.{Snapshot}
use Rattle.drive_jobs.specs.DriveLinkState.{DriveLinkState}
use Rattle.drive_sim.specs.Runs.{drive_after}
use Rattle.drive_sim.specs.Sim.{DriveSim}
use Rattle.drive_sim.specs.Steps.{answer_of}
use Rattle.machine_drives.specs.Drives.{outputs_in}
use Rattle.motion_history.specs.Entries.{Entry, cycles_of}
use Rattle.motion_history.specs.Setup.{Setup}
use Rattle.motion_kernel.specs.Histories.{IsLegal}
use Rattle.motion_kernel.specs.Tasks.{live_tasks}
use Rattle.motion_laws.specs.Headline.{KeepsHeadline}
use Rattle.motion_plant.specs.Driven.{IsAlive, IsDriven}
use Rattle.motion_plant.specs.Jobs.{job_lines}
use Rattle.motion_plant.specs.Lines.{drive_of}
use Rattle.motion_plant.specs.Makers.{entries_by}
use Rattle.motion_plant.specs.Places.{Each}
use Rattle.motion_plant.specs.TaskEnds.{TaskMeets}
use Rattle.motion_plant.specs.declared.task_job.TaskJob.{TaskJob}
use Rattle.plc_program.specs.declared.program.Instruction.{Instruction}
use Rattle.setpoint_ring.specs.declared.logs.DriveLog.{DriveLog}

-- a drive took its column of outputs, one a cycle, and sent an answer at opening and after each of
-- them, of which the last is the one that these lead to
pub record DriveMeets (d : DriveSim) (i : ℕ) (h : List Entry) (g : DriveLog) : Type 0 where
  pub took : g.took ≡ outputs_in i h
  pub taken : g.taken ≡ cycles_of h
  pub sent : g.sent ≡ suc (cycles_of h)
  pub last : g.last ≡ answer_of (drive_after d (outputs_in i h))

-- every task has ended, or all cycles were made, or there is no room
abbrev pub EndsSo : Setup → List Entry → Type 0
EndsSo s h = (live_tasks s h ≡ 0) ⊎ (cycles_of h ≡ s.cycles) ⊎ (length h ≡ s.entries)

-- what the jobs that were started come to together
pub record PlantMeets {G : Type 0} (s : Setup) (lines : List DriveLinkState)
    (seats : List (Snapshot (TaskJob G))) (h : List Entry) (logs : List DriveLog) : Type 0 where
  pub legal : IsLegal s h
  pub motion : KeepsHeadline s h
  pub tasks : Each (λ i (z : Snapshot (TaskJob G)). TaskMeets s (job_lines z.value) i h) seats
  pub drives : Each (λ i g. (l : DriveLinkState) × (slice_get lines i ≡ Some l) ×
      DriveMeets l.job.drive i h g) logs
  pub driven : Each (λ n. IsDriven s (map drive_of lines)) (entries_by s 0 h)
  pub in_time : Each (λ n c. suc n < length (entries_by s 0 h) → IsAlive s c) (entries_by s 0 h)
  pub ends : EndsSo s h

-- the run of a machine, its program and its drives: each reply and each row is the machine's; each
-- task has made the calls of its program, by its own replies, and where it has ended all of them
-- and its end; each drive took its outputs, in order and each once; each cycle takes the drives'
-- answers and comes where no task is quiet; and after each cycle but the last a task lives
pub record PlantRan (s : Setup) (program : List (List Instruction)) (drives : List DriveSim)
    (h : List Entry) (logs : List DriveLog) : Type 0 where
  pub legal : IsLegal s h
  pub motion : KeepsHeadline s h
  pub tasks : Each (λ t lines. TaskMeets s lines t h) program
  pub logged : length logs ≡ length drives
  pub drives_meet : (i : ℕ) (d : DriveSim) (g : DriveLog) → slice_get drives i ≡ Some d →
      slice_get logs i ≡ Some g → DriveMeets d i h g
  pub driven : Each (λ n. IsDriven s drives) (entries_by s 0 h)
  pub in_time : Each (λ n c. suc n < length (entries_by s 0 h) → IsAlive s c) (entries_by s 0 h)
  pub ends : EndsSo s h
