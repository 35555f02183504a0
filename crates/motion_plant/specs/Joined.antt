-- The passes of tasks, joined one after another. This project's profile.
use Rattle.std.specs.Prelude.{◌≡◌, ℕ, suc, ◌+◌, ◌<◌, List, [], length, map, Bool, false, true}
use Rattle.std.specs.declared.snapshot.Snapshot.{Snapshot}
use mathlib.Core.List.{IsPrefix}
use Rattle.atomic_table.specs.Seated.{TableId}
use Rattle.drive_jobs.specs.DriveLinkState.{DriveLinkState}
use Rattle.kernel_turn.specs.PermitState.{PermitState}
use Rattle.motion_history.specs.Setup.{Setup}
use Rattle.motion_plant.specs.Cycling.{EndsBy, IsCycle}
use Rattle.motion_plant.specs.Driven.{IsAlive}
use Rattle.motion_plant.specs.Lines.{HasColumn, job_of}
use Rattle.motion_plant.specs.Makers.{IsUpTo, Logged, Owns, own_entries, own_entries_by}
use Rattle.motion_plant.specs.Places.{Each}
use Rattle.motion_plant.specs.TaskEnds.{TaskMade}
use Rattle.motion_plant.specs.declared.cycles.Ending.{Ending}
use Rattle.motion_plant.specs.declared.cycles.Ending.TheVariants as endings
use Rattle.motion_plant.specs.declared.task_job.TaskJob.{TaskJob}
use Rattle.plc_program.specs.declared.program.Instruction.{Instruction}

-- what no turn, stop or join changes
abbrev pub kept_part : PermitState → PermitState
kept_part p = record p { seen = []; own = []; made_stop = false; met_stop = false; out = 0 }

-- the cycles have come to their end, and a stop was made where none is left
pub record IsStopped (first : PermitState) (lines_first : List DriveLinkState) (k : PermitState)
    (lines : List DriveLinkState) (ending : Ending) : Type 0 where
  pub kept : kept_part k ≡ kept_part first
  pub out : k.out ≡ first.out
  pub stops : ending ≡ endings.Full → k.made_stop ≡ first.made_stop
  pub made : ending ≡ endings.Over → k.made_stop ≡ true
  pub owns : Owns (IsUpTo first.config 0) k.own k.seen
  pub columns : Each (HasColumn (own_entries k.own k.seen)) lines
  pub cycles : Each (IsCycle first.config lines) (own_entries k.own k.seen)
  pub alive : Each (λ n c. suc n < length (own_entries k.own k.seen) → IsAlive first.config c)
      (own_entries k.own k.seen)
  pub jobs : map job_of lines ≡ map job_of lines_first
  pub width : length lines ≡ length first.config.axes
  pub ends : EndsBy first.config k ending

-- the job of the task i is of this kernel and this configuration, and its permit has made no stop
pub record IsSeated {G : Type 0} (table : TableId) (s : Setup) (i : ℕ) (z : Snapshot (TaskJob G))
    : Type 0 where
  pub table_is : z.value.permit.table ≡ table
  pub task : z.value.task ≡ i
  pub config : z.value.permit.config ≡ s
  pub stops : z.value.permit.made_stop ≡ false

-- the passes of the first k tasks were joined into this one, which had made these cycles
pub record IsJoinedUpTo (cs : List Logged) (first : PermitState) (k : ℕ) (now : PermitState)
    : Type 0 where
  pub kept : kept_part now ≡ kept_part first
  pub out : now.out + k ≡ first.out
  pub owns : Owns (IsUpTo first.config k) now.own now.seen
  pub cycles : own_entries_by first.config 0 now.own now.seen ≡ cs
  pub begins : IsPrefix first.seen now.seen
  pub stops : now.made_stop ≡ first.made_stop
  pub met : now.met_stop ≡ false → first.met_stop ≡ false

-- among the entries of this pass are those of a task
abbrev pub HasMade : List Instruction → Setup → ℕ → PermitState → Type 0
HasMade lines s t now =
    (ended : Bool) × TaskMade lines t ended (own_entries_by s (suc t) now.own now.seen)
