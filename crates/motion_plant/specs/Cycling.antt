-- How far the loop of the cycles has come, and how it ends. This project's profile.
use Rattle.std.specs.Prelude.{◌≡◌, ℕ, zero, suc, ◌<◌, ◌≤◌, List, [], ◌∷◌, ◌++◌, map, length, false, slice_get}
use Rattle.plc_types.specs.declared.axis.AxisRow.{AxisRow}
use Rattle.plc_types.specs.declared.drive.DriveIn.{DriveIn}
use Rattle.plc_types.specs.declared.drive.DriveOut.{DriveOut}
use Rattle.drive_jobs.specs.DriveLinkState.{DriveLinkState}
use Rattle.kernel_turn.specs.PermitState.{PermitState}
use Rattle.motion_history.specs.Entries.{Entry, cycles_of}
use Rattle.motion_history.specs.Setup.{Setup}
use Rattle.motion_kernel.specs.Histories.{machine_after}
use Rattle.motion_kernel.specs.Tasks.{live_tasks, quiet_tasks}
use Rattle.motion_kernel.specs.cycles.Cycles as machine
use Rattle.motion_plant.specs.Calls.{fixed_part}
use Rattle.motion_plant.specs.Driven.{IsAlive, cycle_with}
use Rattle.motion_plant.specs.Lines.{HasColumn, IsInStep, job_of}
use Rattle.motion_plant.specs.Makers.{IsUpTo, Logged, Owns, own_entries}
use Rattle.motion_plant.specs.Places.{Each}
use Rattle.motion_plant.specs.declared.cycles.Ending.{Ending}
use Rattle.motion_plant.specs.declared.cycles.Ending.TheVariants as endings
use Rattle.motion_plant.specs.declared.cycles.Step.{Step}
use Rattle.motion_plant.specs.declared.cycles.Step.TheVariants as steps

-- the n-th cycle: it comes where no task is quiet, and is the machine's for the n-th answers
pub record IsCycle (s : Setup) (lines : List DriveLinkState) (n : ℕ) (c : Logged) : Type 0 where
  pub ins : List DriveIn
  pub entry_is : c.entry ≡ cycle_with s c.before ins
  pub width : length ins ≡ length lines
  pub quiet : quiet_tasks s c.before ≡ 0
  pub taken : Each (λ i (l : DriveLinkState). slice_get l.ins n ≡ slice_get ins i) lines

-- turns have made one cycle more, for these answers and with these outputs
pub record MadeCycle (s : Setup) (ins : List DriveIn) (outs : List DriveOut) (live : ℕ)
    (a b : PermitState) : Type 0 where
  pub before : List Entry
  pub made : own_entries b.own b.seen ≡ own_entries a.own a.seen ++
      record { before = before; entry = cycle_with s before ins } ∷ []
  pub quiet : quiet_tasks s before ≡ 0
  pub outs_are : outs ≡
      map (λ (r : AxisRow). r.output) (machine.cycled s (machine_after s before) ins).axes
  pub more : suc (cycles_of a.seen) ≤ cycles_of b.seen
  pub few : cycles_of b.seen ≤ s.cycles
  pub seen : b.seen ≡ before ++ cycle_with s before ins ∷ []
  pub live_is : live ≡ live_tasks s b.seen

-- turns have made no entry
pub record MadeNone (a b : PermitState) : Type 0 where
  pub made : own_entries b.own b.seen ≡ own_entries a.own a.seen
  pub longer : cycles_of a.seen ≤ cycles_of b.seen

-- why the loop ends: no task lives, all cycles were made, or there is no room, unless a stop was
-- met
abbrev pub EndsBy : Setup → PermitState → Ending → Type 0
EndsBy s k endings.Done = live_tasks s k.seen ≡ 0
EndsBy s k endings.Over = cycles_of k.seen ≡ s.cycles
EndsBy s k endings.Full = k.met_stop ≡ false → length k.seen ≡ s.entries

-- what the turns of one cycle come to
abbrev pub Stepped : Setup → List DriveIn → List DriveOut → PermitState → PermitState → Step → Type 0
Stepped s ins outs a b (steps.Made live) = MadeCycle s ins outs live a b
Stepped s ins outs a b steps.Over = MadeNone a b × EndsBy s b endings.Over
Stepped s ins outs a b steps.Full = MadeNone a b × EndsBy s b endings.Full

-- this many cycles were made, of which the lines have the outputs and answers, and after each a
-- task lives
pub record IsCycling (first : PermitState) (lines_first : List DriveLinkState) (made : ℕ) (k : PermitState)
    (lines : List DriveLinkState) : Type 0 where
  pub fixed : fixed_part k ≡ fixed_part first
  pub owns : Owns (IsUpTo first.config 0) k.own k.seen
  pub stand : Each (IsInStep (own_entries k.own k.seen)) lines
  pub cycles : Each (IsCycle first.config lines) (own_entries k.own k.seen)
  pub alive : Each (λ n. IsAlive first.config) (own_entries k.own k.seen)
  pub jobs : map job_of lines ≡ map job_of lines_first
  pub width : length lines ≡ length first.config.axes
  pub count : made ≡ length (own_entries k.own k.seen)
  pub few : made ≤ cycles_of k.seen

-- the cycles have come to their end; after each but the last a task lives
pub record IsCycled (first : PermitState) (lines_first : List DriveLinkState) (k : PermitState)
    (lines : List DriveLinkState) (ending : Ending) : Type 0 where
  pub fixed : fixed_part k ≡ fixed_part first
  pub owns : Owns (IsUpTo first.config 0) k.own k.seen
  pub columns : Each (HasColumn (own_entries k.own k.seen)) lines
  pub cycles : Each (IsCycle first.config lines) (own_entries k.own k.seen)
  pub alive : Each (λ n c. suc n < length (own_entries k.own k.seen) → IsAlive first.config c)
      (own_entries k.own k.seen)
  pub jobs : map job_of lines ≡ map job_of lines_first
  pub width : length lines ≡ length first.config.axes
  pub ends : EndsBy first.config k ending

-- what a step of the loop leaves: it goes on where a cycle was made and a task lives
abbrev pub Cycled : PermitState → List DriveLinkState → ℕ → PermitState → List DriveLinkState → Step → Type 0
Cycled first lines_first made k lines (steps.Made zero) =
    IsCycled first lines_first k lines endings.Done × (suc made ≤ first.config.cycles)
Cycled first lines_first made k lines (steps.Made (suc live)) =
    IsCycling first lines_first (suc made) k lines × (suc made ≤ first.config.cycles)
Cycled first lines_first made k lines steps.Over =
    IsCycled first lines_first k lines endings.Over
Cycled first lines_first made k lines steps.Full =
    IsCycled first lines_first k lines endings.Full
