-- The run of a bench: the history that the events of its file make, with the drives in step.
use Rattle.std.specs.Prelude.{ℕ, ◌+◌, ◌-◌, ◌==◌, ◌&&◌, Bool, true, false, if◌then◌else◌, Result, Ok, Err, List, [], ◌∷◌, ◌++◌, length, map, replicate}
use Rattle.std.specs.List.{flat_map}
use Rattle.plc_types.specs.declared.axis.AxisRow.{AxisRow}
use Rattle.bench_text.specs.BenchState.{BenchState}
use Rattle.bench_text.specs.declared.bench.BenchLine.{BenchLine}
use Rattle.bench_text.specs.declared.bench.BenchLine.TheVariants.{Call, Cycles, End}
use Rattle.drive_sim.specs.Sim.{DriveSim}
use Rattle.drive_sim.specs.Steps.{answer_of}
use Rattle.plc_types.specs.declared.inputs.Inputs.{Inputs}
use Rattle.motion_history.specs.Entries.{Entry, call, cycle, end_of, cycles_of}
use Rattle.motion_history.specs.Setup.{Setup}
use Rattle.motion_kernel.specs.calls.Calls.{reply_of}
use Rattle.motion_kernel.specs.cycles.Cycles as machine
use Rattle.motion_kernel.specs.Histories.{machine_after}
use Rattle.machine_drives.specs.Drives.{drive_end, drives_at_opening, drives_stepped}
use Rattle.trace_text.specs.declared.drive_end.DriveEndRow.{DriveEndRow}
use Rattle.bench_run.specs.declared.bench.RunFault.{RunFault}
use Rattle.bench_run.specs.declared.bench.RunFault.TheVariants.{CyclesOver, HistoryFull}

-- an event of a bench: a call of a block, a cycle, or the end of a task
pub data Event : Type 0 where
  a_call : ℕ → Inputs → Event
  a_cycle : Event
  an_end : ℕ → Event

-- the events of a line: a line of cycles has this many
unfoldable pub events_of : BenchLine → List Event
events_of (Call k i) = a_call k i ∷ []
events_of (Cycles n) = replicate n a_cycle
events_of (End t) = an_end t ∷ []

-- a run so far: its history, its drives, and why it ended, if an event couldn't be made. This
-- project's profile
pub record Run : Type 0 where
  pub history : List Entry
  pub drives : List DriveSim
  pub ending : Result (Unit {0}) RunFault

-- whether an event is a cycle
abbrev pub is_cycle : Event → Bool
is_cycle (a_call k i) = false
is_cycle a_cycle = true
is_cycle (an_end t) = false

-- an event is tried for cycles first, where it is one, and then for room. This project's profile
unfoldable pub room_for : Setup → List Entry → Bool → Result (Unit {0}) RunFault
room_for s es cycles =
    if cycles && (s.cycles - cycles_of es == 0) then Err CyclesOver
    else if s.entries - length es == 0 then Err HistoryFull else Ok tt

-- a call with the machine's reply
abbrev pub called : Setup → ℕ → Inputs → Run → Run
called s k i r = record r {
  history = r.history ++ call k i (reply_of s (machine_after s r.history) k i) ∷ [];
}

-- a cycle: the machine takes the drives' answers, and each drive makes a step with its output. This
-- project's profile
unfoldable pub cycled : Setup → Run → Run
cycled s r =
    let rows = machine.cycled s (machine_after s r.history) (map answer_of r.drives) in
    record r {
      history = r.history ++ cycle (cycles_of r.history + 1) rows.axes rows.groups ∷ [];
      drives = drives_stepped 0 r.drives (map (λ (row : AxisRow). row.output) rows.axes);
    }

-- the end of a task
abbrev pub ended : ℕ → Run → Run
ended t r = record r { history = r.history ++ end_of t ∷ [] }

-- an event for which there is room
abbrev pub happened : Setup → Event → Run → Run
happened s (a_call k i) r = called s k i r
happened s a_cycle r = cycled s r
happened s (an_end t) r = ended t r

-- an event, where there is room for it; else it ends the run
abbrev pub tried : Setup → Event → Run → Result (Unit {0}) RunFault → Run
tried s e r (Ok u) = happened s e r
tried s e r (Err fault) = record r { ending = Err fault }

-- the next event of a run, if it goes on
abbrev pub next_of : Setup → Event → Run → Result (Unit {0}) RunFault → Run
next_of s e r (Ok u) = tried s e r (room_for s r.history (is_cycle e))
next_of s e r (Err fault) = r

unfoldable pub made : Setup → Event → Run → Run
made s e r = next_of s e r r.ending

-- events one after another
unfoldable pub made_all : Setup → List Event → Run → Run
made_all s [] r = r
made_all s (e ∷ es) r = made_all s es (made s e r)

-- the events of a bench
abbrev pub events_in : BenchState → List Event
events_in b = flat_map events_of b.lines

-- how many cycles are among some events
abbrev pub cycles_in : List Event → ℕ
cycles_in [] = 0
cycles_in (e ∷ es) = (if is_cycle e then 1 else 0) + cycles_in es

-- a run at its beginning, with these drives
abbrev pub first_run : List DriveSim → Run
first_run drives = record { history = []; drives = drives; ending = Ok tt }

abbrev pub run_at_opening : BenchState → Run
run_at_opening b = first_run (drives_at_opening b.config.axes b.drives)

-- the run of a bench: the events of its file one after another. This project's profile
unfoldable pub run_of : BenchState → Run
run_of b = made_all b.config (events_in b) (run_at_opening b)

-- what the drives took by the end of a run
abbrev pub drive_ends : Run → List DriveEndRow
drive_ends r = map (drive_end (cycles_of r.history)) r.drives
