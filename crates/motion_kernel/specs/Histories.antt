-- Which histories are legal: those that the machine makes (this project's profile).
use Rattle.std.specs.Prelude.{◌≡◌, ℕ, ◌+◌, ◌<◌, ◌≤◌, List, [], ◌∷◌, length, map}
use Rattle.std.specs.List.{All}
use Rattle.plc_types.specs.Counts.{IsCount}
use Rattle.plc_types.specs.declared.axis.AxisRow.{AxisRow}
use Rattle.plc_types.specs.declared.drive.DriveIn.{DriveIn}
use Rattle.plc_types.specs.declared.group.GroupRow.{GroupRow}
use Rattle.motion_history.specs.Calls.{IsCall}
use Rattle.motion_history.specs.Entries.{Entry, call, cycle, cycle_count, cycles_of, end_of}
use Rattle.motion_history.specs.Setup.{Setup}
use Rattle.motion_kernel.specs.calls.Calls.{after_call, reply_of}
use Rattle.motion_kernel.specs.cycles.Cycles.{after_cycle, cycled}
use Rattle.motion_kernel.specs.Machine.{Machine, machine_at_opening}

-- the drives' answers that the rows of a cycle show
abbrev pub inputs_of : List AxisRow → List DriveIn
inputs_of rows = map (λ (r : AxisRow). r.input) rows

-- the machine after an entry of its history
abbrev pub after : Setup → Machine → Entry → Machine
after s m (call k i reply) = after_call s m k i
after s m (cycle n rows grows) = after_cycle s m (inputs_of rows)
after s m (end_of task) = m

-- the machine after the entries of a history: its replay
abbrev pub replay : Setup → Machine → List Entry → Machine
replay s m [] = m
replay s m (e ∷ es) = replay s (after s m e) es

-- the machine after a history
unfoldable pub machine_after : Setup → List Entry → Machine
machine_after s es = replay s (machine_at_opening s) es

-- the machine after entries from where it was
unfoldable pub machine_from : Setup → Machine → List Entry → Machine
machine_from s m es = replay s m es

-- a cycle is the machine's: one answer for each axis, whose count has 32 bits and is else free, and
-- the rows that these answers make
pub record IsCycleOf (s : Setup) (m : Machine) (rows : List AxisRow) (grows : List GroupRow)
    : Type 0 where
  pub answers : length rows ≡ length m.axes
  pub counts : All (λ (d : DriveIn). IsCount d.actual) (inputs_of rows)
  pub axes : rows ≡ (cycled s m (inputs_of rows)).axes
  pub groups : grows ≡ (cycled s m (inputs_of rows)).groups

-- an entry is the machine's, after this many cycles
abbrev pub IsOf : Setup → ℕ → Machine → Entry → Type 0
IsOf s cycles m (call k i reply) = IsCall s k i × (reply ≡ reply_of s m k i)
IsOf s cycles m (cycle n rows grows) = (n ≡ cycles + 1) × IsCycleOf s m rows grows
IsOf s cycles m (end_of task) = task < length s.tasks

-- each entry is the machine's after those before it
abbrev pub Follows : Setup → ℕ → Machine → List Entry → Type 0
Follows s cycles m [] = Unit {0}
Follows s cycles m (e ∷ es) =
    IsOf s cycles m e × Follows s (cycles + cycle_count e) (after s m e) es

-- a history is legal from a machine on: it keeps within the room of a configuration, and folding
-- that machine gives each reply and each row
pub record IsLegalFrom (s : Setup) (m : Machine) (es : List Entry) : Type 0 where
  pub entries : length es ≤ s.entries
  pub cycles : cycles_of es ≤ s.cycles
  pub follows : Follows s 0 m es

-- a history is legal for a configuration: it is so from the machine at opening on
abbrev pub IsLegal : Setup → List Entry → Type 0
IsLegal s es = IsLegalFrom s (machine_at_opening s) es

-- entries are the machine's from opening on, however many
pub record IsPast (s : Setup) (es : List Entry) : Type 0 where
  pub follows : Follows s 0 (machine_at_opening s) es
