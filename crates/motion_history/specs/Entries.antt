-- What contracts see of a history. This project's profile.
use Rattle.std.specs.Prelude.{◌≡◌, ℕ, ◌+◌, List, [], ◌∷◌, ◌++◌}
use Rattle.plc_types.specs.declared.axis.AxisRow.{AxisRow}
use Rattle.plc_types.specs.declared.inputs.Inputs.{Inputs}
use Rattle.plc_types.specs.declared.outputs.Outputs.{Outputs}
use Rattle.plc_types.specs.declared.group.GroupRow.{GroupRow}

-- one event and what came of it: a block's call with its inputs and its reply, a cycle with its
-- number and the rows of the axes and groups, or the end of a task
pub data Entry : Type 0 where
  call : ℕ → Inputs → Outputs → Entry
  cycle : ℕ → List AxisRow → List GroupRow → Entry
  end_of : ℕ → Entry

-- how many cycles an entry is
abbrev pub cycle_count : Entry → ℕ
cycle_count (call k inputs reply) = 0
cycle_count (cycle n axes groups) = 1
cycle_count (end_of task) = 0

-- how many cycles the entries have
abbrev pub cycles_of : List Entry → ℕ
cycles_of [] = 0
cycles_of (e ∷ es) = cycle_count e + cycles_of es

-- one entry more adds its own cycles
abbrev pub CyclesAddUp : Type 0
CyclesAddUp = (es : List Entry) (e : Entry) →
    cycles_of (es ++ e ∷ []) ≡ cycles_of es + cycle_count e

-- a history: the number of its axes and groups, its room for entries and for cycles, its entries,
-- and the rows that a cycle in the making has so far
pub record HistoryState : Type 0 where
  pub axes : ℕ
  pub groups : ℕ
  pub room : ℕ
  pub cycles : ℕ
  pub entries : List Entry
  pub rows : List AxisRow
  pub group_rows : List GroupRow
