-- The lines of edges. This project's profile.
use Rattle.std.specs.Prelude.{ℕ, codes, decimal, if◌then◌else◌, List, [], ◌∷◌}
use Rattle.std.specs.List.{concat, flat_map}
use Rattle.plc_types.specs.declared.axis.AxisRow.{AxisRow}
use Rattle.switch_text.specs.Edges.{edges_of}
use Rattle.switch_text.specs.declared.edge.Edge.{Edge}
use Rattle.switch_text.specs.declared.switch.Switch.{Switch}
use Rattle.motion_history.specs.Entries.{Entry, call, cycle, end_of}

-- the rows of the axes in the cycles of some entries, cycle by cycle
abbrev pub cycles_in : List Entry → List (List AxisRow)
cycles_in [] = []
cycles_in (call k inputs reply ∷ es) = cycles_in es
cycles_in (cycle n axes groups ∷ es) = axes ∷ cycles_in es
cycles_in (end_of task ∷ es) = cycles_in es

-- `NAME CYCLE on`, or `NAME CYCLE off`
unfoldable pub edge_line : Edge → List ℕ
edge_line e = concat
    (e.name ∷ codes " " ∷ decimal e.cycle ∷ (if e.on then codes " on\n" else codes " off\n") ∷ [])

-- the lines of the edges of switches in the cycles, by cycle and then in the order of the switches
unfoldable pub edges_text : List Switch → List (List AxisRow) → List ℕ
edges_text ss cycles = flat_map edge_line (edges_of ss cycles)
