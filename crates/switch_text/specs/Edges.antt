-- The edges of switches. This project's profile.
use Rattle.std.specs.Prelude.{ℕ, zero, suc, Bool, true, false, Option, Some, None, List, [], ◌++◌, length, not, ◌<◌, ◌≡◌}
use Rattle.std.specs.List.{Contains, flat_map}
use Rattle.std.specs.Option.{option_to_list}
use Rattle.plc_types.specs.declared.axis.AxisRow.{AxisRow}
use Rattle.switch_text.specs.Columns.{on_at}
use Rattle.switch_text.specs.declared.edge.Edge.{Edge}
use Rattle.switch_text.specs.declared.switch.Switch.{Switch}

-- the edge of a switch at a cycle: it was off and is on, or it was on and is off
unfoldable pub edge_by : List ℕ → ℕ → Bool → Bool → Option Edge
edge_by name cycle false false = None
edge_by name cycle false true = Some (record { name = name; cycle = cycle; on = true })
edge_by name cycle true false = Some (record { name = name; cycle = cycle; on = false })
edge_by name cycle true true = None

-- the edge of a switch at the cycle after this many
unfoldable pub edge_of : List (List AxisRow) → ℕ → Switch → Option Edge
edge_of cycles k s = edge_by s.name (suc k) (on_at s cycles k) (on_at s cycles (suc k))

-- the edges of switches at the cycle after this many, in the order of the switches
abbrev pub edges_at : List Switch → List (List AxisRow) → ℕ → List Edge
edges_at ss cycles k = flat_map (λ s. option_to_list (edge_of cycles k s)) ss

-- their edges up to a cycle, one cycle after another
abbrev pub edges_to : List Switch → List (List AxisRow) → ℕ → List Edge
edges_to ss cycles zero = []
edges_to ss cycles (suc k) = edges_to ss cycles k ++ edges_at ss cycles k

-- their edges in all cycles
abbrev pub edges_of : List Switch → List (List AxisRow) → List Edge
edges_of ss cycles = edges_to ss cycles (length cycles)

-- an edge is one of a switch: after this many cycles one of the switches is not what the edge says,
-- and at the next cycle it is
pub record IsEdgeOf (ss : List Switch) (cycles : List (List AxisRow)) (e : Edge) : Type 0 where
  pub before : ℕ
  pub there : before < length cycles
  pub cycle : e.cycle ≡ suc before
  pub switch : Switch
  pub among : Contains ss switch
  pub name : e.name ≡ switch.name
  pub was : on_at switch cycles before ≡ not e.on
  pub is : on_at switch cycles (suc before) ≡ e.on
