-- Laws of switches. This project's profile.
use Rattle.std.specs.Prelude.{◌≡◌, ◌↔◌, ℕ, zero, suc, true, ℤ, Some, List, slice_get}
use Rattle.std.specs.List.{Contains}
use Rattle.plc_types.specs.declared.axis.AxisRow.{AxisRow}
use Rattle.switch_text.specs.Edges.{IsEdgeOf, edge_of, edges_of}
use Rattle.switch_text.specs.Switches.{IsOn, is_on}
use Rattle.switch_text.specs.Watches.{edge_after, watch_after, watch_at, watch_of}
use Rattle.switch_text.specs.declared.edge.Edge.{Edge}
use Rattle.switch_text.specs.declared.switch.Switch.{Switch}

-- a switch is on after setpoints exactly where there is one since which it is
abbrev pub OnIsAsSaid : Type 0
OnIsAsSaid = (s : Switch) → (column : List ℤ) → (is_on s column ≡ true) ↔ IsOn s column

-- a switch goes on by one cycle more to where it is after it, with its edge there
pub record WatchesGoOn : Type 0 where
  pub first : (cycles : List (List AxisRow)) → (s : Switch) → watch_at cycles zero s ≡ watch_of s
  pub next : (cycles : List (List AxisRow)) → (k : ℕ) → (rows : List AxisRow) → (s : Switch) →
      slice_get cycles k ≡ Some rows →
      watch_after rows (watch_at cycles k s) ≡ watch_at cycles (suc k) s
  pub edges : (cycles : List (List AxisRow)) → (k : ℕ) → (rows : List AxisRow) → (s : Switch) →
      slice_get cycles k ≡ Some rows →
      edge_after (suc k) rows (watch_at cycles k s) ≡ edge_of cycles k s

-- the edges of switches are those where one of them turns
abbrev pub EdgesAreAsSaid : Type 0
EdgesAreAsSaid = (ss : List Switch) → (cycles : List (List AxisRow)) → (e : Edge) →
    Contains (edges_of ss cycles) e ↔ IsEdgeOf ss cycles e
