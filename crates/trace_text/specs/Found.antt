-- What is found in a trace. This project's profile.
use Rattle.std.specs.Prelude.{ℕ, ℤ, List}
use Rattle.plc_types.specs.declared.axis.AxisRow.{AxisRow}
use Rattle.plc_types.specs.declared.group.GroupRow.{GroupRow}

-- a cycle that is found, or a part of it: its number, its rows, and the places that its drives
-- reported, none of them in version 1
pub record CycleFound : Type 0 where
  pub number : ℕ
  pub axes : List AxisRow
  pub groups : List GroupRow
  pub places : List ℤ
