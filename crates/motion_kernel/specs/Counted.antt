-- Which counts the rows of pasts have.
use Rattle.std.specs.Prelude.{◌≡◌, ℕ, pos, List, ◌∷◌, ◌++◌, FitsSigned}
use Rattle.std.specs.Int.{w64}
use Rattle.std.specs.List.{AllZip}
use Rattle.plc_types.specs.Counts.{HasCounts, IsCount, place_of}
use Rattle.plc_types.specs.declared.axis.AxisDef.{AxisDef}
use Rattle.plc_types.specs.declared.axis.AxisRow.{AxisRow}
use Rattle.plc_types.specs.declared.group.GroupRow.{GroupRow}
use Rattle.motion_history.specs.Entries.{Entry, cycle}
use Rattle.motion_history.specs.Setup.{Setup}

-- with the offset of a row the places within the limits of its axis have counts of 32 bits; its
-- drive reported one, whose place has 64 bits, and is given mode 8. IEC 61800-7-201, objects 607Ah,
-- 6064h and 6060h
pub record IsCounted (d : AxisDef) (r : AxisRow) : Type 0 where
  pub places : HasCounts d.limits r.offset d.inc
  pub reported : IsCount r.input.actual
  pub place : FitsSigned w64 (place_of d.limits.lo r.input.actual r.offset d.inc)
  pub mode : r.output.mode ≡ pos 8

-- so it is with each row of each cycle
abbrev pub RowsAreCounted : Setup → List Entry → Type 0
RowsAreCounted s es =
    (made more : List Entry) (n : ℕ) (rows : List AxisRow) (grows : List GroupRow) →
    es ≡ made ++ cycle n rows grows ∷ more → AllZip IsCounted s.axes rows
