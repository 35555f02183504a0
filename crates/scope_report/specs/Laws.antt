-- What a report says, in plain words. This project's profile.
use Rattle.std.specs.Prelude.{◌≡◌, ◌≤ℤ◌, ◌<◌, ◌+◌, ◌-◌, ◌-ℤ◌, ℕ, ℤ, pos, unsigned_abs, Option, Some, None, List, [], length, slice_get, slice_index_or, count_by, All, Contains}
use Rattle.std.specs.List.{sum_by}
use Rattle.std.specs.Ordering.{int_eq}
use Rattle.plc_types.specs.declared.axis.AxisDef.{AxisDef}
use Rattle.plc_types.specs.declared.axis.AxisRow.{AxisRow}
use Rattle.motion_history.specs.declared.config.BlockDef.{BlockDef}
use Rattle.trace_text.specs.TraceState.{TraceState, entries_of}
use Rattle.scope_report.specs.Replies.{replies_of}
use Rattle.scope_report.specs.Reports.{block_report_of, report_of}
use Rattle.scope_report.specs.Rows.{rows_of}
use Rattle.scope_report.specs.Setpoints.{driven_of, setpoints_of}
use Rattle.scope_report.specs.declared.report.AxisReport.{AxisReport}
use Rattle.scope_report.specs.declared.report.BlockReport.{BlockReport}

-- one of the numbers, and none is below it; or there are no numbers
abbrev pub IsLeast : List ℤ → Option ℤ → Type 0
IsLeast xs None = xs ≡ []
IsLeast xs (Some least) = Contains xs least × All (λ x. least ≤ℤ x) xs

-- one of the numbers, and none is above it; or there are no numbers
abbrev pub IsGreatest : List ℤ → Option ℤ → Type 0
IsGreatest xs None = xs ≡ []
IsGreatest xs (Some greatest) = Contains xs greatest × All (λ x. x ≤ℤ greatest) xs

-- each number that has one after it, with that one, in order
pub record AreNeighbours (xs : List ℤ) (pairs : List (ℤ × ℤ)) : Type 0 where
  pub count : length pairs ≡ length xs - 1
  pub each : (place : ℕ) → place + 1 < length xs → slice_get pairs place ≡
      Some (slice_index_or xs place (pos 0), slice_index_or xs (place + 1) (pos 0))

-- what a report says of an axis, by all rows of the axis
pub record SaysOfRows (rows : List AxisRow) (r : AxisReport) : Type 0 where
  -- the number of driven rows, and their least and greatest setpoint
  pub driven : r.driven ≡ length (driven_of rows)
  pub least : IsLeast (setpoints_of (driven_of rows)) r.least
  pub greatest : IsGreatest (setpoints_of (driven_of rows)) r.greatest
  -- of each two setpoints after each other: how many are equal, and the sum of their distances
  pub pairs : List (ℤ × ℤ)
  pub neighbours : AreNeighbours (setpoints_of rows) pairs
  pub still : r.still ≡ count_by (λ (p : ℤ × ℤ). int_eq p.0 p.1) pairs
  pub travel : r.travel ≡ sum_by (λ (p : ℤ × ℤ). unsigned_abs (p.1 -ℤ p.0)) pairs

-- the report of an axis has its name, and says this of its rows
pub record SaysOfAxis (t : TraceState) (axis : ℕ) (def : AxisDef) (r : AxisReport) : Type 0 where
  pub name : r.name ≡ def.name
  pub rows : SaysOfRows (rows_of axis (entries_of t)) r

-- the report of a trace is on each axis and of each block of the trace, at its place
pub record SaysOfEach (t : TraceState) : Type 0 where
  pub axes : length (report_of t).axes ≡ length t.config.axes
  pub blocks : length (report_of t).blocks ≡ length t.config.blocks
  pub each_axis : (axis : ℕ) (def : AxisDef) (r : AxisReport) →
      slice_get t.config.axes axis ≡ Some def → slice_get (report_of t).axes axis ≡ Some r →
      SaysOfAxis t axis def r
  pub each_block : (block : ℕ) (def : BlockDef) (r : BlockReport) →
      slice_get t.config.blocks block ≡ Some def → slice_get (report_of t).blocks block ≡ Some r →
      r ≡ block_report_of def.name (replies_of block (entries_of t))
