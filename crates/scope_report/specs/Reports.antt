-- The scope report of a trace. This project's profile.
use Rattle.std.specs.Prelude.{ℕ, suc, List, [], ◌∷◌, length, count_by}
use Rattle.plc_types.specs.declared.axis.AxisDef.{AxisDef}
use Rattle.plc_types.specs.declared.axis.AxisRow.{AxisRow}
use Rattle.plc_types.specs.declared.outputs.Outputs.{Outputs}
use Rattle.motion_history.specs.Entries.{Entry}
use Rattle.motion_history.specs.declared.config.BlockDef.{BlockDef}
use Rattle.trace_text.specs.TraceState.{TraceState, entries_of}
use Rattle.scope_report.specs.Replies.{replies_of}
use Rattle.scope_report.specs.Rows.{rows_of}
use Rattle.scope_report.specs.Setpoints.{driven_of, greatest_of, least_of, neighbours_of, setpoints_of, still_of, travel_of}
use Rattle.scope_report.specs.declared.report.AxisReport.{AxisReport}
use Rattle.scope_report.specs.declared.report.BlockReport.{BlockReport}

-- what is reported of an axis by all its rows: how many are driven, the least and the greatest
-- setpoint of these, in how many rows it stands where it stood, and how far it went
abbrev pub axis_report_of : List ℕ → List AxisRow → AxisReport
axis_report_of name rows = record {
  name = name;
  driven = length (driven_of rows);
  least = least_of (setpoints_of (driven_of rows));
  greatest = greatest_of (setpoints_of (driven_of rows));
  still = still_of (neighbours_of (setpoints_of rows));
  travel = travel_of (neighbours_of (setpoints_of rows));
}

-- what is reported of a block by all its replies: how many there are, and how many show Done and
-- Error
abbrev pub block_report_of : List ℕ → List Outputs → BlockReport
block_report_of name replies = record {
  name = name;
  calls = length replies;
  done = count_by (λ (o : Outputs). o.done) replies;
  errors = count_by (λ (o : Outputs). o.error) replies;
}

-- the reports of axes, from this number on
abbrev pub axis_reports_from : ℕ → List AxisDef → List Entry → List AxisReport
axis_reports_from axis [] es = []
axis_reports_from axis (def ∷ defs) es =
    axis_report_of def.name (rows_of axis es) ∷ axis_reports_from (suc axis) defs es

-- the reports of blocks, from this number on
abbrev pub block_reports_from : ℕ → List BlockDef → List Entry → List BlockReport
block_reports_from block [] es = []
block_reports_from block (def ∷ defs) es =
    block_report_of def.name (replies_of block es) ∷ block_reports_from (suc block) defs es

-- what is reported of each axis and of each block
pub record ReportState : Type 0 where
  pub axes : List AxisReport
  pub blocks : List BlockReport

-- the report of a trace, by all its entries
abbrev pub report_of : TraceState → ReportState
report_of t = record {
  axes = axis_reports_from 0 t.config.axes (entries_of t);
  blocks = block_reports_from 0 t.config.blocks (entries_of t);
}
